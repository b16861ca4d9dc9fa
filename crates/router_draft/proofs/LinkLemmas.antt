-- Attachments after changes.
use Rattle.std.proofs.Common.{◌≡◌, ℕ, ◌==◌, true, false, List, refl, arith, inl, inr, ◌∙◌}
use Rattle.std.specs.Prelude.{not, ◌||◌, ◌&&◌, filter}
use Rattle.std.specs.List.{fold}
use Rattle.std.proofs.lemmas.Bool.{cases_Bool}
use Rattle.std.proofs.lemmas.Bool.Decides.{nat_tests}
use Rattle.router_state.specs.State.{State}
use Rattle.rows_sorted.specs.Orders.{pair_before, same_pair}
use Rattle.router_state.specs.Contexts.{is_link, is_linked, link_before, with_link}
use Rattle.router_state.specs.Changes.{after_change, after_changes}
use Rattle.router_state.specs.declared.change.Change.{Change}
use Rattle.router_state.specs.declared.change.Change.TheVariants as changes
use Rattle.router_state.specs.declared.rows.Link.{Link}
use Rattle.router_laws.proofs.ListLemmas.{any_kept, any_lost, any_put_own, any_put_other}
use Rattle.router_draft.proofs.ChangeLemmas.{through}
use Rattle.router_draft.specs.After.{linked_after}

-- two pairs of which one is looked for and the other one isn't stand one before the other
pair_apart : (b c e a e' a' : ℕ) → same_pair b c e a ≡ true → same_pair e' a' e a ≡ false → (pair_before c b a' e' || pair_before a' e' c b) ≡ true
pair_apart b c e a e' a' mine other = grind (arith, nat_tests)

pair_once : (b c e a e' a' : ℕ) → same_pair e' a' e a ≡ true → same_pair b c e a ≡ true → not (same_pair b c e' a') ≡ false
pair_once b c e a e' a' same mine = grind (arith, nat_tests)

pair_other : (b c e a e' a' : ℕ) → same_pair e' a' e a ≡ false → same_pair b c e a ≡ true → not (same_pair b c e' a') ≡ true
pair_other b c e a e' a' same mine = grind (arith, nat_tests)

on_same : (b c e a a' : ℕ) → (a' == a) ≡ true → same_pair b c e a ≡ true → not (c == a') ≡ false
on_same b c e a a' same mine = grind (arith, nat_tests)

on_other : (b c e a a' : ℕ) → (a' == a) ≡ false → same_pair b c e a ≡ true → not (c == a') ≡ true
on_other b c e a a' other mine = grind (arith, nat_tests)

attached_seen : (e a e' a' : ℕ) (links : List Link) → is_linked (with_link links e' a') e a ≡ (same_pair e' a' e a || is_linked links e a)
attached_seen e a e' a' links = elim (cases_Bool (same_pair e' a' e a)) [
  | inl same ↦ any_put_own link_before (is_link e a) (record { entity = record { 0 = e' }; activity = record { 0 = a' } }) links same ∙ (rw same refl)
  | inr other ↦
      any_put_other link_before (is_link e a) (record { entity = record { 0 = e' }; activity = record { 0 = a' } }) links other
      (λ (l : Link) mine. pair_apart l.entity.0 l.activity.0 e a e' a' mine other) ∙ (rw other refl)
]

detached_seen : (e a e' a' : ℕ) (links : List Link) → is_linked (filter (λ l. not (is_link e' a' l)) links) e a ≡ (not (same_pair e' a' e a) && is_linked links e a)
detached_seen e a e' a' links = elim (cases_Bool (same_pair e' a' e a)) [
  | inl same ↦ any_lost (is_link e a) (λ l. not (is_link e' a' l)) (λ (l : Link) mine. pair_once l.entity.0 l.activity.0 e a e' a' same mine) links ∙ (rw same refl)
  | inr other ↦ any_kept (is_link e a) (λ l. not (is_link e' a' l)) (λ (l : Link) mine. pair_other l.entity.0 l.activity.0 e a e' a' other mine) links ∙ (rw other refl)
]

dropped_seen : (e a a' : ℕ) (links : List Link) → is_linked (filter (λ l. not (l.activity.0 == a')) links) e a ≡ (not (a' == a) && is_linked links e a)
dropped_seen e a a' links = elim (cases_Bool (a' == a)) [
  | inl same ↦ any_lost (is_link e a) (λ l. not (l.activity.0 == a')) (λ (l : Link) mine. on_same l.entity.0 l.activity.0 e a a' same mine) links ∙ (rw same refl)
  | inr other ↦ any_kept (is_link e a) (λ l. not (l.activity.0 == a')) (λ (l : Link) mine. on_other l.entity.0 l.activity.0 e a a' other mine) links ∙ (rw other refl)
]

pub linked_is : (e a : ℕ) (c : Change) (s : State) → is_linked (after_change c s).links e a ≡ linked_after c e a (is_linked s.links e a)
linked_is e a (changes.Attach e' a') s = attached_seen e a e'.0 a'.0 s.links
linked_is e a (changes.Detach e' a') s = detached_seen e a e'.0 a'.0 s.links
linked_is e a (changes.DropContext a') s = dropped_seen e a a'.0 s.links
linked_is e a _ s = refl

pub linked_laid : (cs : List Change) (s : State) (e a : ℕ) → is_linked (after_changes cs s).links e a ≡ fold (λ was c. linked_after c e a was) (is_linked s.links e a) cs
linked_laid cs s e a = through (λ (t : State). is_linked t.links e a) (λ was c. linked_after c e a was) (λ c t. linked_is e a c t) cs s
