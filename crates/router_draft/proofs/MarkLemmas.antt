-- Whether an activity's head event was received by anybody, after changes.
use Rattle.std.proofs.Common.{◌≡◌, ℕ, ◌==◌, Bool, true, false, List, [], ◌∷◌, refl, ap, ◌∙◌, inl, inr, arith}
use Rattle.std.specs.Prelude.{not, ◌||◌, ◌&&◌}
use Rattle.std.specs.List.{fold, list_any}
use Rattle.std.proofs.lemmas.Bool.{cases_Bool}
use Rattle.std.proofs.lemmas.Bool.Decides.{nat_tests}
use Rattle.rows_sorted.specs.Orders.{pair_before}
use Rattle.router_state.specs.State.{State}
use Rattle.router_state.specs.Queues.{entity_mark_before, is_undelivered, with_entity_mark, without_entity_marks}
use Rattle.router_state.specs.Changes.{after_change, after_changes}
use Rattle.router_state.specs.declared.change.Change.{Change}
use Rattle.router_state.specs.declared.change.Change.TheVariants as changes
use Rattle.router_state.specs.declared.rows.EntityMark.{EntityMark}
use Rattle.router_laws.proofs.ListLemmas.{any_kept, any_lost, any_put_own, any_put_other}
use Rattle.router_draft.proofs.ChangeLemmas.{through}
use Rattle.router_draft.specs.After.{undelivered_after}

-- a mark stands beside the activity's head event
abbrev is_marked : List EntityMark → ℕ → Bool
is_marked marks a = list_any (λ m. m.activity.0 == a) marks

none_marked : (marks : List EntityMark) (a : ℕ) → is_undelivered marks a ≡ not (is_marked marks a)
none_marked [] a = refl
none_marked (m ∷ ms) a = elim (cases_Bool (m.activity.0 == a)) [
  | inl mine ↦ rw mine refl
  | inr other ↦ rw other (none_marked ms a)
]

-- two marks of which one is on the activity, and the other isn't, stand one before the other
apart : (b e a' e' a : ℕ) → (b == a) ≡ true → (a' == a) ≡ false → (pair_before b e a' e' || pair_before a' e' b e) ≡ true
apart b e a' e' a mine other = grind (arith, nat_tests)

marked_more : (a a' e : ℕ) (marks : List EntityMark) → is_marked (with_entity_mark marks a' e) a ≡ ((a' == a) || is_marked marks a)
marked_more a a' e marks =
    let row : EntityMark = record { activity = record { 0 = a' }; entity = record { 0 = e } } in
    elim (cases_Bool (a' == a)) [
      | inl same ↦ any_put_own entity_mark_before (λ (m : EntityMark). m.activity.0 == a) row marks same ∙ (rw same refl)
      | inr other ↦ any_put_other entity_mark_before (λ (m : EntityMark). m.activity.0 == a) row marks other (λ (m : EntityMark) mine. apart m.activity.0 m.entity.0 a' e a mine other) ∙ (rw other refl)
    ]

marked_less : (a a' : ℕ) (marks : List EntityMark) → is_marked (without_entity_marks marks a') a ≡ (not (a' == a) && is_marked marks a)
marked_less a a' marks = elim (cases_Bool (a' == a)) [
  | inl same ↦ any_lost (λ (m : EntityMark). m.activity.0 == a) (λ m. not (m.activity.0 == a')) (λ (m : EntityMark) mine. lost m.activity.0 mine same) marks ∙ (rw same refl)
  | inr other ↦ any_kept (λ (m : EntityMark). m.activity.0 == a) (λ m. not (m.activity.0 == a')) (λ (m : EntityMark) mine. kept m.activity.0 mine other) marks ∙ (rw other refl)
]
  where
    lost : (n : ℕ) → (n == a) ≡ true → (a' == a) ≡ true → not (n == a') ≡ false
    lost n mine same = grind (arith, nat_tests)

    kept : (n : ℕ) → (n == a) ≡ true → (a' == a) ≡ false → not (n == a') ≡ true
    kept n mine other = grind (arith, nat_tests)

not_either : (x y : Bool) → not (x || y) ≡ (not x && not y)
not_either true y = refl
not_either false y = refl

not_other : (x y : Bool) → not (not x && y) ≡ (x || not y)
not_other true y = refl
not_other false y = refl

undelivered_is : (a : ℕ) (c : Change) (s : State) → is_undelivered (after_change c s).delivered a ≡ undelivered_after c a (is_undelivered s.delivered a)
undelivered_is a (changes.MarkEntity a' e) s =
    none_marked (with_entity_mark s.delivered a'.0 e.0) a ∙ ap not (marked_more a a'.0 e.0 s.delivered) ∙ not_either (a'.0 == a) (is_marked s.delivered a)
    ∙ (rw (none_marked s.delivered a) refl)
undelivered_is a (changes.Pop a') s =
    none_marked (without_entity_marks s.delivered a'.0) a ∙ ap not (marked_less a a'.0 s.delivered) ∙ not_other (a'.0 == a) (is_marked s.delivered a)
    ∙ (rw (none_marked s.delivered a) refl)
undelivered_is a _ s = refl

pub undelivered_laid : (cs : List Change) (s : State) (a : ℕ) → is_undelivered (after_changes cs s).delivered a ≡ fold (λ was c. undelivered_after c a was) (is_undelivered s.delivered a) cs
undelivered_laid cs s a = through (λ (t : State). is_undelivered t.delivered a) (λ was c. undelivered_after c a was) (undelivered_is a) cs s
