-- What a run reads of an attachment behind its own effects is what is there, while the entity stays.
use Rattle.router_laws.proofs.ListLemmas.{any_kept, any_lost, any_put_other, any_put_own}
use Rattle.router_laws.proofs.Removal.{in_list, left_entities, left_links}
use Rattle.router_laws.proofs.Tests.{tests_kept}
use Rattle.router_laws_applying.proofs.Frames.{child_is}
use Rattle.router_laws_applying.specs.Seen.{linked_in}
use Rattle.router_laws_applying.proofs.References.{same_numbers}
use Rattle.router_laws_effects.specs.Runs.{IsOld}
use Rattle.router_laws_sound.proofs.SoundBase.{found_passes, some_there}
use Rattle.router_state.specs.Contexts.{is_link, is_linked, link_before, with_link, without_link}
use Rattle.router_state.specs.Fitting.{has_entity}
use Rattle.router_state.specs.State.{State}
use Rattle.router_state.specs.Trees.{entity_at, tree_of}
use Rattle.router_state.specs.declared.rows.Entity.{Entity}
use Rattle.router_state.specs.declared.rows.Link.{Link}
use Rattle.router_steps.specs.Creating.{with_child}
use Rattle.router_steps.specs.Effects.{after_effect, number_in, relation_at}
use Rattle.router_steps.specs.Going.{all_removed}
use Rattle.router_steps.specs.Moves.{attached}
use Rattle.rows_sorted.specs.Orders.{pair_before, same_pair}
use Rattle.script_meaning.specs.Overlay.{attached_after, same_ref}
use Rattle.script_types.specs.declared.codes.RelationCode.{RelationCode}
use Rattle.slee_effect.specs.Resolving.{resolved_effect, resolved_ref}
use Rattle.slee_effect.specs.declared.effect.Effect.{Effect}
use Rattle.slee_effect.specs.declared.effect.Effect.TheVariants as effects
use Rattle.slee_effect.specs.declared.next.Next.{Next}
use Rattle.slee_effect.specs.declared.reference.Ref.{Ref}
use Rattle.std.proofs.Common.{◌≡◌, Bool, true, false, ℕ, ℤ, ◌==◌, ◌&&◌, ◌||◌, not, List, [], ◌∷◌, filter, refl, sym, ap, subst, ◌∙◌, inl, inr, arith, Option, Some, None}
use Rattle.std.proofs.lemmas.Bool.{and_parts, cases_Bool, cond_both, eqb-true, not-true}
use Rattle.std.proofs.lemmas.Bool.Decides.{nat_tests}
use Rattle.std.specs.List.{list_all}
use Rattle.std.specs.Option.{option_map_or}
use Rattle.std.specs.Prelude.{is_some}

pub all_pass : {X : Type 0} (xs : List X) → list_all (λ _. true) xs ≡ true
all_pass [] = refl
all_pass (x ∷ xs) = all_pass xs

attached_seen : (links : List Link) (e a f b : ℕ) → is_linked (with_link links e a) f b ≡ (same_pair e a f b || is_linked links f b)
attached_seen links e a f b = elim (cases_Bool (same_pair e a f b)) [
  | inl is ↦ rw is (any_put_own link_before (is_link f b) new links is)
  | inr isnt ↦ rw isnt (any_put_other link_before (is_link f b) new links isnt (λ x mine. sides x.entity.0 x.activity.0 mine isnt))
]
  where
    new : Link
    new = record { entity = record { 0 = e }; activity = record { 0 = a } }

    sides : (x y : ℕ) → same_pair x y f b ≡ true → same_pair e a f b ≡ false → (pair_before y x a e || pair_before a e y x) ≡ true
    sides x y mine other = grind (arith, nat_tests)

already : (links : List Link) (e a f b : ℕ) → is_linked links e a ≡ true → is_linked links f b ≡ (same_pair e a f b || is_linked links f b)
already links e a f b linked = elim (cases_Bool (same_pair e a f b)) [
  | inl is ↦ (let both = and_parts (e == f) (a == b) is in rw is (subst (λ k. is_linked links f k ≡ true) (eqb-true a b both.1) (subst (λ k. is_linked links k a ≡ true) (eqb-true e f both.0) linked)))
  | inr isnt ↦ rw isnt refl
]

detached_seen : (links : List Link) (e a f b : ℕ) → is_linked (without_link links e a) f b ≡ (not (same_pair e a f b) && is_linked links f b)
detached_seen links e a f b = elim (cases_Bool (same_pair e a f b)) [
  | inl is ↦ rw is (any_lost (is_link f b) (λ l. not (is_link e a l)) (λ x mine. goes x.entity.0 x.activity.0 mine is) links)
  | inr isnt ↦ rw isnt (any_kept (is_link f b) (λ l. not (is_link e a l)) (λ x mine. stays x.entity.0 x.activity.0 mine isnt) links)
]
  where
    goes : (x y : ℕ) → same_pair x y f b ≡ true → same_pair e a f b ≡ true → not (same_pair x y e a) ≡ false
    goes x y mine is = grind (arith, nat_tests)

    stays : (x y : ℕ) → same_pair x y f b ≡ true → same_pair e a f b ≡ false → not (same_pair x y e a) ≡ true
    stays x y mine isnt = grind (arith, nat_tests)

-- what is there when several entities are gone isn't one of them
pub out_of : (gone : List ℕ) (s : State) (e : ℕ) → has_entity (all_removed gone s).entities e ≡ true → in_list e gone ≡ false
out_of gone s e there = by (rw (left_entities gone s) at there)
  where
    by : is_some (entity_at (filter (λ (row : Entity). not (in_list row.number.0 gone)) s.entities) e) ≡ true → in_list e gone ≡ false
    by there =
        let keep : Entity → Bool = λ row. not (in_list row.number.0 gone) in
        let x = some_there (entity_at (filter keep s.entities) e) there in
        let both = found_passes keep (λ (row : Entity). row.number.0 == e) (filter keep s.entities) x.0 x.1 (tests_kept (λ (row : Entity). true) keep keep (λ row is _. is) s.entities (all_pass s.entities)) in
        subst (λ k. in_list k gone ≡ false) (eqb-true x.0.number.0 e both.1) (not-true (in_list x.0.number.0 gone) both.0)

removed_seen : (gone : List ℕ) (s : State) (e a : ℕ) → in_list e gone ≡ false → is_linked (all_removed gone s).links e a ≡ is_linked s.links e a
removed_seen gone s e a out = rw (left_links gone s) (any_kept (is_link e a) (λ (l : Link). not (in_list l.entity.0 gone)) (λ x mine. stays x mine) s.links)
  where
    stays : (x : Link) → is_link e a x ≡ true → not (in_list x.entity.0 gone) ≡ true
    stays x mine = subst (λ k. not (in_list k gone) ≡ true) (sym (eqb-true x.entity.0 e (and_parts (x.entity.0 == e) (x.activity.0 == a) mine).0)) (ap not out)

made_seen : (s : State) (parent : ℕ) (relation : List ℕ) (priority : ℤ) (e a : ℕ) (o : Option RelationCode) → is_linked (option_map_or (λ (r : RelationCode). with_child s parent relation r.block priority) o s).links e a ≡ is_linked s.links e a
made_seen s parent relation priority e a None = refl
made_seen s parent relation priority e a (Some r) = ap (λ (t : State). is_linked t.links e a) (child_is s parent relation r.block priority)

pairs : (next : Next) (e f a b : Ref) → IsOld next.entity e → IsOld next.entity f → IsOld next.activity a → IsOld next.activity b
    → same_pair (number_in (resolved_ref next.entity e)) (number_in (resolved_ref next.activity a)) (number_in (resolved_ref next.entity f)) (number_in (resolved_ref next.activity b)) ≡ (same_ref e f && same_ref a b)
pairs next e f a b one two three four = rw (same_numbers next.entity e f one two, same_numbers next.activity a b three four) refl

joined : (s : State) (e a f b : ℕ) → is_linked (attached s e a).links f b ≡ (same_pair e a f b || is_linked s.links f b)
joined s e a f b =
    cond_both (is_linked s.links e a) s _ (λ (t : State). is_linked t.links f b ≡ (same_pair e a f b || is_linked s.links f b)) (λ is. already s.links e a f b is) (λ _. attached_seen s.links e a f b)

-- an effect attaches and detaches what was drawn before the run or is new
abbrev pub LinksOld : Next → Effect → Type 0
LinksOld next (effects.Attach entity activity) = IsOld next.entity entity × IsOld next.activity activity
LinksOld next (effects.Detach entity activity) = IsOld next.entity entity × IsOld next.activity activity
LinksOld next _ = Unit {0}

-- the trees that an effect removes don't have this entity
abbrev pub StaysOut : Next → State → ℕ → Effect → Type 0
StaysOut next s e (effects.Remove entity) = in_list e (tree_of s.entities (number_in (resolved_ref next.entity entity))) ≡ false
StaysOut next s e _ = Unit {0}

-- one effect does to an attachment what the overlay does, where the entity stays
pub link_step : (next : Next) (n : ℕ) (x : Effect) (s : State) (e a : Ref) → LinksOld next x → IsOld next.entity e → IsOld next.activity a
    → StaysOut next s (number_in (resolved_ref next.entity e)) x
    → linked_in next (after_effect (resolved_effect next x) s) e a ≡ attached_after e a n x (linked_in next s e a)
link_step next n (effects.SetField entity field value) s e a old mine held there = refl
link_step next n (effects.SetAttr activity key value) s e a old mine held there = refl
link_step next n (effects.Create parent under priority) s e a old mine held there =
    made_seen s (number_in (resolved_ref next.entity parent)) under priority (number_in (resolved_ref next.entity e)) (number_in (resolved_ref next.activity a)) (relation_at s (number_in (resolved_ref next.entity parent)) under)
link_step next n (effects.Remove entity) s e a old mine held there =
    removed_seen (tree_of s.entities (number_in (resolved_ref next.entity entity))) s (number_in (resolved_ref next.entity e)) (number_in (resolved_ref next.activity a)) there
link_step next n (effects.SetPriority entity priority) s e a old mine held there = refl
link_step next n (effects.Attach entity activity) s e a old mine held there =
    joined s (number_in (resolved_ref next.entity entity)) (number_in (resolved_ref next.activity activity)) (number_in (resolved_ref next.entity e)) (number_in (resolved_ref next.activity a)) ∙ ap (λ b. b || linked_in next s e a) (pairs next entity e activity a old.0 mine old.1 held)
link_step next n (effects.Detach entity activity) s e a old mine held there =
    detached_seen s.links (number_in (resolved_ref next.entity entity)) (number_in (resolved_ref next.activity activity)) (number_in (resolved_ref next.entity e)) (number_in (resolved_ref next.activity a)) ∙ ap (λ b. not b && linked_in next s e a) (pairs next entity e activity a old.0 mine old.1 held)
link_step next n (effects.SetMask entity activity event on) s e a old mine held there = refl
link_step next n (effects.Fire activity event service fields) s e a old mine held there = refl
link_step next n effects.NewNull s e a old mine held there = refl
link_step next n (effects.EndNull activity) s e a old mine held there = refl
link_step next n (effects.SetTimer activity start period times keep) s e a old mine held there = refl
link_step next n (effects.CancelTimer timer) s e a old mine held there = refl
link_step next n (effects.Bind word activity) s e a old mine held there = refl
link_step next n (effects.Unbind word) s e a old mine held there = refl
link_step next n (effects.Emit entity text) s e a old mine held there = refl
link_step next n (effects.Usage entity usage amount) s e a old mine held there = refl
link_step next n (effects.Suspend activity until) s e a old mine held there = refl
link_step next n (effects.Resume activity) s e a old mine held there = refl
