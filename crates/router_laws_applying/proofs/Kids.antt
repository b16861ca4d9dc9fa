-- The children of an entity as a run sees them behind its own effects are those that are there, while the entity stays.
use Rattle.router_laws.proofs.ListRules.{in_filter}
use Rattle.router_laws.proofs.Removal.{filter_same, in_list, left_entities}
use Rattle.router_laws.specs.Forest.{IsIn}
use Rattle.router_laws_applying.proofs.Frames.{child_is}
use Rattle.router_laws_applying.proofs.Links.{all_pass, out_of}
use Rattle.router_laws_applying.proofs.Trees.{Rise, child_parent, entity_found, kid_goes, kid_row, rise}
use Rattle.router_laws_applying.specs.Behind.{IsHere}
use Rattle.router_laws_applying.specs.Seen.{numbers_of}
use Rattle.router_laws_applying.proofs.References.{same_numbers}
use Rattle.router_laws_effects.specs.Runs.{IsOld}
use Rattle.router_laws_sound.proofs.SoundBase.{entities_drawn, found_in, found_passes, some_there}
use Rattle.router_laws_sound.proofs.SoundCreated.{new_entity}
use Rattle.router_laws_sound.proofs.SoundEntities.{passes_in}
use Rattle.router_laws_sound.proofs.SoundTrees.{parents_below, removed_alone}
use Rattle.router_state.specs.Contexts.{is_linked}
use Rattle.router_state.specs.Fits.{is_priority}
use Rattle.router_state.specs.Fitting.{has_entity}
use Rattle.router_state.specs.State.{State}
use Rattle.router_state.specs.Trees.{children_under, entity_at, is_child_of, parent_of, tree_of, with_priority}
use Rattle.router_state.specs.Well.{IsSound}
use Rattle.router_state.specs.declared.rows.Entity.{Entity}
use Rattle.router_state.specs.declared.rows.Stem.TheVariants as stems
use Rattle.router_steps.specs.Applying.{applies}
use Rattle.router_steps.specs.Creating.{with_child}
use Rattle.router_steps.specs.Effects.{after_effect, number_in, relation_at}
use Rattle.router_steps.specs.Going.{all_removed}
use Rattle.router_steps.specs.Moves.{attached}
use Rattle.script_meaning.specs.Overlay.{children_after, entities_by, same_ref, timers_by}
use Rattle.script_types.specs.declared.codes.RelationCode.{RelationCode}
use Rattle.slee_effect.specs.Resolving.{resolved_effect, resolved_ref}
use Rattle.slee_effect.specs.declared.effect.Effect.{Effect}
use Rattle.slee_effect.specs.declared.effect.Effect.TheVariants as effects
use Rattle.slee_effect.specs.declared.next.Next.{Next}
use Rattle.slee_effect.specs.declared.reference.Ref.{Ref}
use Rattle.slee_effect.specs.declared.reference.Ref.TheVariants.{Fresh}
use Rattle.std.proofs.Common.{◌≡◌, true, false, ℕ, ℤ, ◌+◌, ◌<◌, ◌≤◌, ◌==◌, ◌&&◌, ◌⊎◌, not, List, [], ◌∷◌, ◌++◌, filter, refl, sym, ap, subst, ◌∙◌, inl, inr, arith, Option, Some, None}
use Rattle.std.proofs.lemmas.Bool.{and_parts, cases_Bool, cond_both, eqb-true, ltb-true}
use Rattle.std.proofs.lemmas.List.{map-append}
use Rattle.std.proofs.lemmas.List.Folds.{find-append}
use Rattle.std.specs.List.{AllByRecursion}
use Rattle.std.specs.Option.{option_map_or, option_or}
use Rattle.std.specs.Prelude.{is_some, nat_lt, option_map, if◌then◌else◌}
use Rattle.std.specs.Str.{bytes_eq}

-- what an effect does to the entities

pub made_rows : (s : State) (parent : ℕ) (relation : List ℕ) (priority : ℤ) (o : Option RelationCode) → is_some o ≡ true
    → (r : RelationCode) × (o ≡ Some r) × ((option_map_or (λ (r : RelationCode). with_child s parent relation r.block priority) o s).entities ≡ s.entities ++ new_entity s.next_entity r.block (stems.Child (record { 0 = parent }) relation) priority ∷ [])
made_rows s parent relation priority None some = absurd (cc)
made_rows s parent relation priority (Some r) some = (r, refl, ap (λ (t : State). t.entities) (child_is s parent relation r.block priority))

attached_same : (s : State) (e a : ℕ) → ((attached s e a).entities ≡ s.entities) × ((attached s e a).next_entity ≡ s.next_entity) × ((attached s e a).next_timer ≡ s.next_timer)
attached_same s e a =
    cond_both (is_linked s.links e a) s _ (λ (t : State). (t.entities ≡ s.entities) × (t.next_entity ≡ s.next_entity) × (t.next_timer ≡ s.next_timer)) (λ _. (refl, refl, refl)) (λ _. (refl, refl, refl))

pub attached_rows : (s : State) (e a : ℕ) → (attached s e a).entities ≡ s.entities
attached_rows s e a = (attached_same s e a).0

-- the blocks of entities stay where a priority changes
pub block_ranked : (rows : List Entity) (e : ℕ) (priority : ℤ) (k : ℕ) → option_map (λ (row : Entity). row.block) (entity_at (with_priority rows e priority) k) ≡ option_map (λ (row : Entity). row.block) (entity_at rows k)
block_ranked [] e priority k = refl
block_ranked (r ∷ rows) e priority k = elim (cases_Bool (r.number.0 == e)) [
  | inl mine ↦ rw mine (elim (cases_Bool (r.number.0 == k)) [
    | inl is ↦ rw is refl
    | inr isnt ↦ rw isnt (block_ranked rows e priority k)
  ])
  | inr other ↦ rw other (elim (cases_Bool (r.number.0 == k)) [
    | inl is ↦ rw is refl
    | inr isnt ↦ rw isnt (block_ranked rows e priority k)
  ])
]

pub is_some_map : {A B : Type 0} (f : A → B) (o : Option A) → is_some (option_map f o) ≡ is_some o
is_some_map f None = refl
is_some_map f (Some x) = refl

there_ranked : (rows : List Entity) (e : ℕ) (priority : ℤ) (k : ℕ) → has_entity (with_priority rows e priority) k ≡ has_entity rows k
there_ranked rows e priority k =
    sym (is_some_map (λ (row : Entity). row.block) (entity_at (with_priority rows e priority) k)) ∙ ap is_some (block_ranked rows e priority k) ∙ is_some_map (λ (row : Entity). row.block) (entity_at rows k)

kids_ranked : (rows : List Entity) (e : ℕ) (priority : ℤ) (p : ℕ) (relation : List ℕ) → children_under (with_priority rows e priority) p relation ≡ children_under rows p relation
kids_ranked [] e priority p relation = refl
kids_ranked (r ∷ rows) e priority p relation = elim (cases_Bool (r.number.0 == e)) [
  | inl mine ↦ rw mine (elim (cases_Bool (is_child_of p relation r.stem)) [
    | inl is ↦ rw is (ap (λ ks. r.number.0 ∷ ks) (kids_ranked rows e priority p relation))
    | inr isnt ↦ rw isnt (kids_ranked rows e priority p relation)
  ])
  | inr other ↦ rw other (elim (cases_Bool (is_child_of p relation r.stem)) [
    | inl is ↦ rw is (ap (λ ks. r.number.0 ∷ ks) (kids_ranked rows e priority p relation))
    | inr isnt ↦ rw isnt (kids_ranked rows e priority p relation)
  ])
]

-- children where there is one entity more

kids_more : (rows : List Entity) (row : Entity) (p : ℕ) (relation : List ℕ) → is_child_of p relation row.stem ≡ true → children_under (rows ++ row ∷ []) p relation ≡ children_under rows p relation ++ row.number.0 ∷ []
kids_more [] row p relation is = rw is refl
kids_more (r ∷ rows) row p relation is = elim (cases_Bool (is_child_of p relation r.stem)) [
  | inl mine ↦ rw mine (ap (λ ks. r.number.0 ∷ ks) (kids_more rows row p relation is))
  | inr other ↦ rw other (kids_more rows row p relation is)
]

kids_same : (rows : List Entity) (row : Entity) (p : ℕ) (relation : List ℕ) → is_child_of p relation row.stem ≡ false → children_under (rows ++ row ∷ []) p relation ≡ children_under rows p relation
kids_same [] row p relation is = rw is refl
kids_same (r ∷ rows) row p relation is = elim (cases_Bool (is_child_of p relation r.stem)) [
  | inl mine ↦ rw mine (ap (λ ks. r.number.0 ∷ ks) (kids_same rows row p relation is))
  | inr other ↦ rw other (kids_same rows row p relation is)
]

-- children where entities are gone

kids_left : (rows : List Entity) (gone : List ℕ) (p : ℕ) (relation : List ℕ) → children_under (filter (λ (row : Entity). not (in_list row.number.0 gone)) rows) p relation ≡ filter (λ k. not (in_list k gone)) (children_under rows p relation)
kids_left [] gone p relation = refl
kids_left (r ∷ rows) gone p relation = elim (cases_Bool (in_list r.number.0 gone)) [
  | inl out ↦ elim (cases_Bool (is_child_of p relation r.stem)) [
    | inl mine ↦ rw (mine, out) (kids_left rows gone p relation)
    | inr other ↦ rw (out, other) (kids_left rows gone p relation)
  ]
  | inr stays ↦ elim (cases_Bool (is_child_of p relation r.stem)) [
    | inl mine ↦ rw (mine, stays, mine) (ap (λ ks. r.number.0 ∷ ks) (kids_left rows gone p relation))
    | inr other ↦ rw (stays, other) (kids_left rows gone p relation)
  ]
]

kids_kept : (next : Next) (kids : List Ref) (entity : Ref) → AllByRecursion (IsOld next.entity) kids → IsOld next.entity entity
    → filter (λ k. not (k == number_in (resolved_ref next.entity entity))) (numbers_of next kids) ≡ numbers_of next (filter (λ r. not (same_ref r entity)) kids)
kids_kept next [] entity old mine = refl
kids_kept next (r ∷ kids) entity old mine = elim (cases_Bool (same_ref r entity)) [
  | inl is ↦ (let same : (number_in (resolved_ref next.entity r) == number_in (resolved_ref next.entity entity)) ≡ true = same_numbers next.entity r entity old.0 mine ∙ is in rw (same, is) (kids_kept next kids entity old.1 mine))
  | inr isnt ↦ (let same : (number_in (resolved_ref next.entity r) == number_in (resolved_ref next.entity entity)) ≡ false = same_numbers next.entity r entity old.0 mine ∙ isnt in rw (same, isnt) (ap (λ ks. number_in (resolved_ref next.entity r) ∷ ks) (kids_kept next kids entity old.1 mine)))
]

-- the parent of an entity was drawn
pub parent_drawn : (s : State) (row : Entity) (p : ℕ) (relation : List ℕ) → IsSound s → IsIn row s.entities → is_child_of p relation row.stem ≡ true → s.next_entity ≤ p → ⊥
parent_drawn s row p relation sound there is le =
    let below = ltb-true row.number.0 s.next_entity (passes_in (λ (r : Entity). nat_lt r.number.0 s.next_entity) s.entities row there (entities_drawn s.deployment s.entities s.next_entity sound.entities)) in
    let less = parents_below s.deployment s.entities s.next_entity sound.entities row there in
    clash (child_parent p relation row.stem is) less below
  where
    clash : parent_of row ≡ p → parent_of row < row.number.0 → row.number.0 < s.next_entity → ⊥
    clash same less below = absurd (omega (arith, le, same, less, below))

-- the tree of an entity doesn't have what is there when it is gone, nor what isn't drawn yet

kids_removed : (next : Next) (s : State) (entity : Ref) (p : ℕ) (relation : List ℕ) (kids : List Ref) → IsSound s → IsOld next.entity entity → AllByRecursion (IsOld next.entity) kids
    → IsHere (all_removed (tree_of s.entities (number_in (resolved_ref next.entity entity))) s) p → children_under s.entities p relation ≡ numbers_of next kids
    → children_under (all_removed (tree_of s.entities (number_in (resolved_ref next.entity entity))) s).entities p relation ≡ numbers_of next (filter (λ r. not (same_ref r entity)) kids)
kids_removed next s entity p relation kids sound mine old here is =
    let e = number_in (resolved_ref next.entity entity) in
    let gone = tree_of s.entities e in
    ap (λ rows. children_under rows p relation) (left_entities gone s) ∙ kids_left s.entities gone p relation
    ∙ filter_same (λ k. not (in_list k gone)) (λ k. not (k == e)) (children_under s.entities p relation) (λ k there. ap not (each k there here))
    ∙ ap (filter (λ k. not (k == e))) is ∙ kids_kept next kids entity old mine
  where
    none : (k : ℕ) → IsIn k (children_under s.entities p relation) → s.next_entity ≤ p → ⊥
    none k there le = let kid = kid_row s.entities p relation k there in parent_drawn s kid.0 p relation sound kid.1 kid.3 le

    each : (k : ℕ) → IsIn k (children_under s.entities p relation) → IsHere (all_removed (tree_of s.entities (number_in (resolved_ref next.entity entity))) s) p
        → in_list k (tree_of s.entities (number_in (resolved_ref next.entity entity))) ≡ (k == number_in (resolved_ref next.entity entity))
    each k there (inl stays) = kid_goes s.entities (number_in (resolved_ref next.entity entity)) p relation k (rise s sound) there (out_of (tree_of s.entities (number_in (resolved_ref next.entity entity))) s p stays)
    each k there (inr undrawn) = absurd (none k there (subst (λ (n : ℕ). n ≤ p) (ap (λ (t : State). t.next_entity) (removed_alone (tree_of s.entities (number_in (resolved_ref next.entity entity))) s)) undrawn))

-- what is there, or isn't drawn, behind an effect was so before it

there_before : (rows more : List Entity) (k : ℕ) → ((row : Entity) → IsIn row more → IsIn row rows) → Rise rows → has_entity more k ≡ true → has_entity rows k ≡ true
there_before rows more k was order there =
    let x = some_there (entity_at more k) there in
    let mine = (found_passes (λ (r : Entity). true) (λ (r : Entity). r.number.0 == k) more x.0 x.1 (all_pass more)).1 in
    subst (λ n. has_entity rows n ≡ true) (eqb-true x.0.number.0 k mine) (ap is_some (entity_found rows order x.0 (was x.0 (found_in (λ (r : Entity). r.number.0 == k) more x.0 x.1))))

created_before : (rows : List Entity) (row : Entity) (k : ℕ) → has_entity (rows ++ row ∷ []) k ≡ true → (has_entity rows k ≡ true) ⊎ (row.number.0 ≤ k)
created_before rows row k there = by (entity_at rows k) (subst (λ o. is_some o ≡ true) (find-append (λ (r : Entity). r.number.0 == k) rows (row ∷ [])) there)
  where
    own : is_some (entity_at (row ∷ []) k) ≡ true → row.number.0 ≤ k
    own is = elim (cases_Bool (row.number.0 == k)) [
      | inl mine ↦ (let same = eqb-true row.number.0 k mine in omega (arith, same))
      | inr other ↦ (let wrong : false ≡ true = rw other at is in absurd (cc))
    ]

    by : (o : Option Entity) → is_some (option_or o (entity_at (row ∷ []) k)) ≡ true → (is_some o ≡ true) ⊎ (row.number.0 ≤ k)
    by None is = inr (own is)
    by (Some x) is = inl refl

here_created : (s : State) (parent : ℕ) (relation : List ℕ) (priority : ℤ) (p : ℕ) (o : Option RelationCode) → is_some o ≡ true → IsHere (option_map_or (λ (r : RelationCode). with_child s parent relation r.block priority) o s) p → IsHere s p
here_created s parent relation priority p None some here = absurd (cc)
here_created s parent relation priority p (Some r) some (inl there) =
    created_before s.entities (new_entity s.next_entity r.block (stems.Child (record { 0 = parent }) relation) priority) p (subst (λ (t : State). has_entity t.entities p ≡ true) (child_is s parent relation r.block priority) there)
here_created s parent relation priority p (Some r) some (inr le) = inr (less (subst (λ (t : State). t.next_entity ≤ p) (child_is s parent relation r.block priority) le))
  where
    less : s.next_entity + 1 ≤ p → s.next_entity ≤ p
    less le = omega (arith, le)

here_removed : (s : State) (gone : List ℕ) (p : ℕ) → IsSound s → IsHere (all_removed gone s) p → IsHere s p
here_removed s gone p sound (inl there) = inl (there_before s.entities (filter (λ (row : Entity). not (in_list row.number.0 gone)) s.entities) p (λ row is. (in_filter (λ (row : Entity). not (in_list row.number.0 gone)) row s.entities is).0) (rise s sound) (rw (left_entities gone s) at there))
here_removed s gone p sound (inr le) = inr (subst (λ (n : ℕ). n ≤ p) (ap (λ (t : State). t.next_entity) (removed_alone gone s)) le)

here_attached : (s : State) (e a p : ℕ) → IsHere (attached s e a) p → IsHere s p
here_attached s e a p (inl there) = inl (subst (λ rows. has_entity rows p ≡ true) (attached_rows s e a) there)
here_attached s e a p (inr le) = inr (subst (λ (n : ℕ). n ≤ p) (attached_same s e a).1 le)

pub here_before : (me : ℕ) (x : Effect) (s : State) (p : ℕ) → IsSound s → applies me x s ≡ true → IsHere (after_effect x s) p → IsHere s p
here_before me (effects.SetField entity field value) s p sound is here = here
here_before me (effects.SetAttr activity key value) s p sound is here = here
here_before me (effects.Create parent under priority) s p sound is here = here_created s (number_in parent) under priority p (relation_at s (number_in parent) under) (and_parts (is_some (relation_at s (number_in parent) under)) (is_priority priority) is).0 here
here_before me (effects.Remove entity) s p sound is here = here_removed s (tree_of s.entities (number_in entity)) p sound here
here_before me (effects.SetPriority entity priority) s p sound is here =
    elim here [
      | inl there ↦ inl (sym (there_ranked s.entities (number_in entity) priority p) ∙ there)
      | inr le ↦ inr le
    ]
here_before me (effects.Attach entity activity) s p sound is here = here_attached s (number_in entity) (number_in activity) p here
here_before me (effects.Detach entity activity) s p sound is here = here
here_before me (effects.SetMask entity activity event on) s p sound is here = here
here_before me (effects.Fire activity event service fields) s p sound is here = here
here_before me effects.NewNull s p sound is here = here
here_before me (effects.EndNull activity) s p sound is here = here
here_before me (effects.SetTimer activity start period times keep) s p sound is here = here
here_before me (effects.CancelTimer timer) s p sound is here = here
here_before me (effects.Bind word activity) s p sound is here = here
here_before me (effects.Unbind word) s p sound is here = here
here_before me (effects.Emit entity text) s p sound is here = here
here_before me (effects.Usage entity usage amount) s p sound is here = here
here_before me (effects.Suspend activity until) s p sound is here = here
here_before me (effects.Resume activity) s p sound is here = here

-- numbers are drawn as many as the overlay counts

drawn_created : (s : State) (parent : ℕ) (relation : List ℕ) (priority : ℤ) (o : Option RelationCode) → is_some o ≡ true → (option_map_or (λ (r : RelationCode). with_child s parent relation r.block priority) o s).next_entity ≡ s.next_entity + 1
drawn_created s parent relation priority None some = absurd (cc)
drawn_created s parent relation priority (Some r) some = ap (λ (t : State). t.next_entity) (child_is s parent relation r.block priority)

pub drawn_entities : (me : ℕ) (x : Effect) (s : State) → applies me x s ≡ true → (after_effect x s).next_entity ≡ s.next_entity + entities_by x
drawn_entities me (effects.SetField entity field value) s is = omega arith
drawn_entities me (effects.SetAttr activity key value) s is = omega arith
drawn_entities me (effects.Create parent under priority) s is = drawn_created s (number_in parent) under priority (relation_at s (number_in parent) under) (and_parts (is_some (relation_at s (number_in parent) under)) (is_priority priority) is).0
drawn_entities me (effects.Remove entity) s is = let same : (all_removed (tree_of s.entities (number_in entity)) s).next_entity ≡ s.next_entity = ap (λ (t : State). t.next_entity) (removed_alone (tree_of s.entities (number_in entity)) s) in omega (arith, same)
drawn_entities me (effects.SetPriority entity priority) s is = omega arith
drawn_entities me (effects.Attach entity activity) s is = let same = (attached_same s (number_in entity) (number_in activity)).1 in omega (arith, same)
drawn_entities me (effects.Detach entity activity) s is = omega arith
drawn_entities me (effects.SetMask entity activity event on) s is = omega arith
drawn_entities me (effects.Fire activity event service fields) s is = omega arith
drawn_entities me effects.NewNull s is = omega arith
drawn_entities me (effects.EndNull activity) s is = omega arith
drawn_entities me (effects.SetTimer activity start period times keep) s is = omega arith
drawn_entities me (effects.CancelTimer timer) s is = omega arith
drawn_entities me (effects.Bind word activity) s is = omega arith
drawn_entities me (effects.Unbind word) s is = omega arith
drawn_entities me (effects.Emit entity text) s is = omega arith
drawn_entities me (effects.Usage entity usage amount) s is = omega arith
drawn_entities me (effects.Suspend activity until) s is = omega arith
drawn_entities me (effects.Resume activity) s is = omega arith

timers_created : (s : State) (parent : ℕ) (relation : List ℕ) (priority : ℤ) (o : Option RelationCode) → (option_map_or (λ (r : RelationCode). with_child s parent relation r.block priority) o s).next_timer ≡ s.next_timer
timers_created s parent relation priority None = refl
timers_created s parent relation priority (Some r) = ap (λ (t : State). t.next_timer) (child_is s parent relation r.block priority)

pub drawn_timers : (x : Effect) (s : State) → (after_effect x s).next_timer ≡ s.next_timer + timers_by x
drawn_timers (effects.SetField entity field value) s = omega arith
drawn_timers (effects.SetAttr activity key value) s = omega arith
drawn_timers (effects.Create parent under priority) s = let same = timers_created s (number_in parent) under priority (relation_at s (number_in parent) under) in omega (arith, same)
drawn_timers (effects.Remove entity) s = let same : (all_removed (tree_of s.entities (number_in entity)) s).next_timer ≡ s.next_timer = ap (λ (t : State). t.next_timer) (removed_alone (tree_of s.entities (number_in entity)) s) in omega (arith, same)
drawn_timers (effects.SetPriority entity priority) s = omega arith
drawn_timers (effects.Attach entity activity) s = let same = (attached_same s (number_in entity) (number_in activity)).2 in omega (arith, same)
drawn_timers (effects.Detach entity activity) s = omega arith
drawn_timers (effects.SetMask entity activity event on) s = omega arith
drawn_timers (effects.Fire activity event service fields) s = omega arith
drawn_timers effects.NewNull s = omega arith
drawn_timers (effects.EndNull activity) s = omega arith
drawn_timers (effects.SetTimer activity start period times keep) s = refl
drawn_timers (effects.CancelTimer timer) s = omega arith
drawn_timers (effects.Bind word activity) s = omega arith
drawn_timers (effects.Unbind word) s = omega arith
drawn_timers (effects.Emit entity text) s = omega arith
drawn_timers (effects.Usage entity usage amount) s = omega arith
drawn_timers (effects.Suspend activity until) s = omega arith
drawn_timers (effects.Resume activity) s = omega arith

-- children are made under, and removed as, what was drawn before the run or is new
abbrev pub KidsOld : Next → Effect → Type 0
KidsOld next (effects.Create parent relation priority) = IsOld next.entity parent
KidsOld next (effects.Remove entity) = IsOld next.entity entity
KidsOld next _ = Unit {0}

numbers_more : (next : Next) (kids : List Ref) (r : Ref) → numbers_of next (kids ++ r ∷ []) ≡ numbers_of next kids ++ number_in (resolved_ref next.entity r) ∷ []
numbers_more next kids r = map-append (λ r. number_in (resolved_ref next.entity r)) kids (r ∷ [])

kids_created : (next : Next) (n : ℕ) (s : State) (parent p : Ref) (under relation : List ℕ) (priority : ℤ) (kids : List Ref) (o : Option RelationCode) → is_some o ≡ true → IsOld next.entity parent → IsOld next.entity p → s.next_entity ≡ next.entity + n
    → children_under s.entities (number_in (resolved_ref next.entity p)) relation ≡ numbers_of next kids
    → children_under (option_map_or (λ (r : RelationCode). with_child s (number_in (resolved_ref next.entity parent)) under r.block priority) o s).entities (number_in (resolved_ref next.entity p)) relation
    ≡ numbers_of next (if same_ref parent p && bytes_eq under relation then kids ++ Fresh n ∷ [] else kids)
kids_created next n s parent p under relation priority kids o some one two drawn is =
    let made = made_rows s (number_in (resolved_ref next.entity parent)) under priority o some in
    let row = new_entity s.next_entity made.0.block (stems.Child (record { 0 = number_in (resolved_ref next.entity parent) }) under) priority in
    let child : is_child_of (number_in (resolved_ref next.entity p)) relation row.stem ≡ (same_ref parent p && bytes_eq under relation) = ap (λ b. b && bytes_eq under relation) (same_numbers next.entity parent p one two) in
    ap (λ rows. children_under rows (number_in (resolved_ref next.entity p)) relation) made.2
    ∙ elim (cases_Bool (same_ref parent p && bytes_eq under relation)) [
      | inl mine ↦ rw mine (kids_more s.entities row (number_in (resolved_ref next.entity p)) relation (child ∙ mine) ∙ ap (λ ks. ks ++ s.next_entity ∷ []) is ∙ ap (λ k. numbers_of next kids ++ k ∷ []) drawn ∙ sym (numbers_more next kids (Fresh n)))
      | inr other ↦ rw other (kids_same s.entities row (number_in (resolved_ref next.entity p)) relation (child ∙ other) ∙ is)
    ]

-- one effect that applies does to the children of a relation what the overlay does, while their parent stays
pub kid_step : (me : ℕ) (next : Next) (n : ℕ) (x : Effect) (s : State) (p : Ref) (relation : List ℕ) (kids : List Ref) → IsSound s → applies me (resolved_effect next x) s ≡ true → KidsOld next x → s.next_entity ≡ next.entity + n
    → IsOld next.entity p → AllByRecursion (IsOld next.entity) kids → IsHere (after_effect (resolved_effect next x) s) (number_in (resolved_ref next.entity p))
    → children_under s.entities (number_in (resolved_ref next.entity p)) relation ≡ numbers_of next kids
    → children_under (after_effect (resolved_effect next x) s).entities (number_in (resolved_ref next.entity p)) relation ≡ numbers_of next (children_after p relation n x kids)
kid_step me next n (effects.SetField entity field value) s p relation kids sound apply old drawn mine olds here is = is
kid_step me next n (effects.SetAttr activity key value) s p relation kids sound apply old drawn mine olds here is = is
kid_step me next n (effects.Create parent under priority) s p relation kids sound apply old drawn mine olds here is =
    kids_created next n s parent p under relation priority kids (relation_at s (number_in (resolved_ref next.entity parent)) under) (and_parts (is_some (relation_at s (number_in (resolved_ref next.entity parent)) under)) (is_priority priority) apply).0 old mine drawn is
kid_step me next n (effects.Remove entity) s p relation kids sound apply old drawn mine olds here is = kids_removed next s entity (number_in (resolved_ref next.entity p)) relation kids sound old olds here is
kid_step me next n (effects.SetPriority entity priority) s p relation kids sound apply old drawn mine olds here is = kids_ranked s.entities (number_in (resolved_ref next.entity entity)) priority (number_in (resolved_ref next.entity p)) relation ∙ is
kid_step me next n (effects.Attach entity activity) s p relation kids sound apply old drawn mine olds here is = ap (λ rows. children_under rows (number_in (resolved_ref next.entity p)) relation) (attached_rows s (number_in (resolved_ref next.entity entity)) (number_in (resolved_ref next.activity activity))) ∙ is
kid_step me next n (effects.Detach entity activity) s p relation kids sound apply old drawn mine olds here is = is
kid_step me next n (effects.SetMask entity activity event on) s p relation kids sound apply old drawn mine olds here is = is
kid_step me next n (effects.Fire activity event service fields) s p relation kids sound apply old drawn mine olds here is = is
kid_step me next n effects.NewNull s p relation kids sound apply old drawn mine olds here is = is
kid_step me next n (effects.EndNull activity) s p relation kids sound apply old drawn mine olds here is = is
kid_step me next n (effects.SetTimer activity start period times keep) s p relation kids sound apply old drawn mine olds here is = is
kid_step me next n (effects.CancelTimer timer) s p relation kids sound apply old drawn mine olds here is = is
kid_step me next n (effects.Bind word activity) s p relation kids sound apply old drawn mine olds here is = is
kid_step me next n (effects.Unbind word) s p relation kids sound apply old drawn mine olds here is = is
kid_step me next n (effects.Emit entity text) s p relation kids sound apply old drawn mine olds here is = is
kid_step me next n (effects.Usage entity usage amount) s p relation kids sound apply old drawn mine olds here is = is
kid_step me next n (effects.Suspend activity until) s p relation kids sound apply old drawn mine olds here is = is
kid_step me next n (effects.Resume activity) s p relation kids sound apply old drawn mine olds here is = is
