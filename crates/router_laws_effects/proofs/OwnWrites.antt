-- What a run reads of an activity behind its own effects is what is there once they are done.
use Rattle.router_laws_effects.specs.Runs.{EndsOld, IsAmidst, IsOld, activity_seen}
use Rattle.std.proofs.Common.{◌≡◌, ℕ, ℤ, ◌+◌, ◌<◌, ◌==◌, Bool, true, false, List, [], ◌∷◌, ◌++◌, filter, map, refl, ◌∙◌, ap, subst, inl, inr, arith, if◌then◌else◌, Option, Some, None, flat_map}
use Rattle.std.specs.Prelude.{option_map}
use Rattle.std.specs.List.{AllByRecursion}
use Rattle.std.specs.Option.{option_map_or}
use Rattle.std.proofs.lemmas.Bool.{cases_Bool, cond_both, eqb-true, false_from_ne_true}
use Rattle.std.proofs.lemmas.Bool.Decides.{nat_tests}
use Rattle.script_types.specs.declared.codes.FieldCode.{FieldCode}
use Rattle.script_types.specs.declared.codes.RelationCode.{RelationCode}
use Rattle.deploy_model.specs.Deployed.{block_fields}
use Rattle.slee_effect.specs.Resolving.{resolved_ref, resolved_effect}
use Rattle.slee_effect.specs.declared.next.Next.{Next}
use Rattle.slee_effect.specs.declared.reference.Ref.{Ref}
use Rattle.slee_effect.specs.declared.reference.Ref.TheVariants.{Known, Fresh}
use Rattle.slee_effect.specs.declared.effect.Effect.{Effect}
use Rattle.slee_effect.specs.declared.effect.Effect.TheVariants as effects
use Rattle.script_meaning.specs.Overlay.{activities_by, activity_after, ended, same_ref, overlay_from}
use Rattle.router_state.specs.State.{State}
use Rattle.router_state.specs.Changes.{after_change, after_changes}
use Rattle.router_state.specs.Contexts.{activity_at, with_end, with_activity, is_linked}
use Rattle.router_state.specs.Look.{seen_of}
use Rattle.router_state.specs.Trees.{tree_of}
use Rattle.router_state.specs.declared.change.Change.TheVariants as changes
use Rattle.router_state.specs.declared.rows.AcKind.{AcKind}
use Rattle.router_state.specs.declared.rows.AcKind.TheVariants as kinds
use Rattle.router_state.specs.declared.rows.Activity.{Activity}
use Rattle.router_state.specs.declared.rows.Link.{Link}
use Rattle.router_steps.specs.Creating.{with_child}
use Rattle.router_steps.specs.Effects.{after_effect, after_effects, number_in, relation_at}
use Rattle.router_steps.specs.Going.{removed, all_removed}
use Rattle.router_steps.specs.Moves.{changes_of_detaching, first_masks}
use Rattle.router_steps.specs.Values.{unset}

-- the same activities, and the same next one

abbrev pub SameActivities : State → State → Type 0
SameActivities s t = (t.activities ≡ s.activities) × (t.next_activity ≡ s.next_activity)

same_then : (s t u : State) → SameActivities s t → SameActivities t u → SameActivities s u
same_then s t u one two = (two.0 ∙ one.0, two.1 ∙ one.1)

fields_leave : (e : ℕ) (fields : List FieldCode) (s : State) → SameActivities s (after_changes (map (λ (field : FieldCode). changes.SetField (record { 0 = e }) field.name (unset field.kind)) fields) s)
fields_leave e [] s = (refl, refl)
fields_leave e (f ∷ fields) s = fields_leave e fields (after_change (changes.SetField (record { 0 = e }) f.name (unset f.kind)) s)

child_leaves : (parent : ℕ) (relation : List ℕ) (priority : ℤ) (s : State) (o : Option RelationCode) → SameActivities s (option_map_or (λ (r : RelationCode). with_child s parent relation r.block priority) o s)
child_leaves parent relation priority s None = (refl, refl)
child_leaves parent relation priority s (Some r) =
    fields_leave s.next_entity (block_fields s.deployment r.block) (after_change (changes.CreateChild (record { 0 = parent }) relation r.block priority) s)

removal_leaves : (links : List Link) (e : ℕ) (s : State)
    → SameActivities s (after_changes (flat_map changes_of_detaching links ++ changes.ForgetFields (record { 0 = e }) ∷ changes.Remove (record { 0 = e }) ∷ []) s)
removal_leaves [] e s = (refl, refl)
removal_leaves (l ∷ links) e s = removal_leaves links e (after_changes (changes_of_detaching l) s)

removed_leave : (es : List ℕ) (s : State) → SameActivities s (all_removed es s)
removed_leave [] s = (refl, refl)
removed_leave (e ∷ es) s = same_then s (removed s e) (all_removed es (removed s e)) (removal_leaves (filter (λ l. l.entity.0 == e) s.links) e s) (removed_leave es (removed s e))

-- what is seen of an activity

same_numbers : (next : ℕ) (a b : Ref) → IsOld next a → IsOld next b → (number_in (resolved_ref next a) == number_in (resolved_ref next b)) ≡ same_ref a b
same_numbers next (Known i) (Known j) one two = refl
same_numbers next (Known i) (Fresh j) one two = false_from_ne_true (i == (next + j)) (λ is. omega (arith, one, eqb-true i (next + j) is))
same_numbers next (Fresh i) (Known j) one two = false_from_ne_true ((next + i) == j) (λ is. omega (arith, two, eqb-true (next + i) j is))
same_numbers next (Fresh i) (Fresh j) one two = elim (cases_Bool (i == j)) [
  | inl is ↦ rw is (both next i j is)
  | inr isnt ↦ rw isnt (neither next i j isnt)
]
  where
    both : (n i j : ℕ) → (i == j) ≡ true → ((n + i) == (n + j)) ≡ true
    both n i j is = grind (arith, nat_tests)

    neither : (n i j : ℕ) → (i == j) ≡ false → ((n + i) == (n + j)) ≡ false
    neither n i j isnt = grind (arith, nat_tests)

-- an activity that is new stands behind the others
new_seen : (rows : List Activity) (n a : ℕ) (kind : AcKind) → AllByRecursion (λ row. row.number.0 < n) rows
    → activity_at (with_activity rows n kind) a ≡ (if n == a then Some (record { number = record { 0 = n }; kind = kind; ending = false }) else activity_at rows a)
new_seen [] n a kind below = elim (cases_Bool (n == a)) [
  | inl is ↦ rw is refl
  | inr isnt ↦ rw isnt refl
]
new_seen (row ∷ rows) n a kind below = elim (cases_Bool (row.number.0 == a)) [
  | inl is ↦ (let other : (n == a) ≡ false = apart row.number.0 n a below.0 is in rw (is, other) refl)
  | inr isnt ↦ rw isnt (new_seen rows n a kind below.1)
]
  where
    apart : (x n a : ℕ) → x < n → (x == a) ≡ true → (n == a) ≡ false
    apart x n a less is = grind (arith, nat_tests)

end_seen : (rows : List Activity) (b a : ℕ) → option_map seen_of (activity_at (with_end rows b) a) ≡ (if b == a then ended (option_map seen_of (activity_at rows a)) else option_map seen_of (activity_at rows a))
end_seen [] b a = elim (cases_Bool (b == a)) [
  | inl is ↦ rw is refl
  | inr isnt ↦ rw isnt refl
]
end_seen (row ∷ rows) b a = elim (cases_Bool (row.number.0 == b)) [
  | inl mine ↦ rw mine (elim (cases_Bool (row.number.0 == a)) [
    | inl is ↦ (let both : (b == a) ≡ true = same row.number.0 b a mine is in rw (is, both) refl)
    | inr isnt ↦ rw isnt (end_seen rows b a)
  ])
  | inr other ↦ rw other (elim (cases_Bool (row.number.0 == a)) [
    | inl is ↦ (let neither : (b == a) ≡ false = apart row.number.0 b a other is in rw (is, neither) refl)
    | inr isnt ↦ rw isnt (end_seen rows b a)
  ])
]
  where
    same : (x b a : ℕ) → (x == b) ≡ true → (x == a) ≡ true → (b == a) ≡ true
    same x b a one two = grind (arith, nat_tests)

    apart : (x b a : ℕ) → (x == b) ≡ false → (x == a) ≡ true → (b == a) ≡ false
    apart x b a one two = grind (arith, nat_tests)

left : (next : Next) (n : ℕ) (s t : State) (r : Ref) → SameActivities s t → activity_seen next t r ≡ activity_seen next s r
left next n s t r same = rw same.0 refl

abbrev attached_new : State → ℕ → ℕ → State
attached_new s e a = after_changes (changes.Attach (record { 0 = e }) (record { 0 = a }) ∷ changes.MaskOnAttach (record { 0 = e }) (record { 0 = a }) (first_masks s e) ∷ []) s

-- one effect does to what is seen what the overlay does
pub activity_step : (next : Next) (n : ℕ) (x : Effect) (s : State) (r : Ref) → IsAmidst next n s → EndsOld next.activity x → IsOld next.activity r
    → activity_seen next (after_effect (resolved_effect next x) s) r ≡ activity_after r n x (activity_seen next s r)
activity_step next n (effects.SetField entity name value) s r amidst old mine = refl
activity_step next n (effects.SetAttr activity key value) s r amidst old mine = refl
activity_step next n (effects.Create parent relation priority) s r amidst old mine =
    left next n s (after_effect (resolved_effect next (effects.Create parent relation priority)) s) r (child_leaves (number_in (resolved_ref next.entity parent)) relation priority s (relation_at s (number_in (resolved_ref next.entity parent)) relation))
activity_step next n (effects.Remove entity) s r amidst old mine = left next n s (after_effect (resolved_effect next (effects.Remove entity)) s) r (removed_leave (tree_of s.entities (number_in (resolved_ref next.entity entity))) s)
activity_step next n (effects.SetPriority entity priority) s r amidst old mine = refl
activity_step next n (effects.Attach entity activity) s r amidst old mine =
    left next n s (after_effect (resolved_effect next (effects.Attach entity activity)) s) r (cond_both (is_linked s.links (number_in (resolved_ref next.entity entity)) (number_in (resolved_ref next.activity activity))) s (attached_new s (number_in (resolved_ref next.entity entity)) (number_in (resolved_ref next.activity activity))) (SameActivities s) (λ _. (refl, refl)) (λ _. (refl, refl)))
activity_step next n (effects.Detach entity activity) s r amidst old mine = refl
activity_step next n (effects.SetMask entity activity event on) s r amidst old mine = refl
activity_step next n (effects.Fire activity event service fields) s r amidst old mine = refl
activity_step next n effects.NewNull s r amidst old mine =
    let a = number_in (resolved_ref next.activity r) in
    ap (option_map seen_of) (new_seen s.activities s.next_activity a kinds.Null amidst.below)
    ∙ rw (amidst.drawn, same_numbers next.activity (Fresh n) r tt mine) (cases (same_ref (Fresh n) r) (activity_at s.activities a))
  where
    cases : (b : Bool) (o : Option Activity) → option_map seen_of (if b then Some (record { number = record { 0 = next.activity + n }; kind = kinds.Null; ending = false }) else o) ≡ (if b then Some (record { null = true; ending = false }) else option_map seen_of o)
    cases true o = refl
    cases false o = refl
activity_step next n (effects.EndNull activity) s r amidst old mine =
    let a = number_in (resolved_ref next.activity r) in
    end_seen s.activities (number_in (resolved_ref next.activity activity)) a ∙ rw (same_numbers next.activity activity r old mine) refl
activity_step next n (effects.SetTimer activity start period times keep) s r amidst old mine = refl
activity_step next n (effects.CancelTimer timer) s r amidst old mine = refl
activity_step next n (effects.Bind name activity) s r amidst old mine = refl
activity_step next n (effects.Unbind name) s r amidst old mine = refl
activity_step next n (effects.Emit entity text) s r amidst old mine = refl
activity_step next n (effects.Usage entity name amount) s r amidst old mine = refl
activity_step next n (effects.Suspend activity until) s r amidst old mine = refl
activity_step next n (effects.Resume activity) s r amidst old mine = refl

amidst_left : (next : Next) (n : ℕ) (s t : State) → IsAmidst next n s → SameActivities s t → IsAmidst next n t
amidst_left next n s t amidst same = record { drawn = same.1 ∙ amidst.drawn; below = rw (same.0, same.1) amidst.below }

amidst_still : (next : Next) (n : ℕ) (s t : State) → IsAmidst next n s → SameActivities s t → IsAmidst next (n + 0) t
amidst_still next n s t amidst same = subst (λ k. IsAmidst next k t) (plus n) (amidst_left next n s t amidst same)
  where
    plus : (n : ℕ) → n ≡ n + 0
    plus n = omega arith

push_below : (rows : List Activity) (n a : ℕ) (kind : AcKind) → AllByRecursion (λ row. row.number.0 < n) rows → a < n + 1 → AllByRecursion (λ row. row.number.0 < n + 1) (with_activity rows a kind)
push_below [] n a kind below less = (less, tt)
push_below (row ∷ rows) n a kind below less = (more row.number.0 n below.0, push_below rows n a kind below.1 less)
  where
    more : (x n : ℕ) → x < n → x < n + 1
    more x n lt = omega arith

end_below : (rows : List Activity) (b n : ℕ) → AllByRecursion (λ row. row.number.0 < n) rows → AllByRecursion (λ row. row.number.0 < n) (with_end rows b)
end_below [] b n below = tt
end_below (row ∷ rows) b n below =
    (cond_both (row.number.0 == b) (record row { ending = true }) row (λ (r : Activity). r.number.0 < n) (λ _. below.0) (λ _. below.0), end_below rows b n below.1)

pub amidst_step : (next : Next) (n : ℕ) (x : Effect) (s : State) → IsAmidst next n s → IsAmidst next (n + activities_by x) (after_effect (resolved_effect next x) s)
amidst_step next n (effects.SetField entity name value) s amidst = amidst_still next n s (after_effect (resolved_effect next (effects.SetField entity name value)) s) amidst (refl, refl)
amidst_step next n (effects.SetAttr activity key value) s amidst = amidst_still next n s (after_effect (resolved_effect next (effects.SetAttr activity key value)) s) amidst (refl, refl)
amidst_step next n (effects.Create parent relation priority) s amidst =
    amidst_still next n s (after_effect (resolved_effect next (effects.Create parent relation priority)) s) amidst
    (child_leaves (number_in (resolved_ref next.entity parent)) relation priority s (relation_at s (number_in (resolved_ref next.entity parent)) relation))
amidst_step next n (effects.Remove entity) s amidst =
    amidst_still next n s (after_effect (resolved_effect next (effects.Remove entity)) s) amidst (removed_leave (tree_of s.entities (number_in (resolved_ref next.entity entity))) s)
amidst_step next n (effects.SetPriority entity priority) s amidst = amidst_still next n s (after_effect (resolved_effect next (effects.SetPriority entity priority)) s) amidst (refl, refl)
amidst_step next n (effects.Attach entity activity) s amidst =
    amidst_still next n s (after_effect (resolved_effect next (effects.Attach entity activity)) s) amidst
    (cond_both (is_linked s.links (number_in (resolved_ref next.entity entity)) (number_in (resolved_ref next.activity activity))) s (attached_new s (number_in (resolved_ref next.entity entity)) (number_in (resolved_ref next.activity activity))) (SameActivities s) (λ _. (refl, refl)) (λ _. (refl, refl)))
amidst_step next n (effects.Detach entity activity) s amidst = amidst_still next n s (after_effect (resolved_effect next (effects.Detach entity activity)) s) amidst (refl, refl)
amidst_step next n (effects.SetMask entity activity event on) s amidst = amidst_still next n s (after_effect (resolved_effect next (effects.SetMask entity activity event on)) s) amidst (refl, refl)
amidst_step next n (effects.Fire activity event service fields) s amidst = amidst_still next n s (after_effect (resolved_effect next (effects.Fire activity event service fields)) s) amidst (refl, refl)
amidst_step next n effects.NewNull s amidst = record {
  drawn = rw amidst.drawn (plus next.activity n);
  below = push_below s.activities s.next_activity s.next_activity kinds.Null amidst.below (omega arith);
}
  where
    plus : (a n : ℕ) → a + n + 1 ≡ a + (n + 1)
    plus a n = omega arith
amidst_step next n (effects.EndNull activity) s amidst = record {
  drawn = amidst.drawn ∙ plus next.activity n;
  below = end_below s.activities (number_in (resolved_ref next.activity activity)) s.next_activity amidst.below;
}
  where
    plus : (a n : ℕ) → a + n ≡ a + (n + 0)
    plus a n = omega arith
amidst_step next n (effects.SetTimer activity start period times keep) s amidst = amidst_still next n s (after_effect (resolved_effect next (effects.SetTimer activity start period times keep)) s) amidst (refl, refl)
amidst_step next n (effects.CancelTimer timer) s amidst = amidst_still next n s (after_effect (resolved_effect next (effects.CancelTimer timer)) s) amidst (refl, refl)
amidst_step next n (effects.Bind name activity) s amidst = amidst_still next n s (after_effect (resolved_effect next (effects.Bind name activity)) s) amidst (refl, refl)
amidst_step next n (effects.Unbind name) s amidst = amidst_still next n s (after_effect (resolved_effect next (effects.Unbind name)) s) amidst (refl, refl)
amidst_step next n (effects.Emit entity text) s amidst = amidst_still next n s s amidst (refl, refl)
amidst_step next n (effects.Usage entity name amount) s amidst = amidst_still next n s s amidst (refl, refl)
amidst_step next n (effects.Suspend activity until) s amidst = amidst_still next n s (after_effect (resolved_effect next (effects.Suspend activity until)) s) amidst (refl, refl)
amidst_step next n (effects.Resume activity) s amidst = amidst_still next n s (after_effect (resolved_effect next (effects.Resume activity)) s) amidst (refl, refl)

-- what a run reads of an activity, its own effects laid over what was seen, is what is there when they are done
pub activities_read : (next : Next) (n : ℕ) (es : List Effect) (s : State) (r : Ref) → IsAmidst next n s → AllByRecursion (EndsOld next.activity) es → IsOld next.activity r
    → activity_seen next (after_effects (map (resolved_effect next) es) s) r ≡ overlay_from activities_by (activity_after r) n es (activity_seen next s r)
activities_read next n [] s r amidst old mine = refl
activities_read next n (x ∷ es) s r amidst old mine =
    activities_read next (n + activities_by x) es (after_effect (resolved_effect next x) s) r (amidst_step next n x s amidst) old.1 mine
    ∙ ap (overlay_from activities_by (activity_after r) (n + activities_by x) es) (activity_step next n x s r amidst old.0 mine)
