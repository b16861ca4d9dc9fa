-- Effects that refer to what is known, laid over an answer that does, leave one that does.
use Rattle.std.proofs.Common.{◌+◌, ◌≤◌, inr, ℕ, cond, not, List, [], ◌∷◌, ◌++◌, Option, Some, None}
use Rattle.std.specs.Prelude.{◌&&◌, bytes_eq}
use native.Mathlib.Omega.{arith}
use Rattle.std.specs.List.{AllByRecursion}
use Rattle.slee_effect.specs.declared.reference.Ref.{Ref}
use Rattle.slee_effect.specs.declared.reference.Ref.TheVariants.{Fresh}
use Rattle.slee_effect.specs.declared.value.Val.{Val}
use Rattle.slee_effect.specs.declared.effect.Effect.{Effect}
use Rattle.slee_effect.specs.declared.effect.Effect.TheVariants as ef
use Rattle.script_meaning.specs.Overlay.{same_ref, is_before, count_of, overlay_from, overlay, entities_by, activities_by, field_after, attr_after, children_after, named_after, put, activities_after}
use Rattle.script_laws.specs.References.{Reference, ToEntity, ToActivity, in_value, in_effect, IsKnown, Refer}
use Rattle.script_laws.proofs.KnownSets.{either_way, all_append, all_filter, each_known}

-- what each effect keeps at its turn is kept by all
pub overlay_keeps : {A : Type 0} (P : A → Type 0) (makes : Effect → ℕ) (does : ℕ → Effect → A → A) (fits : Effect → Type 0) (all n : ℕ) (es : List Effect) (x : A) → n + count_of makes es ≤ all → AllByRecursion fits es → ((k : ℕ) (e : Effect) (y : A) → k + makes e ≤ all → fits e → P y → P (does k e y)) → P x → P (overlay_from makes does n es x)
overlay_keeps P makes does fits all n [] x few h keeps p = p
overlay_keeps P makes does fits all n (e ∷ es) x few h keeps p = overlay_keeps P makes does fits all (n + makes e) es (does n e x) (omega (arith, few)) h.1 keeps (keeps n e x (omega (arith, few)) h.0 p)

module _ (known : Reference → Type 0) (es : List Effect) where
  -- what an effect refers to is known behind all of them
  abbrev Fits : Effect → Type 0
  Fits e = AllByRecursion (IsKnown known es) (in_effect e)

  -- what a value refers to is known
  abbrev pub ValueIs : Val → Type 0
  ValueIs x = AllByRecursion (IsKnown known es) (in_value x)

  abbrev pub EntitiesAre : List Ref → Type 0
  EntitiesAre refs = AllByRecursion (λ r. IsKnown known es (ToEntity r)) refs

  abbrev pub ActivitiesAre : List Ref → Type 0
  ActivitiesAre refs = AllByRecursion (λ r. IsKnown known es (ToActivity r)) refs

  -- the activity that a name stands for is known
  abbrev pub BoundIs : Option Ref → Type 0
  BoundIs None = Unit {0}
  BoundIs (Some a) = IsKnown known es (ToActivity a)

  over : {A : Type 0} (P : A → Type 0) (makes : Effect → ℕ) (does : ℕ → Effect → A → A) (x : A) → Refer known es → ((k : ℕ) (e : Effect) (y : A) → k + makes e ≤ count_of makes es → Fits e → P y → P (does k e y)) → P x → P (overlay makes does es x)
  over P makes does x h keeps p = overlay_keeps P makes does Fits (count_of makes es) 0 es x (omega arith) (each_known known es h) keeps p

  field_step : (r : Ref) (name : List ℕ) (k : ℕ) (e : Effect) (y : Val) → Fits e → ValueIs y → ValueIs (field_after r name k e y)
  field_step r name k (ef.SetField entity other value) y fits p = either_way ValueIs (same_ref entity r && bytes_eq other name) value y fits.1 p
  field_step r name k _ y fits p = p

  pub field_over : (r : Ref) (name : List ℕ) (x : Val) → Refer known es → ValueIs x → ValueIs (overlay entities_by (field_after r name) es x)
  field_over r name x h p = over ValueIs entities_by (field_after r name) x h (λ k e y _ fits q. field_step r name k e y fits q) p

  attr_step : (r : Ref) (key : List ℕ) (k : ℕ) (e : Effect) (y : Val) → Fits e → ValueIs y → ValueIs (attr_after r key k e y)
  attr_step r key k (ef.SetAttr activity other value) y fits p = either_way ValueIs (same_ref activity r && bytes_eq other key) value y fits.1 p
  attr_step r key k _ y fits p = p

  pub attr_over : (r : Ref) (key : List ℕ) (x : Val) → Refer known es → ValueIs x → ValueIs (overlay activities_by (attr_after r key) es x)
  attr_over r key x h p = over ValueIs activities_by (attr_after r key) x h (λ k e y _ fits q. attr_step r key k e y fits q) p

  named_step : (name : List ℕ) (k : ℕ) (e : Effect) (y : Option Ref) → Fits e → BoundIs y → BoundIs (named_after name k e y)
  named_step name k (ef.Bind other activity) y fits p = either_way BoundIs (bytes_eq other name) (Some activity) y fits.0 p
  named_step name k (ef.Unbind other) y fits p = either_way BoundIs (bytes_eq other name) None y tt p
  named_step name k _ y fits p = p

  pub named_over : (name : List ℕ) (x : Option Ref) → Refer known es → BoundIs x → BoundIs (overlay activities_by (named_after name) es x)
  named_over name x h p = over BoundIs activities_by (named_after name) x h (λ k e y _ fits q. named_step name k e y fits q) p

  children_step : (r : Ref) (relation : List ℕ) (k : ℕ) (e : Effect) (y : List Ref) → k + entities_by e ≤ count_of entities_by es → EntitiesAre y → EntitiesAre (children_after r relation k e y)
  children_step r relation k (ef.Create parent other priority) y few p = either_way EntitiesAre (same_ref parent r && bytes_eq other relation) (y ++ Fresh k ∷ []) y (all_append (λ r. IsKnown known es (ToEntity r)) y (Fresh k ∷ []) p (inr (omega (arith, few)), tt)) p
  children_step r relation k (ef.Remove entity) y few p = all_filter (λ r. IsKnown known es (ToEntity r)) (λ r. not (same_ref r entity)) y p
  children_step r relation k _ y few p = p

  pub children_over : (r : Ref) (relation : List ℕ) (x : List Ref) → Refer known es → EntitiesAre x → EntitiesAre (overlay entities_by (children_after r relation) es x)
  children_over r relation x h p = over EntitiesAre entities_by (children_after r relation) x h (λ k e y few _ q. children_step r relation k e y few q) p

  put_is : (r : Ref) (refs : List Ref) → IsKnown known es (ToActivity r) → ActivitiesAre refs → ActivitiesAre (put r refs)
  put_is r [] k h = (k, tt)
  put_is r (x ∷ xs) k h = either_way ActivitiesAre (same_ref r x) (x ∷ xs) (cond (is_before r x) (r ∷ x ∷ xs) (x ∷ put r xs)) h (either_way ActivitiesAre (is_before r x) (r ∷ x ∷ xs) (x ∷ put r xs) (k, h) (h.0, put_is r xs k h.1))

  activities_step : (r : Ref) (k : ℕ) (e : Effect) (y : List Ref) → Fits e → ActivitiesAre y → ActivitiesAre (activities_after r k e y)
  activities_step r k (ef.Attach entity activity) y fits p = either_way ActivitiesAre (same_ref entity r) (put activity y) y (put_is activity y fits.1.0 p) p
  activities_step r k (ef.Detach entity activity) y fits p = either_way ActivitiesAre (same_ref entity r) _ y (all_filter (λ r. IsKnown known es (ToActivity r)) (λ r. not (same_ref r activity)) y p) p
  activities_step r k _ y fits p = p

  pub activities_over : (r : Ref) (x : List Ref) → Refer known es → ActivitiesAre x → ActivitiesAre (overlay activities_by (activities_after r) es x)
  activities_over r x h p = over ActivitiesAre activities_by (activities_after r) x h (λ k e y _ fits q. activities_step r k e y fits q) p
