-- What a run reads of a name behind its own effects is what is there once they are done.
use Rattle.router_laws.proofs.ListLemmas.{find_kept, find_lost, find_put_other, find_put_own}
use Rattle.router_laws_applying.proofs.Frames.{left_created, left_gone, left_linked}
use Rattle.router_laws_applying.specs.Seen.{name_in, numbered}
use Rattle.router_laws_sound.proofs.SoundFields.{not_below_itself}
use Rattle.router_state.specs.Contexts.{name_before, named_at, with_name, without_name}
use Rattle.router_state.specs.State.{State}
use Rattle.router_state.specs.declared.rows.Named.{Named}
use Rattle.router_steps.specs.Effects.{after_effect, after_effects, number_in}
use Rattle.script_meaning.specs.Overlay.{activities_by, named_after, overlay_from}
use Rattle.slee_effect.specs.Resolving.{resolved_effect, resolved_ref}
use Rattle.slee_effect.specs.declared.effect.Effect.{Effect}
use Rattle.slee_effect.specs.declared.effect.Effect.TheVariants as effects
use Rattle.slee_effect.specs.declared.next.Next.{Next}
use Rattle.slee_effect.specs.declared.reference.Ref.{Ref}
use Rattle.slee_value.specs.Order.{byte_order, is_below}
use Rattle.slee_value.specs.declared.ids.ActivityId.{ActivityId}
use Rattle.std.proofs.Common.{Less, Equal, Greater, ◌≡◌, Bool, true, false, ℕ, ◌+◌, List, [], ◌∷◌, map, Option, Some, None, refl, sym, ap, ◌∙◌, inl, inr, not}
use Rattle.std.proofs.lemmas.Bool.{cases_Bool, false_from_ne_true, false≢true}
use Rattle.std.proofs.lemmas.Map.Text.{is_eq-slice_cmp}
use Rattle.std.specs.Cmp.Lexicographic.{nat_list_cmp_total}
use Rattle.std.proofs.lemmas.Slice.Eq.{bytes_eq-Decides}
use Rattle.std.specs.Ordering.{is_eq, is_gt, is_lt, ordering_reverse}
use Rattle.std.specs.Prelude.{if◌then◌else◌, option_map}
use Rattle.std.specs.declared.cmp.Ordering.{Ordering}
use Rattle.std.specs.Str.{bytes_eq}

text_same : (x y : List ℕ) → bytes_eq x y ≡ true → x ≡ y
text_same x y is = (bytes_eq-Decides x y).0 is

text_turned : (x y : List ℕ) → bytes_eq x y ≡ false → bytes_eq y x ≡ false
text_turned x y other = false_from_ne_true (bytes_eq y x) (λ is. false≢true (sym other ∙ (bytes_eq-Decides x y).1 (sym (text_same y x is))))

reversed : (o : Ordering) → is_lt (ordering_reverse o) ≡ is_gt o
reversed Less = refl
reversed Equal = refl
reversed Greater = refl

behind : (x y : List ℕ) → is_below y x ≡ is_gt (byte_order x y)
behind x y = ap is_lt (nat_list_cmp_total.antisymm y x) ∙ reversed (byte_order x y)

sides : (o : Ordering) → is_eq o ≡ false → is_lt o ≡ not (is_gt o)
sides Less other = refl
sides Equal other = absurd (cc)
sides Greater other = refl

-- of two texts that aren't the same one is below the other
text_sides : (x y : List ℕ) → bytes_eq x y ≡ false → is_below x y ≡ not (is_below y x)
text_sides x y other = sides (byte_order x y) (is_eq-slice_cmp x y ∙ other) ∙ ap not (sym (behind x y))

name_bound : (rows : List Named) (name other : List ℕ) (a : ℕ) → named_at (with_name rows name a) other ≡ (if bytes_eq name other then Some (record { 0 = a }) else named_at rows other)
name_bound rows name other a = elim (cases_Bool (bytes_eq name other)) [
  | inl is ↦ rw is (ap (option_map (λ (row : Named). row.activity)) (find_put_own name_before (λ (row : Named). bytes_eq row.name other) new rows is (λ x mine. level x mine is)))
  | inr isnt ↦ rw isnt (ap (option_map (λ (row : Named). row.activity)) (find_put_other name_before (λ (row : Named). bytes_eq row.name other) new rows (is_below other name) (is_below name other) isnt
      (text_sides other name (text_turned name other isnt))
      (λ x mine. ap (λ k. is_below k name) (text_same x.name other mine)) (λ x mine. ap (λ k. is_below name k) (text_same x.name other mine))))
]
  where
    new : Named
    new = record { name = name; activity = record { 0 = a } }

    level : (x : Named) → bytes_eq x.name other ≡ true → bytes_eq name other ≡ true → is_below x.name name ≡ false
    level x mine is = ap (λ k. is_below k name) (text_same x.name other mine ∙ sym (text_same name other is)) ∙ not_below_itself name

name_free : (rows : List Named) (name other : List ℕ) → named_at (without_name rows name) other ≡ (if bytes_eq name other then None else named_at rows other)
name_free rows name other = elim (cases_Bool (bytes_eq name other)) [
  | inl is ↦ rw is (ap (option_map (λ (row : Named). row.activity)) (find_lost (λ (row : Named). bytes_eq row.name other) (λ (row : Named). not (bytes_eq row.name name)) (λ x mine. goes x mine is) rows))
  | inr isnt ↦ rw isnt (ap (option_map (λ (row : Named). row.activity)) (find_kept (λ (row : Named). bytes_eq row.name other) (λ (row : Named). not (bytes_eq row.name name)) (λ x mine. stays x mine isnt) rows))
]
  where
    goes : (x : Named) → bytes_eq x.name other ≡ true → bytes_eq name other ≡ true → not (bytes_eq x.name name) ≡ false
    goes x mine is = ap not ((bytes_eq-Decides x.name name).1 (text_same x.name other mine ∙ sym (text_same name other is)))

    stays : (x : Named) → bytes_eq x.name other ≡ true → bytes_eq name other ≡ false → not (bytes_eq x.name name) ≡ true
    stays x mine isnt = ap not (ap (λ k. bytes_eq k name) (text_same x.name other mine) ∙ text_turned name other isnt)

cases : (next : Next) (b : Bool) (r : Ref) (o : Option ActivityId) (base : Option Ref) → option_map (λ (a : ActivityId). a.0) o ≡ numbered next base
    → option_map (λ (a : ActivityId). a.0) (if b then Some (record { 0 = number_in (resolved_ref next.activity r) }) else o) ≡ numbered next (if b then Some r else base)
cases next true r o base is = refl
cases next false r o base is = is

freed : (next : Next) (b : Bool) (o : Option ActivityId) (base : Option Ref) → option_map (λ (a : ActivityId). a.0) o ≡ numbered next base
    → option_map (λ (a : ActivityId). a.0) (if b then None else o) ≡ numbered next (if b then None else base)
freed next true o base is = refl
freed next false o base is = is

-- one effect does to a name what the overlay does
pub name_step : (next : Next) (n : ℕ) (x : Effect) (s : State) (name : List ℕ) (base : Option Ref) → name_in s name ≡ numbered next base
    → name_in (after_effect (resolved_effect next x) s) name ≡ numbered next (named_after name n x base)
name_step next n (effects.SetField entity field value) s name base is = is
name_step next n (effects.SetAttr activity key value) s name base is = is
name_step next n (effects.Create parent under priority) s name base is = rw (left_created s (number_in (resolved_ref next.entity parent)) under priority).names is
name_step next n (effects.Remove entity) s name base is = rw (left_gone s (number_in (resolved_ref next.entity entity))).names is
name_step next n (effects.SetPriority entity priority) s name base is = is
name_step next n (effects.Attach entity activity) s name base is = rw (left_linked s (number_in (resolved_ref next.entity entity)) (number_in (resolved_ref next.activity activity))).names is
name_step next n (effects.Detach entity activity) s name base is = is
name_step next n (effects.SetMask entity activity event on) s name base is = is
name_step next n (effects.Fire activity event service fields) s name base is = is
name_step next n effects.NewNull s name base is = is
name_step next n (effects.EndNull activity) s name base is = is
name_step next n (effects.SetTimer activity start period times keep) s name base is = is
name_step next n (effects.CancelTimer timer) s name base is = is
name_step next n (effects.Bind word activity) s name base is =
    ap (option_map (λ (a : ActivityId). a.0)) (name_bound s.names word name (number_in (resolved_ref next.activity activity))) ∙ cases next (bytes_eq word name) activity (named_at s.names name) base is
name_step next n (effects.Unbind word) s name base is =
    ap (option_map (λ (a : ActivityId). a.0)) (name_free s.names word name) ∙ freed next (bytes_eq word name) (named_at s.names name) base is
name_step next n (effects.Emit entity text) s name base is = is
name_step next n (effects.Usage entity usage amount) s name base is = is
name_step next n (effects.Suspend activity until) s name base is = is
name_step next n (effects.Resume activity) s name base is = is

-- and so do effects one after another
pub names_read : (next : Next) (n : ℕ) (es : List Effect) (s : State) (name : List ℕ) (base : Option Ref) → name_in s name ≡ numbered next base
    → name_in (after_effects (map (resolved_effect next) es) s) name ≡ numbered next (overlay_from activities_by (named_after name) n es base)
names_read next n [] s name base is = is
names_read next n (x ∷ es) s name base is =
    names_read next (n + activities_by x) es (after_effect (resolved_effect next x) s) name (named_after name n x base) (name_step next n x s name base is)
