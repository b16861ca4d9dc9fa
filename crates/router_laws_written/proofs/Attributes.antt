-- What a run reads of an attribute behind its own effects is what is there once they are done.
use Rattle.std.proofs.Common.{Less, Equal, Greater, ◌≡◌, ℕ, ◌+◌, ◌==◌, ◌&&◌, ◌||◌, Bool, true, false, ℤ, List, [], ◌∷◌, map, refl, sym, ◌∙◌, ap, subst, inl, inr, arith, not, if◌then◌else◌, Option, Some, None}
use Rattle.std.specs.Prelude.{nat_lt, option_map}
use Rattle.std.specs.List.{AllByRecursion}
use Rattle.std.specs.Option.{option_map_or}
use Rattle.std.specs.Str.{bytes_eq}
use Rattle.std.specs.Cmp.Lexicographic.{nat_list_cmp_total}
use Rattle.std.specs.Ordering.{is_eq, is_gt, is_lt, ordering_reverse}
use Rattle.std.specs.declared.cmp.Ordering.{Ordering}
use Rattle.std.proofs.lemmas.Map.Text.{is_eq-slice_cmp}
use Rattle.std.proofs.lemmas.Bool.{and_parts, cases_Bool, cond_both, eq-eqb, eqb-true, false_from_ne_true}
use Rattle.std.proofs.lemmas.Bool.Decides.{nat_tests}
use Rattle.std.proofs.lemmas.Slice.Eq.{bytes_eq-Decides}
use Rattle.slee_value.specs.Order.{byte_order, is_below}
use Rattle.slee_value.specs.declared.kind.Kind.{Kind}
use Rattle.slee_value.specs.declared.value.Value.{Value}
use Rattle.slee_effect.specs.Resolving.{resolved_effect, resolved_ref, resolved_val}
use Rattle.slee_effect.specs.declared.effect.Effect.{Effect}
use Rattle.slee_effect.specs.declared.effect.Effect.TheVariants as effects
use Rattle.slee_effect.specs.declared.next.Next.{Next}
use Rattle.slee_effect.specs.declared.reference.Ref.{Ref}
use Rattle.slee_effect.specs.declared.reference.Ref.TheVariants.{Fresh, Known}
use Rattle.slee_effect.specs.declared.value.Val.{Val}
use Rattle.slee_effect.specs.declared.value.Val.TheVariants.{NewActivity, NewTimer, Plain}
use Rattle.script_types.specs.declared.codes.RelationCode.{RelationCode}
use Rattle.script_meaning.specs.Overlay.{activities_by, attr_after, overlay_from, same_ref}
use Rattle.rows_sorted.specs.Orders.{same_text, text_before}
use Rattle.router_laws.proofs.ListLemmas.{find_put_other, find_put_own}
use Rattle.router_laws_applying.proofs.Frames.{child_is}
use Rattle.router_laws_effects.specs.Runs.{IsOld}
use Rattle.router_laws_sound.proofs.SoundFields.{not_below_itself}
use Rattle.router_laws_sound.proofs.SoundTrees.{removed_alone}
use Rattle.router_laws_written.specs.Held.{SetsOld, attribute_held, held}
use Rattle.router_state.specs.Contexts.{attribute_at, attribute_before, is_linked, with_attribute}
use Rattle.router_state.specs.State.{State}
use Rattle.router_state.specs.Trees.{tree_of}
use Rattle.router_state.specs.declared.rows.Attribute.{Attribute}
use Rattle.router_steps.specs.Creating.{with_child}
use Rattle.router_steps.specs.Effects.{after_effect, after_effects, number_in, plain, relation_at}
use Rattle.router_steps.specs.Going.{all_removed}
use Rattle.router_steps.specs.Moves.{attached}

-- attributes in their list

pub texts_same : (x y : List ℕ) → bytes_eq x y ≡ true → x ≡ y
texts_same x y is = (bytes_eq-Decides x y).0 is

pub text_turned : (x y : List ℕ) → bytes_eq x y ≡ false → bytes_eq y x ≡ false
text_turned x y other = false_from_ne_true (bytes_eq y x) (λ is. by (bytes_eq x y) other ((bytes_eq-Decides x y).1 (sym (texts_same y x is))))
  where
    by : (b : Bool) → b ≡ false → b ≡ true → ⊥
    by b isnt is = absurd (cc)

reversed : (o : Ordering) → is_lt (ordering_reverse o) ≡ is_gt o
reversed Less = refl
reversed Equal = refl
reversed Greater = refl

behind_text : (x y : List ℕ) → is_below y x ≡ is_gt (byte_order x y)
behind_text x y = ap is_lt (nat_list_cmp_total.antisymm y x) ∙ reversed (byte_order x y)

sides : (o : Ordering) → is_eq o ≡ false → is_lt o ≡ not (is_gt o)
sides Less other = refl
sides Equal other = absurd (cc)
sides Greater other = refl

-- of two texts that aren't the same one is below the other
pub text_sides : (x y : List ℕ) → bytes_eq x y ≡ false → is_below x y ≡ not (is_below y x)
text_sides x y other = sides (byte_order x y) (is_eq-slice_cmp x y ∙ other) ∙ ap not (sym (behind_text x y))

-- of two keys that aren't the same one comes before the other
pub key_sides : (a b : ℕ) (x y : List ℕ) → ((b == a) && bytes_eq y x) ≡ false → text_before a x b y ≡ not (text_before b y a x)
key_sides a b x y other = elim (cases_Bool (b == a)) [
  | inl is ↦ same (eqb-true b a is) (rw is at other)
  | inr isnt ↦ apart (nat_lt a b) (nat_lt b a) (a == b) (b == a) (is_below x y) (is_below y x) (turned isnt) isnt (either isnt)
]
  where
    turned : (b == a) ≡ false → (a == b) ≡ false
    turned isnt = grind (arith, nat_tests, isnt)

    either : (b == a) ≡ false → nat_lt a b ≡ not (nat_lt b a)
    either isnt = grind (arith, nat_tests, isnt)

    apart : (l m p q u v : Bool) → p ≡ false → q ≡ false → l ≡ not m → (l || (p && u)) ≡ not (m || (q && v))
    apart l true p q u v np nq is = rw (np, is) refl
    apart l false p q u v np nq is = rw (nq, is) refl

    level : (b : ℕ) (u v : Bool) → u ≡ not v → (nat_lt b b || ((b == b) && u)) ≡ not (nat_lt b b || ((b == b) && v))
    level b u v is = rw (none b, eq-eqb b b refl) is
      where
        none : (b : ℕ) → nat_lt b b ≡ false
        none b = grind (arith, nat_tests)

    same : b ≡ a → bytes_eq y x ≡ false → text_before a x b y ≡ not (text_before b y a x)
    same is apart = subst (λ k. text_before k x b y ≡ not (text_before b y k x)) is (level b (is_below x y) (is_below y x) (text_sides x y (text_turned y x apart)))

pub key_level : (b : ℕ) (y : List ℕ) → text_before b y b y ≡ false
key_level b y = rw (none b, eq-eqb b b refl) (not_below_itself y)
  where
    none : (b : ℕ) → nat_lt b b ≡ false
    none b = grind (arith, nat_tests)

attribute_put : (rows : List Attribute) (b a : ℕ) (key other : List ℕ) (value : Value) → attribute_at (with_attribute rows b key value) a other ≡ (if (b == a) && bytes_eq key other then Some value else attribute_at rows a other)
attribute_put rows b a key other value = elim (cases_Bool ((b == a) && bytes_eq key other)) [
  | inl is ↦ rw is (ap (option_map (λ (row : Attribute). row.value)) (find_put_own attribute_before q new rows is (λ x mine. level x (parts x.activity.0 a x.key other mine) (parts b a key other is))))
  | inr isnt ↦ rw isnt (ap (option_map (λ (row : Attribute). row.value)) (find_put_other attribute_before q new rows (text_before a other b key) (text_before b key a other) isnt
      (key_sides a b other key isnt) (λ x mine. ahead x (parts x.activity.0 a x.key other mine)) (λ x mine. behind x (parts x.activity.0 a x.key other mine))))
]
  where
    new : Attribute
    new = record { activity = record { 0 = b }; key = key; value = value }

    q : Attribute → Bool
    q row = same_text row.activity.0 row.key a other

    parts : (m n : ℕ) (x y : List ℕ) → same_text m x n y ≡ true → (m ≡ n) × (x ≡ y)
    parts m n x y is = let both = and_parts (m == n) (bytes_eq x y) is in (eqb-true m n both.0, texts_same x y both.1)

    level : (x : Attribute) → (x.activity.0 ≡ a) × (x.key ≡ other) → (b ≡ a) × (key ≡ other) → text_before x.activity.0 x.key b key ≡ false
    level x one two = rw (one.0, one.1, two.0, two.1) (key_level a other)

    ahead : (x : Attribute) → (x.activity.0 ≡ a) × (x.key ≡ other) → text_before x.activity.0 x.key b key ≡ text_before a other b key
    ahead x one = rw (one.0, one.1) refl

    behind : (x : Attribute) → (x.activity.0 ≡ a) × (x.key ≡ other) → text_before b key x.activity.0 x.key ≡ text_before b key a other
    behind x one = rw (one.0, one.1) refl

-- numbers of what a run refers to

same_numbers : (next : ℕ) (a b : Ref) → IsOld next a → IsOld next b → (number_in (resolved_ref next a) == number_in (resolved_ref next b)) ≡ same_ref a b
same_numbers next (Known i) (Known j) one two = refl
same_numbers next (Known i) (Fresh j) one two = false_from_ne_true (i == (next + j)) (λ is. omega (arith, one, eqb-true i (next + j) is))
same_numbers next (Fresh i) (Known j) one two = false_from_ne_true ((next + i) == j) (λ is. omega (arith, two, eqb-true (next + i) j is))
same_numbers next (Fresh i) (Fresh j) one two = elim (cases_Bool (i == j)) [
  | inl is ↦ rw is (both next i j is)
  | inr isnt ↦ rw isnt (neither next i j isnt)
]
  where
    both : (n i j : ℕ) → (i == j) ≡ true → ((n + i) == (n + j)) ≡ true
    both n i j is = grind (arith, nat_tests)

    neither : (n i j : ℕ) → (i == j) ≡ false → ((n + i) == (n + j)) ≡ false
    neither n i j isnt = grind (arith, nat_tests)

-- what effects leave

created : (s : State) (parent : ℕ) (relation : List ℕ) (priority : ℤ) (o : Option RelationCode) → (option_map_or (λ (r : RelationCode). with_child s parent relation r.block priority) o s).attributes ≡ s.attributes
created s parent relation priority None = refl
created s parent relation priority (Some r) = ap (λ (t : State). t.attributes) (child_is s parent relation r.block priority)

gone : (s : State) (es : List ℕ) → (all_removed es s).attributes ≡ s.attributes
gone s es = ap (λ (t : State). t.attributes) (removed_alone es s)

linked : (s : State) (e a : ℕ) → (attached s e a).attributes ≡ s.attributes
linked s e a = cond_both (is_linked s.links e a) s _ (λ (t : State). t.attributes ≡ s.attributes) (λ _. refl) (λ _. refl)

-- a value that an effect has, once what is new has its number
pub plain_held : (next : Next) (kind : Kind) (value : Val) → held kind (Some (plain (resolved_val next value))) ≡ resolved_val next value
plain_held next kind (Plain value) = refl
plain_held next kind (NewActivity place) = refl
plain_held next kind (NewTimer place) = refl

cases : (next : Next) (kind : Kind) (b : Bool) (value : Val) (o : Option Value) (base : Val) → held kind o ≡ resolved_val next base
    → held kind (if b then Some (plain (resolved_val next value)) else o) ≡ resolved_val next (if b then value else base)
cases next kind true value o base is = plain_held next kind value
cases next kind false value o base is = is

-- one effect does to an attribute what the overlay does
attribute_step : (next : Next) (n : ℕ) (x : Effect) (s : State) (a : Ref) (key : List ℕ) (kind : Kind) (base : Val) → IsOld next.activity a → SetsOld next.activity x → attribute_held next kind s a key ≡ resolved_val next base
    → attribute_held next kind (after_effect (resolved_effect next x) s) a key ≡ resolved_val next (attr_after a key n x base)
attribute_step next n (effects.SetField entity field value) s a key kind base mine old is = is
attribute_step next n (effects.SetAttr activity other value) s a key kind base mine old is =
    let k = number_in (resolved_ref next.activity a) in
    ap (held kind) (attribute_put s.attributes (number_in (resolved_ref next.activity activity)) k other key (plain (resolved_val next value)))
    ∙ rw (same_numbers next.activity activity a old mine) (cases next kind (same_ref activity a && bytes_eq other key) value (attribute_at s.attributes k key) base is)
attribute_step next n (effects.Create parent under priority) s a key kind base mine old is = rw (created s (number_in (resolved_ref next.entity parent)) under priority (relation_at s (number_in (resolved_ref next.entity parent)) under)) is
attribute_step next n (effects.Remove entity) s a key kind base mine old is = rw (gone s (tree_of s.entities (number_in (resolved_ref next.entity entity)))) is
attribute_step next n (effects.SetPriority entity priority) s a key kind base mine old is = is
attribute_step next n (effects.Attach entity activity) s a key kind base mine old is = rw (linked s (number_in (resolved_ref next.entity entity)) (number_in (resolved_ref next.activity activity))) is
attribute_step next n (effects.Detach entity activity) s a key kind base mine old is = is
attribute_step next n (effects.SetMask entity activity event on) s a key kind base mine old is = is
attribute_step next n (effects.Fire activity event service fields) s a key kind base mine old is = is
attribute_step next n effects.NewNull s a key kind base mine old is = is
attribute_step next n (effects.EndNull activity) s a key kind base mine old is = is
attribute_step next n (effects.SetTimer activity start period times keep) s a key kind base mine old is = is
attribute_step next n (effects.CancelTimer timer) s a key kind base mine old is = is
attribute_step next n (effects.Bind word activity) s a key kind base mine old is = is
attribute_step next n (effects.Unbind word) s a key kind base mine old is = is
attribute_step next n (effects.Emit entity text) s a key kind base mine old is = is
attribute_step next n (effects.Usage entity usage amount) s a key kind base mine old is = is
attribute_step next n (effects.Suspend activity until) s a key kind base mine old is = is
attribute_step next n (effects.Resume activity) s a key kind base mine old is = is

-- and so do effects one after another
pub attributes_read : (next : Next) (n : ℕ) (es : List Effect) (s : State) (a : Ref) (key : List ℕ) (kind : Kind) (base : Val) → IsOld next.activity a → AllByRecursion (SetsOld next.activity) es → attribute_held next kind s a key ≡ resolved_val next base
    → attribute_held next kind (after_effects (map (resolved_effect next) es) s) a key ≡ resolved_val next (overlay_from activities_by (attr_after a key) n es base)
attributes_read next n [] s a key kind base mine old is = is
attributes_read next n (x ∷ es) s a key kind base mine old is =
    attributes_read next (n + activities_by x) es (after_effect (resolved_effect next x) s) a key kind (attr_after a key n x base) mine old.1 (attribute_step next n x s a key kind base mine old.0 is)
