-- Keys are in a total order.
use Rattle.std.proofs.Common.{Less, Equal, Greater, ◌≡◌, ℕ, ◌==◌, Bool, true, false, [], cond, refl, sym, ap, ◌∙◌, arith, inl, inr}
use Rattle.std.specs.Prelude.{◌&&◌, ◌||◌, nat_lt}
use Rattle.std.specs.Cmp.{IsTotalOrder}
use Rattle.std.specs.Cmp.Lexicographic.{slice_cmp}
use Rattle.std.specs.Ordering.{nat_cmp, on, then_cmp, ordering_then, ordering_reverse, is_lt, is_eq, is_gt}
use Rattle.std.specs.declared.cmp.Ordering.{Ordering}
use Rattle.std.proofs.lemmas.Bool.{cases_Bool}
use Rattle.std.proofs.lemmas.Bool.Decides.{nat_tests}
use Rattle.std.proofs.lemmas.Cmp.{nat_cmp_total, on_total, then_total, alike_right}
use Rattle.std.proofs.lemmas.Map.Text.{is_eq-slice_cmp}
use Rattle.std.specs.Cmp.Lexicographic.{nat_list_cmp_total}
use Rattle.rows_sorted.specs.Orders.{pair_before, triple_before}
use Rattle.rows_sorted.specs.Keys.{Key, key_before, is_key}

-- how two keys compare
abbrev pub key_order : Key → Key → Ordering
key_order = then_cmp (on (λ (k : Key). k.first) nat_cmp) (then_cmp (on (λ (k : Key). k.second) nat_cmp) (on (λ (k : Key). k.text) (slice_cmp nat_cmp)))

pub key_total : IsTotalOrder key_order
key_total = then_total (on_total (λ (k : Key). k.first) nat_cmp_total) (then_total (on_total (λ (k : Key). k.second) nat_cmp_total) (on_total (λ (k : Key). k.text) nat_list_cmp_total))

below_step : (l e r : Bool) (o : Ordering) → r ≡ is_lt o → (l || (e && r)) ≡ is_lt (ordering_then (cond l Less (cond e Equal Greater)) o)
below_step true e r o same = refl
below_step false true r o same = same
below_step false false r o same = refl

pub before_is : (x y : Key) → key_before x y ≡ is_lt (key_order x y)
before_is x y = below_step (nat_lt x.first y.first) (x.first == y.first) _ _ (below_step (nat_lt x.second y.second) (x.second == y.second) _ _ refl)

same_step : (a b : ℕ) (r : Bool) (o : Ordering) → r ≡ is_eq o → ((a == b) && r) ≡ is_eq (ordering_then (nat_cmp a b) o)
same_step a b r o same = elim (cases_Bool (nat_lt a b)) [
  | inl low ↦ let other : (a == b) ≡ false = grind (arith, nat_tests) in rw (low, other) refl
  | inr high ↦ elim (cases_Bool (a == b)) [
    | inl equal ↦ rw (high, equal) same
    | inr apart ↦ rw (high, apart) refl
  ]
]

pub same_is : (x y : Key) → is_key x y ≡ is_eq (key_order x y)
same_is x y = same_step x.first y.first _ _ (same_step x.second y.second _ _ (sym (is_eq-slice_cmp x.text y.text)))

reversed : (o : Ordering) → is_lt (ordering_reverse o) ≡ is_gt o
reversed Less = refl
reversed Equal = refl
reversed Greater = refl

pub behind_is : (x y : Key) → key_before y x ≡ is_gt (key_order x y)
behind_is x y = before_is y x ∙ ap is_lt (key_total.antisymm y x) ∙ reversed (key_order x y)

pub lower_is : (x y : Key) → key_before x y ≡ true → key_order x y ≡ Less
lower_is x y before = by (key_order x y) (sym (before_is x y) ∙ before)
  where
    by : (o : Ordering) → is_lt o ≡ true → o ≡ Less
    by Less passes = refl
    by Equal passes = cc
    by Greater passes = cc

-- of two rows in order, the later one stands behind each key that the earlier one doesn't stand before
pub greater_after : (x y k : Key) → key_order x y ≡ Less → is_lt (key_order x k) ≡ false → key_order y k ≡ Greater
greater_after x y k rises high = by (key_order y k) refl
  where
    by : (o : Ordering) → key_order y k ≡ o → key_order y k ≡ Greater
    by Less is = let low : is_lt (key_order x k) ≡ true = ap is_lt (key_total.trans x y k rises is) in cc
    by Equal is = let low : is_lt (key_order x k) ≡ true = ap is_lt (sym (alike_right key_total y k x is) ∙ rises) in cc
    by Greater is = is

none_behind : (b : Bool) → (b && false) ≡ false
none_behind true = refl
none_behind false = refl

alone : (b : Bool) → (b || false) ≡ b
alone true = refl
alone false = refl

-- keys of two numbers are in the order of pairs
pub pair_agrees : (a b c d : ℕ) → triple_before a b [] c d [] ≡ pair_before a b c d
pair_agrees a b c d = rw (none_behind (b == d), alone (nat_lt b d)) refl

-- keys of one number are in the order of numbers
pub number_agrees : (a c : ℕ) → triple_before a 0 [] c 0 [] ≡ nat_lt a c
number_agrees a c = rw (none_behind (a == c), alone (nat_lt a c)) refl
