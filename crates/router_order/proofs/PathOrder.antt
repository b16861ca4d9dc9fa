-- Paths are in a total order, and so are the attachments that are listed by them.
use Rattle.std.proofs.Common.{Less, Equal, Greater, ◌≡◌, ℕ, ℤ, ◌==◌, Bool, true, false, cond, List, [], ◌∷◌, ◌++◌, refl, sym, ap, ◌∙◌, arith, inl, inr}
use Rattle.std.specs.Prelude.{◌&&◌, ◌||◌, not, nat_lt, int_lt}
use Rattle.std.specs.Cmp.{IsTotalOrder}
use Rattle.std.specs.Cmp.Lexicographic.{slice_cmp}
use Rattle.std.specs.Ordering.{MatchOrdering, nat_cmp, int_cmp, on, then_cmp, flip_args, ordering_then, ordering_reverse, is_lt, is_eq, is_gt}
use Rattle.std.specs.declared.cmp.Ordering.{Ordering}
use Rattle.std.proofs.lemmas.Bool.{cases_Bool}
use Rattle.std.proofs.lemmas.Bool.Decides.{nat_tests}
use Rattle.std.proofs.lemmas.Cmp.{nat_cmp_total, int_cmp_total, on_total, back_total, then_total, alike_right, lists_total, same_from_slice_cmp}
use Rattle.router_state.specs.declared.rows.Entity.{Entity}
use Rattle.router_state.specs.declared.rows.Link.{Link}
use Rattle.router_state.specs.Paths.{path_before}
use Rattle.router_state.specs.Trees.{parent_of}
use Rattle.rows_sorted.proofs.RowLemmas.{PartedBy}
use Rattle.entity_tree.specs.Kept.{AreParents, is_entity}
use Rattle.entity_tree.specs.Climbing.{path_at, step_of}
use Rattle.entity_tree.proofs.RowLemmas.{found_number}
use Rattle.entity_tree.proofs.PathLemmas.{path_step}
use Rattle.entity_tree.proofs.ClimbLemmas.{found_there}
use Rattle.router_order.specs.Listed.{listed_before}

-- how two steps compare
abbrev pub step_order : ℤ × ℕ → ℤ × ℕ → Ordering
step_order = then_cmp (flip_args (on (λ (s : ℤ × ℕ). s.0) int_cmp)) (on (λ (s : ℤ × ℕ). s.1) nat_cmp)

step_total : IsTotalOrder step_order
step_total = then_total (back_total (on_total (λ (s : ℤ × ℕ). s.0) int_cmp_total)) (on_total (λ (s : ℤ × ℕ). s.1) nat_cmp_total)

-- how two paths compare
abbrev pub path_order : List (ℤ × ℕ) → List (ℤ × ℕ) → Ordering
path_order = slice_cmp step_order

pub path_total : IsTotalOrder path_order
path_total = lists_total step_total

-- a step decides, or the rest does
one_step : (a b c e rest : Bool) (o : Ordering) → o ≡ ordering_then (cond a Less (cond b Greater Equal)) (cond c Less (cond e Equal Greater))
    → MatchOrdering o (((a || (not b && c)) || ((not a && (not b && e)) && rest)) ≡ true) (((a || (not b && c)) || ((not a && (not b && e)) && rest)) ≡ rest) (((a || (not b && c)) || ((not a && (not b && e)) && rest)) ≡ false)
one_step true b c e rest o is = rw is refl
one_step false true c e rest o is = rw is refl
one_step false false true e rest o is = rw is refl
one_step false false false true rest o is = rw is refl
one_step false false false false rest o is = rw is refl

more : (x y : ℤ × ℕ) (p q : List (ℤ × ℕ)) (o : Ordering) → o ≡ step_order x y
    → MatchOrdering o (path_before (x ∷ p) (y ∷ q) ≡ true) (path_before (x ∷ p) (y ∷ q) ≡ path_before p q) (path_before (x ∷ p) (y ∷ q) ≡ false)
more x y p q o is =
    one_step (int_lt y.0 x.0) (int_lt x.0 y.0) (nat_lt x.1 y.1) (x.1 == y.1) (path_before p q) o is

pub path_is : (p q : List (ℤ × ℕ)) → path_before p q ≡ is_lt (path_order p q)
path_is p q = sym (same_from_slice_cmp step_order is_lt path_before refl (λ _ _. refl) (λ _ _. refl) more p q (path_order p q) refl)

module _ (entities : List Entity) where
  -- how two attachments compare
  abbrev pub listed_order : Link → Link → Ordering
  listed_order = then_cmp (on (λ (l : Link). l.activity.0) nat_cmp) (on (λ (l : Link). path_at entities l.entity.0) path_order)

  pub listed_total : IsTotalOrder listed_order
  listed_total = then_total (on_total (λ (l : Link). l.activity.0) nat_cmp_total) (on_total (λ (l : Link). path_at entities l.entity.0) path_total)

  below_step : (l e r : Bool) (o : Ordering) → r ≡ is_lt o → (l || (e && r)) ≡ is_lt (ordering_then (cond l Less (cond e Equal Greater)) o)
  below_step true e r o same = refl
  below_step false true r o same = same
  below_step false false r o same = refl

  pub listed_is : (x y : Link) → listed_before entities x y ≡ is_lt (listed_order x y)
  listed_is x y = below_step (nat_lt x.activity.0 y.activity.0) (x.activity.0 == y.activity.0) _ _ (path_is (path_at entities x.entity.0) (path_at entities y.entity.0))

less_is : (o : Ordering) → is_lt o ≡ true → o ≡ Less
less_is Less passes = refl
less_is Equal passes = cc
less_is Greater passes = cc

greater_is : (o : Ordering) → is_gt o ≡ true → o ≡ Greater
greater_is Less passes = cc
greater_is Equal passes = cc
greater_is Greater passes = refl

reversed : (o : Ordering) → is_lt (ordering_reverse o) ≡ is_gt o
reversed Less = refl
reversed Equal = refl
reversed Greater = refl

lower_other : (o : Ordering) → is_lt o ≡ true → is_eq o ≡ false
lower_other Less low = refl
lower_other Equal low = cc
lower_other Greater low = refl

lower_not_behind : (o : Ordering) → is_lt o ≡ true → is_gt o ≡ false
lower_not_behind Less low = refl
lower_not_behind Equal low = refl
lower_not_behind Greater low = cc

equal_not_lower : (o : Ordering) → is_eq o ≡ true → is_lt o ≡ false
equal_not_lower Less low = cc
equal_not_lower Equal low = refl
equal_not_lower Greater low = cc

equal_not_behind : (o : Ordering) → is_eq o ≡ true → is_gt o ≡ false
equal_not_behind Less low = cc
equal_not_behind Equal low = refl
equal_not_behind Greater low = cc

behind_rest : (o : Ordering) → is_lt o ≡ false → is_eq o ≡ false → is_gt o ≡ true
behind_rest Less low same = cc
behind_rest Equal low same = cc
behind_rest Greater low same = refl

-- A total order, and the test whether one thing stands before another.
module _ {Row : Type 0} (before : Row → Row → Bool) (order : Row → Row → Ordering) (total : IsTotalOrder order) (is : (x y : Row) → before x y ≡ is_lt (order x y)) where
  pub joins : (x y z : Row) → before x y ≡ true → before y z ≡ true → before x z ≡ true
  joins x y z one two = is x z ∙ ap is_lt (total.trans x y z (less_is _ (sym (is x y) ∙ one)) (less_is _ (sym (is y z) ∙ two)))

  pub behind_is : (x y : Row) → before y x ≡ is_gt (order x y)
  behind_is x y = is y x ∙ ap is_lt (total.antisymm y x) ∙ reversed (order x y)

  pub not_back : (x y : Row) → before x y ≡ true → before y x ≡ false
  not_back x y low = behind_is x y ∙ lower_not_behind _ (sym (is x y) ∙ low)

  -- of two in order, the later one stands behind what the earlier one doesn't stand before
  greater_after : (x y k : Row) → before x y ≡ true → before x k ≡ false → order y k ≡ Greater
  greater_after x y k rises high = by (order y k) refl
    where
      less : order x y ≡ Less
      less = less_is _ (sym (is x y) ∙ rises)

      by : (o : Ordering) → order y k ≡ o → order y k ≡ Greater
      by Less at = let low : is_lt (order x k) ≡ true = ap is_lt (total.trans x y k less at) in let other = sym (is x k) ∙ high in cc
      by Equal at = let low : is_lt (order x k) ≡ true = ap is_lt (sym (alike_right total y k x at) ∙ less) in let other = sym (is x k) ∙ high in cc
      by Greater at = at

  pub parted : (k : Row) → PartedBy (λ x y. before x y ≡ true) (λ x. before x k) (λ x. is_eq (order x k)) (λ x. before k x)
  parted k = record {
    low_apart = λ x low. lower_other _ (sym (is x k) ∙ low);
    low_not_behind = λ x low. not_back x k low;
    mine_not_low = λ x mine. is x k ∙ equal_not_lower _ mine;
    mine_not_behind = λ x mine. behind_is x k ∙ equal_not_behind _ mine;
    neither = λ x high other. behind_is x k ∙ behind_rest _ (sym (is x k) ∙ high) other;
    later_not_low = λ x y rises high. is y k ∙ ap is_lt (greater_after x y k rises high);
    later_apart = λ x y rises high. ap is_eq (greater_after x y k rises high);
    later_behind = λ x y rises high. behind_is y k ∙ ap is_gt (greater_after x y k rises high);
  }

-- the number of a path's last step, or this one where it has none
abbrev last_number : ℕ → List (ℤ × ℕ) → ℕ
last_number d [] = d
last_number d (x ∷ p) = last_number x.1 p

last_of : (d : ℕ) (p : List (ℤ × ℕ)) (x : ℤ × ℕ) → last_number d (p ++ x ∷ []) ≡ x.1
last_of d [] x = refl
last_of d (y ∷ p) x = last_of y.1 p x

tied_parts : (a b : Ordering) → ordering_then a b ≡ Equal → (a ≡ Equal) × (b ≡ Equal)
tied_parts Less b tied = absurd (cc)
tied_parts Equal b tied = (refl, tied)
tied_parts Greater b tied = absurd (cc)

tied_numbers : (m n : ℕ) → nat_cmp m n ≡ Equal → m ≡ n
tied_numbers m n tied = elim (cases_Bool (nat_lt m n)) [
  | inl low ↦ let wrong : Less ≡ Equal = rw low at tied in absurd (cc)
  | inr high ↦ elim (cases_Bool (m == n)) [
    | inl same ↦ grind (arith, nat_tests, same)
    | inr apart ↦ let wrong : Greater ≡ Equal = rw (high, apart) at tied in absurd (cc)
  ]
]

-- paths of which neither comes first end in one number
tied_last : (d e : ℕ) (p q : List (ℤ × ℕ)) → d ≡ e → path_order p q ≡ Equal → last_number d p ≡ last_number e q
tied_last d e [] [] same tied = same
tied_last d e [] (y ∷ q) same tied = absurd (cc)
tied_last d e (x ∷ p) [] same tied = absurd (cc)
tied_last d e (x ∷ p) (y ∷ q) same tied =
    let parts = tied_parts (step_order x y) (path_order p q) tied in
    let steps = tied_parts _ _ parts.0 in
    tied_last x.1 y.1 p q (tied_numbers x.1 y.1 steps.1) parts.1

module _ (entities : List Entity) (parents : AreParents entities) where
  ends_in : (e : ℕ) → is_entity entities e ≡ true → last_number 0 (path_at entities e) ≡ e
  ends_in e there =
      let x = found_there entities e there in
      let number = found_number e x.0 entities x.1 in
      ap (last_number 0) (path_step entities parents e x.0 x.1) ∙ last_of 0 (path_at entities (parent_of x.0)) (step_of x.0) ∙ number

  -- two entities that are there and of which neither comes first are one
  pub one_entity : (e f : ℕ) → is_entity entities e ≡ true → is_entity entities f ≡ true → path_order (path_at entities e) (path_at entities f) ≡ Equal → e ≡ f
  one_entity e f there also tied = sym (ends_in e there) ∙ tied_last 0 0 (path_at entities e) (path_at entities f) refl tied ∙ ends_in f also

  equal_is : (o : Ordering) → is_eq o ≡ true → o ≡ Equal
  equal_is Less same = absurd (cc)
  equal_is Equal same = refl
  equal_is Greater same = absurd (cc)

  -- two attachments of entities that are there stand in one place only where they are the same
  pub one_link : (x y : Link) → is_entity entities x.entity.0 ≡ true → is_entity entities y.entity.0 ≡ true → is_eq (listed_order entities x y) ≡ true → (x.entity.0 ≡ y.entity.0) × (x.activity.0 ≡ y.activity.0)
  one_link x y there also same =
      let parts = tied_parts _ _ (equal_is _ same) in
      (one_entity x.entity.0 y.entity.0 there also parts.1, tied_numbers x.activity.0 y.activity.0 parts.0)
