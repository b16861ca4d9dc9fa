-- A key parts the rows that rise by their keys.
use Rattle.std.proofs.Common.{Less, Equal, Greater, ◌≡◌, true, false, sym, ap, ◌∙◌, refl}
use Rattle.std.specs.Ordering.{is_lt, is_eq, is_gt}
use Rattle.std.specs.declared.cmp.Ordering.{Ordering}
use Rattle.rows_sorted.specs.Keys.{Key, key_before, is_key}
use Rattle.rows_sorted.proofs.KeyLemmas.{before_is, same_is, behind_is}
use Rattle.rows_sorted.proofs.OrderLemmas.{IsBefore, behind_later}
use Rattle.rows_sorted.proofs.RowLemmas.{PartedBy}

lower_other : (o : Ordering) → is_lt o ≡ true → is_eq o ≡ false
lower_other Less low = refl
lower_other Equal low = cc
lower_other Greater low = refl

lower_not_behind : (o : Ordering) → is_lt o ≡ true → is_gt o ≡ false
lower_not_behind Less low = refl
lower_not_behind Equal low = refl
lower_not_behind Greater low = cc

equal_not_lower : (o : Ordering) → is_eq o ≡ true → is_lt o ≡ false
equal_not_lower Less low = cc
equal_not_lower Equal low = refl
equal_not_lower Greater low = refl

equal_not_behind : (o : Ordering) → is_eq o ≡ true → is_gt o ≡ false
equal_not_behind Less low = refl
equal_not_behind Equal low = refl
equal_not_behind Greater low = cc

behind_rest : (o : Ordering) → is_lt o ≡ false → is_eq o ≡ false → is_gt o ≡ true
behind_rest Less low same = cc
behind_rest Equal low same = cc
behind_rest Greater low same = refl

module _ {Row : Type 0} (key : Row → Key) (k : Key) where
  pub parted_by_key : PartedBy (IsBefore key) (λ x. key_before (key x) k) (λ x. is_key (key x) k) (λ x. key_before k (key x))
  parted_by_key = record {
    low_apart = λ x low. same_is (key x) k ∙ lower_other _ (sym (before_is (key x) k) ∙ low);
    low_not_behind = λ x low. behind_is (key x) k ∙ lower_not_behind _ (sym (before_is (key x) k) ∙ low);
    mine_not_low = λ x mine. before_is (key x) k ∙ equal_not_lower _ (sym (same_is (key x) k) ∙ mine);
    mine_not_behind = λ x mine. behind_is (key x) k ∙ equal_not_behind _ (sym (same_is (key x) k) ∙ mine);
    neither = λ x high other. behind_is (key x) k ∙ behind_rest _ (sym (before_is (key x) k) ∙ high) (sym (same_is (key x) k) ∙ other);
    later_not_low = λ x y rises high. before_is (key y) k ∙ ap is_lt (behind_later key k x y rises high);
    later_apart = λ x y rises high. same_is (key y) k ∙ ap is_eq (behind_later key k x y rises high);
    later_behind = λ x y rises high. behind_is (key y) k ∙ ap is_gt (behind_later key k x y rises high);
  }
