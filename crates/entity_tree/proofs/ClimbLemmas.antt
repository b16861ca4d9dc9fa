-- Two entities that are followed up as far as each other part where one path stands above both.
use Rattle.std.proofs.Common.{Less, Equal, Greater, ◌≡◌, ℕ, ℤ, ◌-◌, ◌<◌, ◌≤◌, ◌==◌, Bool, true, false, ◌||◌, List, [], ◌∷◌, ◌++◌, Some, length, refl, sym, ap, subst, ◌∙◌, arith, Option, None}
use Rattle.std.specs.Prelude.{is_some, nat_lt}
use Rattle.std.specs.Ordering.{is_lt, is_eq, is_gt, nat_cmp}
use Rattle.std.specs.declared.cmp.Ordering.{Ordering}
use Rattle.std.proofs.lemmas.Bool.Decides.{nat_tests}
use Rattle.router_state.specs.declared.rows.Entity.{Entity}
use Rattle.router_state.specs.Trees.{entity_at, parent_of}
use Rattle.router_state.specs.Paths.{step_before, path_before}
use Rattle.entity_tree.specs.Kept.{AreParents}
use Rattle.entity_tree.specs.Climbing.{BeginsWith, path_at, step_of}
use Rattle.entity_tree.proofs.RowLemmas.{found_number}
use Rattle.entity_tree.proofs.PathLemmas.{begins_itself, length_there, path_step, up_begins, up_length}
use Rattle.entity_tree.proofs.OrderLemmas.{longer, parted, upper_not_after}

pub found_there : (rows : List Entity) (e : ℕ) → is_some (entity_at rows e) ≡ true → (x : Entity) × (entity_at rows e ≡ Some x)
found_there rows e there = by (entity_at rows e) refl
  where
    by : (found : Option Entity) → entity_at rows e ≡ found → (x : Entity) × (entity_at rows e ≡ Some x)
    by None is = absurd (let wrong : false ≡ true = rw is at there in cc)
    by (Some x) is = (x, is)

none_long : (p : List (ℤ × ℕ)) → length p ≡ 0 → p ≡ []
none_long [] none = refl
none_long (x ∷ p) none = absurd (omega (arith, none))

module _ (rows : List Entity) (parents : AreParents rows) where
  pub found_itself : (e : ℕ) (row : Entity) → entity_at rows e ≡ Some row → entity_at rows row.number.0 ≡ Some row
  found_itself e row is = subst (λ n. entity_at rows n ≡ Some row) (sym (found_number e row rows is)) is

  -- an entity with more than one step on its path has a parent
  pub parent_there : (x : Entity) → entity_at rows x.number.0 ≡ Some x → 1 < length (path_at rows x.number.0) → is_some (entity_at rows (parent_of x)) ≡ true
  parent_there x there long = let less = up_length rows parents x.number.0 x there in length_there rows parents (parent_of x) (omega (arith, less, long))

  -- one step up
  pub over_length : (x over : Entity) → entity_at rows x.number.0 ≡ Some x → entity_at rows (parent_of x) ≡ Some over → length (path_at rows over.number.0) ≡ length (path_at rows x.number.0) - 1
  over_length x over there is = ap (λ n. length (path_at rows n)) (found_number (parent_of x) over rows is) ∙ up_length rows parents x.number.0 x there

  pub over_begins : (x over : Entity) (whole : List (ℤ × ℕ)) → entity_at rows x.number.0 ≡ Some x → entity_at rows (parent_of x) ≡ Some over → BeginsWith whole (path_at rows x.number.0) → BeginsWith whole (path_at rows over.number.0)
  over_begins x over whole there is begins = subst (λ n. BeginsWith whole (path_at rows n)) (sym (found_number (parent_of x) over rows is)) (up_begins rows parents x.number.0 x whole there begins)

  -- nothing stands above the first step of two paths
  pub none_above : (x y : Entity) (steps : ℕ) → entity_at rows x.number.0 ≡ Some x → entity_at rows y.number.0 ≡ Some y → length (path_at rows x.number.0) ≡ steps → length (path_at rows y.number.0) ≡ steps → steps ≤ 1
      → path_at rows (parent_of x) ≡ path_at rows (parent_of y)
  none_above x y steps there too one other few =
      let less = up_length rows parents x.number.0 x there in
      let also = up_length rows parents y.number.0 y too in
      none_long (path_at rows (parent_of x)) (omega (arith, less, one, few)) ∙ sym (none_long (path_at rows (parent_of y)) (omega (arith, also, other, few)))

  -- the two paths come as their steps below the one path do
  pub parts : (one other : ℕ) (x y : Entity) (b : Bool) → BeginsWith (path_at rows one) (path_at rows x.number.0) → BeginsWith (path_at rows other) (path_at rows y.number.0) → (x.number.0 == y.number.0) ≡ false
      → entity_at rows x.number.0 ≡ Some x → entity_at rows y.number.0 ≡ Some y → path_at rows (parent_of x) ≡ path_at rows (parent_of y) → b ≡ step_before (step_of x) (step_of y)
      → b ≡ path_before (path_at rows one) (path_at rows other)
  parts one other x y b begins also apart there too shared says =
      let step_y = path_step rows parents y.number.0 y too ∙ ap (λ p. p ++ step_of y ∷ []) (sym shared) in
      let from_x = subst (BeginsWith (path_at rows one)) (path_step rows parents x.number.0 x there) begins in
      let from_y = subst (BeginsWith (path_at rows other)) step_y also in
      says ∙ sym (parted (path_at rows (parent_of x)) (step_of x) (step_of y) (path_at rows one) (path_at rows other) from_x from_y apart)

-- what isn't equal is less or greater
pub decided : (o : Ordering) → is_eq o ≡ false → (is_lt o || is_gt o) ≡ true
decided Less apart = refl
decided Equal apart = absurd (cc)
decided Greater apart = refl

pub not_before_itself : (p : List (ℤ × ℕ)) → path_before p p ≡ false
not_before_itself p = upper_not_after p p (begins_itself p)

-- of two paths of one length one comes first, and what goes on from the one comes as it does
pub goes_on : (p upper whole : List (ℤ × ℕ)) (o : Ordering) → length p ≡ length upper → BeginsWith whole upper → is_lt o ≡ path_before p upper → is_gt o ≡ path_before upper p → is_eq o ≡ false
    → (is_lt o ≡ path_before p whole) × (is_gt o ≡ path_before whole p)
goes_on p upper whole o level begins less greater apart =
    let either : (path_before p upper || path_before upper p) ≡ true = rw (← less, ← greater) (decided o apart) in
    let on = longer p upper whole level begins either in
    (less ∙ sym on.0, greater ∙ sym on.1)

shorter : (m n : ℕ) → m < n → nat_cmp m n ≡ Less
shorter m n less = let low : nat_lt m n ≡ true = grind (arith, nat_tests, less) in rw low refl

longer_one : (m n : ℕ) → n < m → nat_cmp m n ≡ Greater
longer_one m n more =
    let high : nat_lt m n ≡ false = grind (arith, nat_tests, more) in
    let apart : (m == n) ≡ false = grind (arith, nat_tests, more) in
    rw (high, apart) refl

-- where one of two paths has no steps, they come as their lengths do
pub bare_first : (p q : List (ℤ × ℕ)) (o : Ordering) → length p ≡ 0 → o ≡ nat_cmp (length p) (length q) → (is_lt o ≡ path_before p q) × (is_gt o ≡ path_before q p)
bare_first [] [] o none is = rw is (refl, refl)
bare_first [] (y ∷ q) o none is = let less : o ≡ Less = is ∙ shorter 0 (length (y ∷ q)) (omega arith) in rw less (refl, refl)
bare_first (x ∷ p) q o none is = absurd (omega (arith, none))

pub bare_second : (p q : List (ℤ × ℕ)) (o : Ordering) → length q ≡ 0 → o ≡ nat_cmp (length p) (length q) → (is_lt o ≡ path_before p q) × (is_gt o ≡ path_before q p)
bare_second [] [] o none is = rw is (refl, refl)
bare_second (x ∷ p) [] o none is = let more : o ≡ Greater = is ∙ longer_one (length (x ∷ p)) 0 (omega arith) in rw more (refl, refl)
bare_second p (y ∷ q) o none is = absurd (omega (arith, none))
