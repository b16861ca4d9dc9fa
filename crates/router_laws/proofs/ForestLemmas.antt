-- Nothing of a tree is left behind: as many generations as there are entities suffice.
use Rattle.std.proofs.Common.{◌≡◌, ℕ, zero, suc, ◌+◌, ◌-◌, ◌<◌, ◌≤◌, ◌==◌, ◌⊎◌, inl, inr, true, false, Bool, List, [], ◌∷◌, ◌++◌, length, refl, sym, ◌∙◌, ap, subst, arith, nat_lt, if◌then◌else◌, flat_map}
use Rattle.std.proofs.lemmas.Bool.{cases_Bool}
use Rattle.std.proofs.lemmas.Grind.{common_steps}
use Rattle.router_laws.specs.Forest.{IsIn, above, AreBelowChildren, AreWhole}
use Rattle.router_state.specs.Trees.{parent_of, tree}
use Rattle.router_state.specs.declared.rows.Entity.{Entity}

pub in_left : {X : Type 0} (x : X) (xs ys : List X) → IsIn x xs → IsIn x (xs ++ ys)
in_left x [] ys none = elim none [ ]
in_left x (y ∷ xs) ys (inl is) = inl is
in_left x (y ∷ xs) ys (inr more) = inr (in_left x xs ys more)

pub in_right : {X : Type 0} (x : X) (xs ys : List X) → IsIn x ys → IsIn x (xs ++ ys)
in_right x [] ys is = is
in_right x (y ∷ xs) ys is = inr (in_right x xs ys is)

pub in_either : {X : Type 0} (x : X) (xs ys : List X) → IsIn x (xs ++ ys) → IsIn x xs ⊎ IsIn x ys
in_either x [] ys is = inr is
in_either x (y ∷ xs) ys (inl is) = inl (inl is)
in_either x (y ∷ xs) ys (inr more) = elim (in_either x xs ys more) [
  | inl here ↦ inl (inr here)
  | inr there ↦ inr there
]

-- what a row adds to the tree of e
abbrev branch : ℕ → List Entity → ℕ → Entity → List ℕ
branch n rows e row = if parent_of row == e then tree n rows row.number.0 else []

pub in_branches : (n : ℕ) (rows some : List Entity) (e z : ℕ) (row : Entity) → IsIn row some → parent_of row ≡ e → IsIn z (tree n rows row.number.0)
    → IsIn z (flat_map (λ row. if parent_of row == e then tree n rows row.number.0 else []) some)
in_branches n rows [] e z row none mine deep = elim none [ ]
in_branches n rows (r ∷ rs) e z row (inl is) mine deep =
    let same : (parent_of r == e) ≡ true = grind (arith, mine, is) in
    let here : IsIn z (tree n rows r.number.0) = subst (λ (x : Entity). IsIn z (tree n rows x.number.0)) is deep in
    in_left z (branch n rows e r) (flat_map (λ row. if parent_of row == e then tree n rows row.number.0 else []) rs) (rw same here)
in_branches n rows (r ∷ rs) e z row (inr more) mine deep = in_right z (branch n rows e r) (flat_map (λ row. if parent_of row == e then tree n rows row.number.0 else []) rs) (in_branches n rows rs e z row more mine deep)

pub from_branches : (n : ℕ) (rows some : List Entity) (e z : ℕ)
    → IsIn z (flat_map (λ row. if parent_of row == e then tree n rows row.number.0 else []) some)
    → (row : Entity) × IsIn row some × (parent_of row ≡ e) × IsIn z (tree n rows row.number.0)
from_branches n rows [] e z none = elim none [ ]
from_branches n rows (r ∷ rs) e z is = elim (in_either z (branch n rows e r) (flat_map (λ row. if parent_of row == e then tree n rows row.number.0 else []) rs) is) [
  | inl here ↦ elim (cases_Bool (parent_of r == e)) [
    | inl mine ↦ (r, inl refl, grind (arith, mine), rw mine at here)
    | inr other ↦ absurd (rw other at here)
  ]
  | inr there ↦ let found = from_branches n rows rs e z there in (found.0, inr found.1, found.2, found.3)
]

pub tree_top : (n : ℕ) (rows : List Entity) (e : ℕ) → 0 < n → IsIn e (tree n rows e)
tree_top zero rows e some = absurd (omega (arith, some))
tree_top (suc n) rows e some = in_right e (flat_map (λ row. if parent_of row == e then tree n rows row.number.0 else []) rows) (e ∷ []) (inl refl)

above_le : (rows : List Entity) (e f : ℕ) → e ≤ f → above rows f ≤ above rows e
above_le [] e f le = omega arith
above_le (r ∷ rs) e f le = let more = above_le rs e f le in grind (arith, more)

pub above_child : (rows : List Entity) (e : ℕ) (row : Entity) → IsIn row rows → e < row.number.0 → above rows row.number.0 < above rows e
above_child [] e row none lt = elim none [ ]
above_child (r ∷ rs) e row (inl is) lt = let more = above_le rs e row.number.0 (omega (arith, lt)) in grind (arith, more, is)
above_child (r ∷ rs) e row (inr there) lt = let more = above_child rs e row there lt in grind (arith, more)

pub above_all : (rows : List Entity) (e : ℕ) → above rows e ≤ length rows
above_all [] e = omega arith
above_all (r ∷ rs) e = let more = above_all rs e in grind (arith, more)

pub above_top : (rows : List Entity) (row : Entity) → IsIn row rows → above rows row.number.0 < length rows
above_top [] row none = elim none [ ]
above_top (r ∷ rs) row (inl is) = let more = above_all rs row.number.0 in grind (arith, more, is)
above_top (r ∷ rs) row (inr there) = let more = above_top rs row there in grind (arith, more)

pub closed : (n : ℕ) (rows : List Entity) (e x : ℕ) (row : Entity) → AreBelowChildren rows → above rows e < n → IsIn row rows → parent_of row ≡ x
    → IsIn x (tree n rows e) → IsIn row.number.0 (tree n rows e)
closed zero rows e x row rises lt there child is = absurd (omega (arith, lt))
closed (suc n) rows e x row rises lt there child is =
    elim (in_either x (flat_map (λ row. if parent_of row == e then tree n rows row.number.0 else []) rows) (e ∷ []) is) [
      | inl deep ↦
          let found = from_branches n rows rows e x deep in
          let below : parent_of found.0 < found.0.number.0 = rises found.0 found.1 in
          let less : above rows found.0.number.0 < above rows e = above_child rows e found.0 found.1 (omega (arith, below, found.2)) in
          let here = closed n rows found.0.number.0 x row rises (omega (arith, less, lt)) there child found.3 in
          in_left row.number.0 (flat_map (λ row. if parent_of row == e then tree n rows row.number.0 else []) rows) (e ∷ []) (in_branches n rows rows e row.number.0 found.0 found.1 found.2 here)
      | inr top ↦ elim top [
        | inl same ↦
            let below : parent_of row < row.number.0 = rises row there in
            let mine : parent_of row ≡ e = child ∙ same in
            let less : above rows row.number.0 < above rows e = above_child rows e row there (omega (arith, below, mine)) in
            in_left row.number.0 (flat_map (λ row. if parent_of row == e then tree n rows row.number.0 else []) rows) (e ∷ []) (in_branches n rows rows e row.number.0 row there mine (tree_top n rows row.number.0 (omega (arith, less, lt))))
        | inr none ↦ absurd none
      ]
    ]

pub trees_whole : (rows : List Entity) → AreBelowChildren rows → AreWhole rows
trees_whole rows rises top row in_top there is = closed (length rows) rows top.number.0 (parent_of row) row rises (above_top rows top in_top) there refl is
