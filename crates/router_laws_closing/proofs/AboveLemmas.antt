-- Members of trees, and the rows of entities.
use Rattle.std.proofs.Common.{◌≡◌, ℕ, zero, suc, ◌≤◌, ◌==◌, ◌⊎◌, inl, inr, true, false, List, [], ◌∷◌, Some, flat_map, refl, sym, ◌∙◌, ap, subst, arith, if◌then◌else◌}
use Rattle.std.proofs.lemmas.Bool.{cases_Bool}
use Rattle.router_state.specs.Trees.{entity_at, parent_of, tree}
use Rattle.router_state.specs.declared.rows.Entity.{Entity}
use Rattle.router_laws.proofs.ForestLemmas.{from_branches, in_branches, in_either, in_left, tree_top}
use Rattle.router_laws_closing.proofs.LooseLemmas.{number_same, same_number}
use Rattle.router_laws.specs.Forest.{IsIn, AreBelowChildren}

-- the parent of a member is a member
pub parent_in : (rows : List Entity) (k x m : ℕ) → IsIn m (tree k rows x) → (m ≡ x) ⊎ ((c : Entity) × IsIn c rows × (c.number.0 ≡ m) × IsIn (parent_of c) (tree k rows x))
parent_in rows zero x m is = elim is [ ]
parent_in rows (suc k) x m is = elim (in_either m (flat_map (λ row. if parent_of row == x then tree k rows row.number.0 else []) rows) (x ∷ []) is) [
  | inl deep ↦
      let found = from_branches k rows rows x m deep in
      elim (parent_in rows k found.0.number.0 m found.3) [
        | inl same ↦ inr (found.0, found.1, sym same, subst (λ (y : ℕ). IsIn y (tree (suc k) rows x)) (sym found.2) (tree_top (suc k) rows x (omega arith)))
        | inr more ↦
            inr (more.0, more.1, more.2, in_left (parent_of more.0) (flat_map (λ row. if parent_of row == x then tree k rows row.number.0 else []) rows) (x ∷ []) (in_branches k rows rows x (parent_of more.0) found.0 found.1 found.2 more.3))
      ]
  | inr own ↦ elim own [
    | inl same ↦ inl same
    | inr never ↦ absurd never
  ]
]

-- no member is below the top
pub not_below : (rows : List Entity) → AreBelowChildren rows → (k x m : ℕ) → IsIn m (tree k rows x) → x ≤ m
not_below rows below zero x m is = elim is [ ]
not_below rows below (suc k) x m is = elim (in_either m (flat_map (λ row. if parent_of row == x then tree k rows row.number.0 else []) rows) (x ∷ []) is) [
  | inl deep ↦
      let found = from_branches k rows rows x m deep in
      let low = below found.0 found.1 in
      let more = not_below rows below k found.0.number.0 m found.3 in
      omega (arith, low, more, found.2)
  | inr own ↦ elim own [
    | inl same ↦ omega (arith, same)
    | inr never ↦ absurd never
  ]
]

pub found_once : (rows : List Entity) (row : Entity) → ((x y : Entity) → IsIn x rows → IsIn y rows → x.number.0 ≡ y.number.0 → x ≡ y) → IsIn row rows → entity_at rows row.number.0 ≡ Some row
found_once [] row once is = elim is [ ]
found_once (r ∷ rs) row once is = elim (cases_Bool (r.number.0 == row.number.0)) [
  | inl own ↦ let same : r ≡ row = once r row (inl refl) is (number_same r.number.0 row.number.0 own) in rw own (ap (λ (x : Entity). Some x) same)
  | inr other ↦ elim is [
    | inl here ↦ let wrong : true ≡ false = sym (same_number r.number.0 row.number.0 (ap (λ (x : Entity). x.number.0) (sym here))) ∙ other in absurd (cc)
    | inr more ↦ rw other (found_once rs row (λ x y one two same. once x y (inr one) (inr two) same) more)
  ]
]
