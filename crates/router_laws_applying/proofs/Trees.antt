-- Trees and children of entities whose numbers rise.
use Rattle.router_laws.proofs.ForestLemmas.{from_branches, in_branches, in_either, in_left, tree_top}
use Rattle.router_laws.proofs.ListRules.{in_filter}
use Rattle.router_laws.proofs.Removal.{from_in_list, in_list, is_in_list}
use Rattle.router_laws.proofs.RisingLemmas.{InOrder, order_from_rises}
use Rattle.router_laws.specs.Forest.{AreBelowChildren, IsIn}
use Rattle.router_laws_sound.proofs.SoundRemoval.{entity_joins}
use Rattle.router_state.specs.State.{State}
use Rattle.router_state.specs.Trees.{children_under, entity_at, is_child_of, number_of, parent_in, parent_of, tree, tree_of}
use Rattle.router_state.specs.Well.{IsSound}
use Rattle.router_state.specs.WellEntities.{is_entity_row}
use Rattle.router_state.specs.declared.rows.Entity.{Entity}
use Rattle.router_state.specs.declared.rows.Stem.{Stem}
use Rattle.router_state.specs.declared.rows.Stem.TheVariants as stems
use Rattle.rows_sorted.specs.Orders.{rises_in}
use Rattle.std.proofs.Common.{◌≡◌, true, false, ℕ, zero, suc, ◌<◌, ◌≤◌, ◌==◌, ◌⊎◌, List, [], ◌∷◌, map, filter, flat_map, length, refl, sym, ap, subst, ◌∙◌, inl, inr, arith, nat_lt, Some}
use Rattle.std.proofs.lemmas.Bool.{and_parts, cases_Bool, eq-eqb, eqb-true, false_from_ne_true, false≢true, ltb-true}
use Rattle.std.proofs.lemmas.Bool.Decides.{nat_tests}
use Rattle.std.specs.List.{AllByRecursion, list_all}
use Rattle.std.specs.Prelude.{if◌then◌else◌}
use Rattle.std.specs.Str.{bytes_eq}

-- a member of a tree is its top, or a child of a member
pub in_tree : (n : ℕ) (rows : List Entity) (e x : ℕ) → IsIn x (tree n rows e) → (x ≡ e) ⊎ ((row : Entity) × IsIn row rows × (row.number.0 ≡ x) × IsIn (parent_of row) (tree n rows e))
in_tree zero rows e x there = elim there [ ]
in_tree (suc n) rows e x there = elim (in_either x (flat_map (λ row. if parent_of row == e then tree n rows row.number.0 else []) rows) (e ∷ []) there) [
  | inl deep ↦ (let found = from_branches n rows rows e x deep in below found.0 found.1 found.2 (in_tree n rows found.0.number.0 x found.3))
  | inr top ↦ elim top [
    | inl same ↦ inl same
    | inr none ↦ absurd none
  ]
]
  where
    below : (branch : Entity) → IsIn branch rows → parent_of branch ≡ e → (x ≡ branch.number.0) ⊎ ((row : Entity) × IsIn row rows × (row.number.0 ≡ x) × IsIn (parent_of row) (tree n rows branch.number.0))
        → (x ≡ e) ⊎ ((row : Entity) × IsIn row rows × (row.number.0 ≡ x) × IsIn (parent_of row) (tree (suc n) rows e))
    below branch here mine (inl top) = inr (branch, here, sym top, subst (λ k. IsIn k (tree (suc n) rows e)) (sym mine) (tree_top (suc n) rows e (omega arith)))
    below branch here mine (inr lower) =
        inr (lower.0, lower.1, lower.2, in_left (parent_of lower.0) (flat_map (λ row. if parent_of row == e then tree n rows row.number.0 else []) rows) (e ∷ []) (in_branches n rows rows e (parent_of lower.0) branch here mine lower.3))

-- no member of a tree has a lower number than its top
tree_least : (n : ℕ) (rows : List Entity) (e x : ℕ) → AreBelowChildren rows → IsIn x (tree n rows e) → e ≤ x
tree_least zero rows e x rises there = elim there [ ]
tree_least (suc n) rows e x rises there = elim (in_either x (flat_map (λ row. if parent_of row == e then tree n rows row.number.0 else []) rows) (e ∷ []) there) [
  | inl deep ↦ (let found = from_branches n rows rows e x deep in lower found.0 found.2 (rises found.0 found.1) (tree_least n rows found.0.number.0 x rises found.3))
  | inr top ↦ elim top [
    | inl same ↦ omega (arith, same)
    | inr none ↦ absurd none
  ]
]
  where
    lower : (branch : Entity) → parent_of branch ≡ e → parent_of branch < branch.number.0 → branch.number.0 ≤ x → e ≤ x
    lower branch mine less le = omega (arith, mine, less, le)

-- what has a lower number isn't in a tree
pub above_tree : (rows : List Entity) (e x : ℕ) → AreBelowChildren rows → x < e → in_list x (tree_of rows e) ≡ false
above_tree rows e x rises less = false_from_ne_true (in_list x (tree_of rows e)) (λ here. clash (tree_least (length rows) rows e x rises (from_in_list x (tree_of rows e) here)))
  where
    clash : e ≤ x → ⊥
    clash le = absurd (omega (arith, less, le))

-- rows whose numbers rise
abbrev pub Rise : List Entity → Type 0
Rise rows = InOrder (λ (x y : Entity). nat_lt x.number.0 y.number.0) rows

pub rise : (s : State) → IsSound s → Rise s.entities
rise s sound = order_from_rises (λ (x y : Entity). nat_lt x.number.0 y.number.0) entity_joins s.entities (and_parts (rises_in (λ (r : Entity). r.number.0) s.entities) (list_all (is_entity_row s.deployment s.entities s.next_entity) s.entities) sound.entities).0

later : (r : Entity) (rows : List Entity) (x : Entity) → AllByRecursion (λ (y : Entity). nat_lt r.number.0 y.number.0 ≡ true) rows → IsIn x rows → r.number.0 < x.number.0
later r [] x all there = elim there [ ]
later r (y ∷ rows) x all (inl same) = subst (λ (z : Entity). r.number.0 < z.number.0) (sym same) (ltb-true r.number.0 y.number.0 all.0)
later r (y ∷ rows) x all (inr more) = later r rows x all.1 more

same_row : (rows : List Entity) → Rise rows → (x y : Entity) → IsIn x rows → IsIn y rows → x.number.0 ≡ y.number.0 → x ≡ y
same_row [] order x y one two same = elim one [ ]
same_row (r ∷ rows) order x y (inl one) (inl two) same = one ∙ sym two
same_row (r ∷ rows) order x y (inl one) (inr two) same = absurd (clash (ap (λ (z : Entity). z.number.0) one) (later r rows y order.0 two))
  where
    clash : x.number.0 ≡ r.number.0 → r.number.0 < y.number.0 → ⊥
    clash is less = absurd (omega (arith, is, less, same))
same_row (r ∷ rows) order x y (inr one) (inl two) same = absurd (clash (ap (λ (z : Entity). z.number.0) two) (later r rows x order.0 one))
  where
    clash : y.number.0 ≡ r.number.0 → r.number.0 < x.number.0 → ⊥
    clash is less = absurd (omega (arith, is, less, same))
same_row (r ∷ rows) order x y (inr one) (inr two) same = same_row rows order.1 x y one two same

-- a row that is there is found by its number
pub entity_found : (rows : List Entity) → Rise rows → (row : Entity) → IsIn row rows → entity_at rows row.number.0 ≡ Some row
entity_found [] order row there = elim there [ ]
entity_found (r ∷ rows) order row (inl same) = subst (λ (z : Entity). entity_at (r ∷ rows) z.number.0 ≡ Some z) (sym same) (rw (eq-eqb r.number.0 r.number.0 refl) refl)
entity_found (r ∷ rows) order row (inr more) = let other : (r.number.0 == row.number.0) ≡ false = apart r.number.0 row.number.0 (later r rows row order.0 more) in rw other (entity_found rows order.1 row more)
  where
    apart : (a b : ℕ) → a < b → (a == b) ≡ false
    apart a b less = grind (arith, nat_tests)

in_map : {A : Type 0} (f : A → ℕ) (k : ℕ) (xs : List A) → IsIn k (map f xs) → (x : A) × IsIn x xs × (f x ≡ k)
in_map f k [] there = elim there [ ]
in_map f k (x ∷ xs) (inl same) = (x, inl refl, sym same)
in_map f k (x ∷ xs) (inr more) = let found = in_map f k xs more in (found.0, inr found.1, found.2)

pub map_in : {A : Type 0} (f : A → ℕ) (x : A) (xs : List A) → IsIn x xs → IsIn (f x) (map f xs)
map_in f x [] there = elim there [ ]
map_in f x (y ∷ xs) (inl same) = inl (ap f same)
map_in f x (y ∷ xs) (inr more) = inr (map_in f x xs more)

-- a child has its row
pub kid_row : (rows : List Entity) (p : ℕ) (relation : List ℕ) (k : ℕ) → IsIn k (children_under rows p relation) → (row : Entity) × IsIn row rows × (row.number.0 ≡ k) × (is_child_of p relation row.stem ≡ true)
kid_row rows p relation k there =
    let found = in_map number_of k (filter (λ (row : Entity). is_child_of p relation row.stem) rows) there in
    let both = in_filter (λ (row : Entity). is_child_of p relation row.stem) found.0 rows found.1 in
    (found.0, both.0, found.2, both.1)

pub child_parent : (p : ℕ) (relation : List ℕ) (stem : Stem) → is_child_of p relation stem ≡ true → parent_in stem ≡ p
child_parent p relation (stems.Root service) is = absurd (cc)
child_parent p relation (stems.Child parent own) is = eqb-true parent.0 p (and_parts (parent.0 == p) (bytes_eq own relation) is).0

some_length : (rows : List Entity) (row : Entity) → IsIn row rows → 0 < length rows
some_length [] row there = elim there [ ]
some_length (r ∷ rows) row there = omega arith

-- of the children of what stays, that one goes with a tree which is its top
pub kid_goes : (rows : List Entity) (e p : ℕ) (relation : List ℕ) (k : ℕ) → Rise rows → IsIn k (children_under rows p relation) → in_list p (tree_of rows e) ≡ false → in_list k (tree_of rows e) ≡ (k == e)
kid_goes rows e p relation k order there out = elim (cases_Bool (k == e)) [
  | inl is ↦ is_in_list k (tree_of rows e) (subst (λ x. IsIn x (tree_of rows e)) (sym (eqb-true k e is)) (tree_top (length rows) rows e (some_length rows kid.0 kid.1))) ∙ sym is
  | inr isnt ↦ false_from_ne_true (in_list k (tree_of rows e)) (λ here. clash isnt (in_tree (length rows) rows e k (from_in_list k (tree_of rows e) here))) ∙ sym isnt
]
  where
    kid : (row : Entity) × IsIn row rows × (row.number.0 ≡ k) × (is_child_of p relation row.stem ≡ true)
    kid = kid_row rows p relation k there

    clash : (k == e) ≡ false → (k ≡ e) ⊎ ((row : Entity) × IsIn row rows × (row.number.0 ≡ k) × IsIn (parent_of row) (tree_of rows e)) → ⊥
    clash isnt (inl top) = false≢true (sym isnt ∙ eq-eqb k e top)
    clash isnt (inr lower) =
        let same : lower.0 ≡ kid.0 = same_row rows order lower.0 kid.0 lower.1 kid.1 (lower.2 ∙ sym kid.2) in
        let parent : parent_of lower.0 ≡ p = ap parent_of same ∙ child_parent p relation kid.0.stem kid.3 in
        false≢true (sym out ∙ is_in_list p (tree_of rows e) (subst (λ x. IsIn x (tree_of rows e)) parent lower.3))
