-- Trees in which nothing is attached.
use Rattle.std.proofs.Common.{◌≡◌, ℕ, suc, ◌==◌, Bool, true, false, not, List, [], ◌∷◌, Option, Some, None, length, refl, sym, ◌∙◌, ap, arith, inl, inr}
use Rattle.std.specs.Prelude.{is_some}
use Rattle.std.specs.List.{list_any}
use Rattle.std.specs.Option.{option_map_or}
use Rattle.std.proofs.lemmas.Bool.{cases_Bool}
use Rattle.std.proofs.lemmas.Bool.Decides.{nat_tests}
use Rattle.router_state.specs.Closed.{is_loose}
use Rattle.router_state.specs.Contexts.{activities_of}
use Rattle.router_state.specs.Fitting.{has_entity}
use Rattle.router_state.specs.Trees.{count_of, entity_at, links_of, parent_of, tree_of}
use Rattle.router_state.specs.declared.rows.Entity.{Entity}
use Rattle.router_state.specs.declared.rows.Link.{Link}
use Rattle.router_laws.specs.Forest.{IsIn}
use Rattle.router_laws.proofs.ForestLemmas.{tree_top}
use Rattle.router_laws_closing.specs.TouchedRoots.{stands}
use Rattle.router_laws_closing.proofs.FreedLemmas.{found_in}
use Rattle.router_laws_closing.proofs.LooseLemmas.{count_is_none, none_attached, number_same, same_number, some_rows}
use Rattle.router_closing.specs.Held.{is_held}

-- an entity is attached where the list of its activities isn't empty
pub held_by : (links : List Link) (e : ℕ) → not (length (activities_of links e) == 0) ≡ is_held links e
held_by [] e = refl
held_by (l ∷ ls) e = elim (cases_Bool (l.entity.0 == e)) [
  | inl own ↦ rw own (some (length (activities_of ls e)))
  | inr other ↦ rw other (held_by ls e)
]
  where
    some : (n : ℕ) → not (suc n == 0) ≡ true
    some n = let is : (suc n == 0) ≡ false = grind (arith, nat_tests) in ap not is

none_held : (links : List Link) (e : ℕ) → links_of links e ≡ 0 → is_held links e ≡ false
none_held [] e none = refl
none_held (l ∷ ls) e none = elim (cases_Bool (l.entity.0 == e)) [
  | inl own ↦ let wrong : suc (links_of ls e) ≡ 0 = rw own at none in absurd (omega (arith, wrong))
  | inr other ↦ rw other (none_held ls e (rw other at none))
]

no_links : (links : List Link) (e : ℕ) → is_held links e ≡ false → links_of links e ≡ 0
no_links [] e none = refl
no_links (l ∷ ls) e none = elim (cases_Bool (l.entity.0 == e)) [
  | inl own ↦ let wrong : true ≡ false = rw own at none in absurd (cc)
  | inr other ↦ rw other (no_links ls e (rw other at none))
]

each_free : (p : ℕ → Bool) (xs : List ℕ) → list_any p xs ≡ false → (x : ℕ) → IsIn x xs → p x ≡ false
each_free p [] none x is = elim is [ ]
each_free p (y ∷ ys) none x is = elim (cases_Bool (p y)) [
  | inl own ↦ let wrong : true ≡ false = rw own at none in absurd (cc)
  | inr other ↦ (elim is [
    | inl same ↦ ap p same ∙ other
    | inr more ↦ each_free p ys (rw other at none) x more
  ])
]

all_free : (p : ℕ → Bool) (xs : List ℕ) → ((x : ℕ) → IsIn x xs → p x ≡ false) → list_any p xs ≡ false
all_free p [] each = refl
all_free p (y ∷ ys) each = let own = each y (inl refl) in rw own (all_free p ys (λ x is. each x (inr is)))

-- nothing is attached in a tree where no member is
pub loose_is : (rows : List Entity) (links : List Link) (e : ℕ) → not (list_any (is_held links) (tree_of rows e)) ≡ is_loose rows links e
loose_is rows links e = elim (cases_Bool (is_loose rows links e)) [
  | inl loose ↦
      let none : list_any (is_held links) (tree_of rows e) ≡ false = all_free (is_held links) (tree_of rows e) (λ m is. none_held links m (none_attached (length rows) rows links e m (number_same (count_of rows links e) 0 loose) is)) in
      ap not none ∙ sym loose
  | inr held ↦ (elim (cases_Bool (list_any (is_held links) (tree_of rows e))) [
    | inl some ↦ ap not some ∙ sym held
    | inr none ↦
        let zero_count = count_is_none (length rows) rows links e (λ m is. no_links links m (each_free (is_held links) (tree_of rows e) none m is)) in
        let wrong : true ≡ false = sym (same_number (count_of rows links e) 0 zero_count) ∙ held in absurd (cc)
  ])
]

-- where the top itself is attached, the tree is held
pub held_itself : (rows : List Entity) (links : List Link) (e : ℕ) → has_entity rows e ≡ true → is_held links e ≡ true → is_loose rows links e ≡ false
held_itself rows links e there held =
    let found = found_in rows e there in
    let top : IsIn e (tree_of rows e) = tree_top (length rows) rows e (some_rows rows found.0 found.1) in
    sym (loose_is rows links e) ∙ ap not (by (is_held links) (tree_of rows e) e top held)
  where
    by : (p : ℕ → Bool) (xs : List ℕ) (x : ℕ) → IsIn x xs → p x ≡ true → list_any p xs ≡ true
    by p [] x is own = elim is [ ]
    by p (y ∷ ys) x (inl same) own = let mine : p y ≡ true = ap p (sym same) ∙ own in rw mine refl
    by p (y ∷ ys) x (inr more) own = elim (cases_Bool (p y)) [
      | inl mine ↦ rw mine refl
      | inr other ↦ rw other (by p ys x more own)
    ]

-- a root that is there is an entity that is
pub standing_there : (rows : List Entity) (e : ℕ) → stands rows e ≡ true → has_entity rows e ≡ true
standing_there rows e is = by (entity_at rows e) is
  where
    by : (o : Option Entity) → option_map_or (λ row. parent_of row == 0) o false ≡ true → is_some o ≡ true
    by None is = absurd (cc)
    by (Some row) is = refl
