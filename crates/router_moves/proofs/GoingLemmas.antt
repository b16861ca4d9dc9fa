-- A tree goes by changes that can be made, each at its turn.
use Rattle.std.proofs.Common.{◌≡◌, ℕ, ◌<◌, ◌==◌, true, List, [], ◌∷◌, ◌++◌, refl, sym, subst, arith, inl, inr, filter, flat_map}
use Rattle.std.specs.List.{AllByRecursion}
use Rattle.std.proofs.lemmas.Bool.{cases_Bool}
use Rattle.std.proofs.lemmas.Bool.Decides.{nat_tests}
use Rattle.router_state.specs.State.{State}
use Rattle.router_state.specs.Changes.{after_change, after_changes}
use Rattle.router_state.specs.Fitting.{has_entity}
use Rattle.router_state.specs.Trees.{parent_of, tree_of}
use Rattle.router_state.specs.declared.change.Change.{Change}
use Rattle.router_state.specs.declared.change.Change.TheVariants as changes
use Rattle.router_state.specs.declared.rows.Entity.{Entity}
use Rattle.router_state.specs.declared.rows.Link.{Link}
use Rattle.router_stores.specs.Making.{CanMakeAll}
use Rattle.router_steps.specs.Going.{changes_of_all_removed, changes_of_removal, removed}
use Rattle.router_steps.specs.Moves.{changes_of_detaching}
use Rattle.router_laws.specs.Forest.{IsIn, AreBelowChildren}
use Rattle.router_laws_closing.specs.Keeping.{AllKeepTrees}
use Rattle.router_laws_closing.proofs.GoingLemmas.{tree_keeps}
use Rattle.router_draft.specs.Drafts.{AreTrees}
use Rattle.router_draft.proofs.MakingLemmas.{trees_after}

keep_first : (cs ds : List Change) (s : State) → AllKeepTrees (cs ++ ds) s → AllKeepTrees cs s
keep_first [] ds s keep = tt
keep_first (c ∷ cs) ds s keep = (keep.0, keep_first cs ds (after_change c s) keep.1)

keep_rest : (cs ds : List Change) (s : State) → AllKeepTrees (cs ++ ds) s → AllKeepTrees ds (after_changes cs s)
keep_rest [] ds s keep = keep
keep_rest (c ∷ cs) ds s keep = keep_rest cs ds (after_change c s) keep.1

can_both : (cs ds : List Change) (s : State) → CanMakeAll cs s → CanMakeAll ds (after_changes cs s) → CanMakeAll (cs ++ ds) s
can_both [] ds s one two = two
can_both (c ∷ cs) ds s one two = (one.0, can_both cs ds (after_change c s) one.1 two)

-- of the changes by which an entity goes, its removal alone asks for anything
removal_can : (e : ℕ) (ls : List Link) (s : State) → AllKeepTrees (flat_map changes_of_detaching ls ++ changes.ForgetFields (record { 0 = e }) ∷ changes.Remove (record { 0 = e }) ∷ []) s
    → CanMakeAll (flat_map changes_of_detaching ls ++ changes.ForgetFields (record { 0 = e }) ∷ changes.Remove (record { 0 = e }) ∷ []) s
removal_can e [] s keep = (refl, (keep.1.0, tt))
removal_can e (l ∷ ls) s keep = (refl, (refl, removal_can e ls (after_changes (changes_of_detaching l) s) keep.1.1))

all_can : (es : List ℕ) (s : State) → AllKeepTrees (changes_of_all_removed es s) s → CanMakeAll (changes_of_all_removed es s) s
all_can [] s keep = tt
all_can (e ∷ es) s keep =
    can_both (changes_of_removal s e) (changes_of_all_removed es (removed s e)) s
    (removal_can e (filter (λ (l : Link). l.entity.0 == e) s.links) s (keep_first (changes_of_removal s e) (changes_of_all_removed es (removed s e)) s keep))
    (all_can es (removed s e) (keep_rest (changes_of_removal s e) (changes_of_all_removed es (removed s e)) s keep))

below_in : (rows : List Entity) → AllByRecursion (λ (row : Entity). parent_of row < row.number.0) rows → AreBelowChildren rows
below_in [] all row is = absurd is
below_in (x ∷ xs) all row (inl same) = subst (λ (r : Entity). parent_of r < r.number.0) (sym same) all.0
below_in (x ∷ xs) all row (inr more) = below_in xs all.1 row more

number_is : (n e : ℕ) → (n == e) ≡ true → n ≡ e
number_is n e same = grind (arith, nat_tests)

row_of : (rows : List Entity) (e : ℕ) → has_entity rows e ≡ true → (row : Entity) × IsIn row rows × (row.number.0 ≡ e)
row_of [] e there = absurd (cc)
row_of (x ∷ xs) e there = elim (cases_Bool (x.number.0 == e)) [
  | inl own ↦ (x, inl refl, number_is x.number.0 e own)
  | inr other ↦ let found = row_of xs e (rw other at there) in (found.0, inr found.1, found.2)
]

-- a tree goes, in the state with changes laid over it that can be made
pub tree_can : (cs : List Change) (s : State) (e : ℕ) (es : List ℕ) → CanMakeAll cs s → AreTrees s → has_entity (after_changes cs s).entities e ≡ true → es ≡ tree_of (after_changes cs s).entities e
    → CanMakeAll (changes_of_all_removed es (after_changes cs s)) (after_changes cs s)
tree_can cs s e es made trees there is =
    let t = after_changes cs s in
    let after = trees_after cs s made trees in
    let top = row_of t.entities e there in
    let keep = tree_keeps t top.0 (below_in t.entities after.below) top.1 in
    let can = all_can (tree_of t.entities top.0.number.0) t keep in
    let own : CanMakeAll (changes_of_all_removed (tree_of t.entities e) t) t = subst (λ (n : ℕ). CanMakeAll (changes_of_all_removed (tree_of t.entities n) t) t) top.2 can in
    subst (λ (ns : List ℕ). CanMakeAll (changes_of_all_removed ns t) t) (sym is) own
