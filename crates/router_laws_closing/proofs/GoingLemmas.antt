-- The changes by which a tree goes keep trees, each at its turn.
use Rattle.std.proofs.Common.{◌≡◌, ℕ, ◌==◌, inl, inr, true, false, Bool, List, [], ◌∷◌, ◌++◌, length, filter, refl, sym, ◌∙◌, ap, subst, arith}
use Rattle.std.specs.Prelude.{not}
use Rattle.std.specs.List.{list_any}
use Rattle.std.proofs.lemmas.Bool.{cases_Bool}
use Rattle.std.proofs.lemmas.Bool.Decides.{nat_tests}
use Rattle.router_state.specs.State.{State}
use Rattle.router_state.specs.Changes.{after_change, after_changes}
use Rattle.router_state.specs.Trees.{parent_of, tree_of, without_entity}
use Rattle.router_state.specs.declared.change.Change.{Change}
use Rattle.router_state.specs.declared.change.Change.TheVariants as changes
use Rattle.router_state.specs.declared.rows.Entity.{Entity}
use Rattle.router_state.specs.declared.rows.Link.{Link}
use Rattle.router_steps.specs.Going.{all_removed, changes_of_all_removed, changes_of_removal, removed}
use Rattle.router_laws.specs.Forest.{IsIn, AreBelowChildren}
use Rattle.router_laws.proofs.ForestLemmas.{above_top}
use Rattle.router_laws_closing.proofs.LooseLemmas.{to_member, number_same, was_in}
use Rattle.router_laws_closing.proofs.OrderLemmas.{Bare, bare_tree, cut_activities, cut_entities, cuts, keep_both, removal_keeps}
use Rattle.router_laws_closing.specs.Keeping.{AllKeepTrees}
use Rattle.router_laws_closing.specs.Loose.{is_member}

-- the changes by which these go, one after another

parted : (m : ℕ) (s : State) → removed s m ≡ after_change (changes.Remove (record { 0 = m })) (after_change (changes.ForgetFields (record { 0 = m })) (after_changes (cuts (filter (λ (l : Link). l.entity.0 == m) s.links)) s))
parted m s = by (cuts (filter (λ (l : Link). l.entity.0 == m) s.links)) s
  where
    by : (cs : List Change) (t : State) → after_changes (cs ++ changes.ForgetFields (record { 0 = m }) ∷ changes.Remove (record { 0 = m }) ∷ []) t ≡ after_change (changes.Remove (record { 0 = m })) (after_change (changes.ForgetFields (record { 0 = m })) (after_changes cs t))
    by [] t = refl
    by (c ∷ cs) t = by cs (after_change c t)

gone_entities : (m : ℕ) (s : State) → (removed s m).entities ≡ without_entity s.entities m
gone_entities m s = ap (λ (t : State). t.entities) (parted m s) ∙ ap (λ rows. without_entity rows m) (cut_entities (filter (λ (l : Link). l.entity.0 == m) s.links) s)

pub gone_activities : (m : ℕ) (s : State) → (removed s m).activities ≡ s.activities
gone_activities m s = ap (λ (t : State). t.activities) (parted m s) ∙ cut_activities (filter (λ (l : Link). l.entity.0 == m) s.links) s

nobody : (p : Entity → Bool) (rows : List Entity) → ((row : Entity) → IsIn row rows → p row ≡ false) → list_any p rows ≡ false
nobody p [] each = refl
nobody p (r ∷ rs) each = let here = each r (inl refl) in rw here (nobody p rs (λ row is. each row (inr is)))

left_row : (m : ℕ) (rows : List Entity) (row : Entity) → IsIn row (without_entity rows m) → (row.number.0 == m) ≡ false
left_row m [] row is = elim is [ ]
left_row m (r ∷ rs) row is = elim (cases_Bool (r.number.0 == m)) [
  | inl own ↦ left_row m rs row (rw own at is)
  | inr other ↦ elim (let kept : IsIn row (r ∷ without_entity rs m) = rw other at is in kept) [
    | inl same ↦ subst (λ (x : Entity). (x.number.0 == m) ≡ false) (sym same) other
    | inr more ↦ left_row m rs row more
  ]
]

-- what is left behind those that went
record IsLeft (rows : List Entity) (seen es : List ℕ) (t : State) : Type 0 where
  rows_of : (row : Entity) → IsIn row t.entities → IsIn row rows × (is_member seen row.number.0 ≡ false)
  bare : Bare rows seen es

left_on : (rows : List Entity) (seen : List ℕ) (m : ℕ) (es : List ℕ) (t : State) → IsLeft rows seen (m ∷ es) t → IsLeft rows (m ∷ seen) es (removed t m)
left_on rows seen m es t left = record {
  rows_of = λ row is.
      let kept : IsIn row (without_entity t.entities m) = subst (λ (xs : List Entity). IsIn row xs) (gone_entities m t) is in
      let was = left.rows_of row (was_in (λ row. not (row.number.0 == m)) t.entities row kept) in
      let apart = left_row m t.entities row kept in
      let turned : (m == row.number.0) ≡ false = grind (arith, nat_tests) in
      (was.0, rw turned was.1);
  bare = left.bare.1;
}

all_keep : (es : List ℕ) (rows : List Entity) (seen : List ℕ) (t : State) → IsLeft rows seen es t → AllKeepTrees (changes_of_all_removed es t) t
all_keep [] rows seen t left = tt
all_keep (m ∷ es) rows seen t left =
    let childless : list_any (λ (row : Entity). parent_of row == m) t.entities ≡ false = nobody (λ row. parent_of row == m) t.entities (λ row is.
    elim (cases_Bool (parent_of row == m)) [
      | inr other ↦ other
      | inl own ↦
          let was = left.rows_of row is in
          let seen_row = left.bare.0 row was.0 (number_same (parent_of row) m own) in
          let wrong : true ≡ false = sym (to_member seen row.number.0 seen_row) ∙ was.1 in absurd (cc)
    ]) in
    keep_both (changes_of_removal t m) (changes_of_all_removed es (removed t m)) t
    (removal_keeps m t (ap not childless))
    (all_keep es rows (m ∷ seen) (removed t m) (left_on rows seen m es t left))

-- the changes by which the tree of an entity goes keep trees
pub tree_keeps : (s : State) (top : Entity) → AreBelowChildren s.entities → IsIn top s.entities → AllKeepTrees (changes_of_all_removed (tree_of s.entities top.number.0) s) s
tree_keeps s top below is =
    all_keep (tree_of s.entities top.number.0) s.entities [] s (record {
      rows_of = λ row here. (here, refl);
      bare = bare_tree (length s.entities) s.entities top.number.0 [] below (above_top s.entities top is);
    })

-- and they make of the state what the tree's going makes of it
pub all_gone : (es : List ℕ) (s : State) → after_changes (changes_of_all_removed es s) s ≡ all_removed es s
all_gone [] s = refl
all_gone (e ∷ es) s = by (changes_of_removal s e) (changes_of_all_removed es (removed s e)) s ∙ all_gone es (removed s e)
  where
    by : (cs ds : List Change) (t : State) → after_changes (cs ++ ds) t ≡ after_changes ds (after_changes cs t)
    by [] ds t = refl
    by (c ∷ cs) ds t = by cs ds (after_change c t)
