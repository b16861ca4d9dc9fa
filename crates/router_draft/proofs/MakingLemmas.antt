-- Changes that can be made, and the trees that they keep.
use Rattle.std.proofs.Common.{◌≡◌, ℕ, ◌+◌, ◌<◌, ◌==◌, Bool, true, List, [], ◌∷◌, ◌++◌, arith, inl, inr, nat_lt}
use Rattle.std.specs.Prelude.{not}
use Rattle.std.specs.List.{AllByRecursion}
use Rattle.std.proofs.lemmas.Bool.{cases_Bool, and_parts}
use Rattle.std.proofs.lemmas.Bool.Decides.{nat_tests}
use Rattle.router_state.specs.State.{State}
use Rattle.router_state.specs.Fits.{has_next}
use Rattle.router_state.specs.Fitting.{has_entity}
use Rattle.router_state.specs.Trees.{number_of, parent_in, parent_of, with_entity, with_priority}
use Rattle.router_state.specs.Changes.{after_change, after_changes}
use Rattle.router_state.specs.declared.change.Change.{Change}
use Rattle.router_state.specs.declared.change.Change.TheVariants as changes
use Rattle.router_state.specs.declared.rows.Entity.{Entity}
use Rattle.router_state.specs.declared.rows.Stem.{Stem}
use Rattle.router_state.specs.declared.rows.Stem.TheVariants as stems
use Rattle.router_stores.specs.Making.{CanMake, CanMakeAll}
use Rattle.router_laws.proofs.ListRules.{all_append, all_filter}
use Rattle.router_laws.proofs.RisingLemmas.{InOrder, filter_rises, order_append, order_from_rises, rises_from_order}
use Rattle.router_draft.specs.Drafts.{AreTrees}

-- a change more
pub made_more : (cs : List Change) (c : Change) (s : State) → CanMakeAll cs s → CanMake c (after_changes cs s) → CanMakeAll (cs ++ c ∷ []) s
made_more [] c s made can = (can, tt)
made_more (d ∷ cs) c s made can = (made.0, made_more cs c (after_change d s) made.1 can)

-- entities by number
abbrev by_number : Entity → Entity → Bool
by_number x y = nat_lt (number_of x) (number_of y)

joins : (x y z : Entity) → by_number x y ≡ true → by_number y z ≡ true → by_number x z ≡ true
joins x y z one two = grind (arith, nat_tests)

below_of : (rows : List Entity) (row : Entity) → AllByRecursion (λ (x : Entity). x.number.0 < row.number.0) rows → AllByRecursion (λ x. AllByRecursion (λ y. by_number x y ≡ true) (row ∷ [])) rows
below_of [] row all = tt
below_of (x ∷ xs) row all = ((is x.number.0 row.number.0 all.0, tt), below_of xs row all.1)
  where
    is : (n m : ℕ) → n < m → nat_lt n m ≡ true
    is n m less = grind (arith, nat_tests, less)

-- an entity that is there has a number that was drawn
drawn_there : (rows : List Entity) (next e : ℕ) → AllByRecursion (λ (row : Entity). row.number.0 < next) rows → has_entity rows e ≡ true → e < next
drawn_there [] next e drawn there = absurd (cc)
drawn_there (x ∷ xs) next e drawn there = elim (cases_Bool (x.number.0 == e)) [
  | inl mine ↦ let low = drawn.0 in same x.number.0 mine low
  | inr other ↦ let later : has_entity xs e ≡ true = rw other at there in drawn_there xs next e drawn.1 later
]
  where
    same : (n : ℕ) → (n == e) ≡ true → n < next → e < next
    same n mine low = grind (arith, nat_tests, low)

later_drawn : (rows : List Entity) (next : ℕ) → AllByRecursion (λ (row : Entity). row.number.0 < next) rows → AllByRecursion (λ (row : Entity). row.number.0 < next + 1) rows
later_drawn [] next drawn = tt
later_drawn (x ∷ xs) next drawn = (omega (arith, drawn.0), later_drawn xs next drawn.1)

-- a new entity, whose parent has a number that was drawn
one_born : (s : State) (block : ℕ) (stem : Stem) (priority : _) → AreTrees s → parent_in stem < s.next_entity
    → AreTrees (record s { next_entity = s.next_entity + 1; entities = with_entity s.entities s.next_entity block stem priority })
one_born s block stem priority trees below =
    let new : Entity = record { number = record { 0 = s.next_entity }; block = block; stem = stem; priority = priority } in
    record {
      rising = rises_from_order by_number (s.entities ++ new ∷ []) (order_append by_number s.entities (new ∷ []) (order_from_rises by_number joins s.entities trees.rising) (tt, tt) (below_of s.entities new trees.drawn));
      below = all_append (λ (row : Entity). parent_of row < row.number.0) s.entities (new ∷ []) trees.below (below, tt);
      drawn = all_append (λ (row : Entity). row.number.0 < s.next_entity + 1) s.entities (new ∷ []) (later_drawn s.entities s.next_entity trees.drawn) (omega arith, tt);
      first = omega arith;
    }

-- priorities move no entity
kept_by : (P : Entity → Type 0) (e : ℕ) (priority : _) → ((row : Entity) → P row → P (record row { priority = priority })) → (rows : List Entity) → AllByRecursion P rows → AllByRecursion P (with_priority rows e priority)
kept_by P e priority same [] all = tt
kept_by P e priority same (x ∷ xs) all = elim (cases_Bool (x.number.0 == e)) [
  | inl own ↦ rw own (same x all.0, kept_by P e priority same xs all.1)
  | inr other ↦ rw other (all.0, kept_by P e priority same xs all.1)
]

order_kept : (e : ℕ) (priority : _) (rows : List Entity) → InOrder by_number rows → InOrder by_number (with_priority rows e priority)
order_kept e priority [] order = tt
order_kept e priority (x ∷ xs) order = elim (cases_Bool (x.number.0 == e)) [
  | inl own ↦ rw own (kept_by (λ y. by_number x y ≡ true) e priority (λ row is. is) xs order.0, order_kept e priority xs order.1)
  | inr other ↦ rw other (kept_by (λ y. by_number x y ≡ true) e priority (λ row is. is) xs order.0, order_kept e priority xs order.1)
]

trees_kept : (c : Change) (s : State) → CanMake c s → AreTrees s → AreTrees (after_change c s)
trees_kept (changes.CreateRoot block service priority) s can trees = one_born s block (stems.Root service) priority trees trees.first
trees_kept (changes.CreateChild parent relation block priority) s can trees =
    one_born s block (stems.Child parent relation) priority trees (drawn_there s.entities s.next_entity parent.0 trees.drawn (and_parts (has_entity s.entities parent.0) (has_next s.next_entity) can).0)
trees_kept (changes.Remove e) s can trees = record {
  rising = filter_rises by_number joins (λ (row : Entity). not (row.number.0 == e.0)) s.entities trees.rising;
  below = all_filter (λ (row : Entity). parent_of row < row.number.0) (λ (row : Entity). not (row.number.0 == e.0)) s.entities trees.below;
  drawn = all_filter (λ (row : Entity). row.number.0 < s.next_entity) (λ (row : Entity). not (row.number.0 == e.0)) s.entities trees.drawn;
  first = trees.first;
}
trees_kept (changes.SetPriority e priority) s can trees = record {
  rising = rises_from_order by_number (with_priority s.entities e.0 priority) (order_kept e.0 priority s.entities (order_from_rises by_number joins s.entities trees.rising));
  below = kept_by (λ (row : Entity). parent_of row < row.number.0) e.0 priority (λ row is. is) s.entities trees.below;
  drawn = kept_by (λ (row : Entity). row.number.0 < s.next_entity) e.0 priority (λ row is. is) s.entities trees.drawn;
  first = trees.first;
}
trees_kept _ s can trees = record { rising = trees.rising; below = trees.below; drawn = trees.drawn; first = trees.first }

-- changes that can be made keep trees
pub trees_after : (cs : List Change) (s : State) → CanMakeAll cs s → AreTrees s → AreTrees (after_changes cs s)
trees_after [] s made trees = trees
trees_after (c ∷ cs) s made trees = trees_after cs (after_change c s) made.1 (trees_kept c s made.0 trees)
