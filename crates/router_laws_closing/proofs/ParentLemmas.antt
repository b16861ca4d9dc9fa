-- The parents with which entities were made, and roots above entities by these.
use Rattle.std.proofs.Common.{◌≡◌, ℕ, zero, suc, ◌+◌, ◌-◌, ◌<◌, ◌≤◌, ◌==◌, not, inl, inr, true, false, List, [], ◌∷◌, ◌++◌, length, slice_get, refl, sym, ◌∙◌, ap, subst, arith, Some, nat_lt}
use Rattle.std.proofs.lemmas.Bool.Decides.{nat_tests}
use Rattle.router_state.specs.State.{State}
use Rattle.router_state.specs.Changes.{after_change}
use Rattle.router_state.specs.Trees.{parent_of, tree_of}
use Rattle.router_state.specs.declared.change.Change.{Change}
use Rattle.router_state.specs.declared.change.Change.TheVariants as changes
use Rattle.router_state.specs.declared.rows.Entity.{Entity}
use Rattle.router_state.specs.declared.rows.Stem.TheVariants as stems
use Rattle.router_laws.specs.Forest.{IsIn, AreBelowChildren}
use Rattle.router_laws.proofs.ForestLemmas.{in_either}
use Rattle.router_laws.proofs.ListRules.{append_nil}
use Rattle.router_laws_closing.specs.Loose.{IsNumbered}
use Rattle.router_laws_closing.proofs.AboveLemmas.{found_once, not_below, parent_in}
use Rattle.router_laws_closing.proofs.FreedLemmas.{only_one, prior_in, prior_number, prior_parent}
use Rattle.router_laws_closing.proofs.LooseLemmas.{same_number, was_in}
use Rattle.router_laws_closing.specs.TouchedRoots.{births, born, climbed, first_parent}

-- the function gives the parent of each of these entities
abbrev pub AreParents : (ℕ → ℕ) → List Entity → Type 0
AreParents parent rows = (row : Entity) → IsIn row rows → parent row.number.0 ≡ parent_of row

-- and of the entity that the change makes
abbrev pub IsParentOfBorn : (ℕ → ℕ) → Change → State → Type 0
IsParentOfBorn parent (changes.CreateRoot block service priority) s = parent s.next_entity ≡ 0
IsParentOfBorn parent (changes.CreateChild above relation block priority) s = parent s.next_entity ≡ above.0
IsParentOfBorn parent _ s = Unit {0}

-- of all that changes make
abbrev pub AreParentsOfBorn : (ℕ → ℕ) → List Change → State → Type 0
AreParentsOfBorn parent [] s = Unit {0}
AreParentsOfBorn parent (c ∷ cs) s = IsParentOfBorn parent c s × AreParentsOfBorn parent cs (after_change c s)

one_more : (parent : ℕ → ℕ) (rows : List Entity) (new : Entity) → parent new.number.0 ≡ parent_of new → AreParents parent rows → AreParents parent (rows ++ new ∷ [])
one_more parent rows new own all row is = elim (in_either row rows (new ∷ []) is) [
  | inl old ↦ all row old
  | inr fresh ↦ subst (λ (x : Entity). parent x.number.0 ≡ parent_of x) (sym (only_one row new fresh)) own
]

pub parents_after : (parent : ℕ → ℕ) (c : Change) (s : State) → IsParentOfBorn parent c s → AreParents parent s.entities → AreParents parent (after_change c s).entities
parents_after parent (changes.CreateRoot block service priority) s own all =
    one_more parent s.entities (record { number = record { 0 = s.next_entity }; block = block; stem = stems.Root service; priority = priority }) own all
parents_after parent (changes.CreateChild above relation block priority) s own all =
    one_more parent s.entities (record { number = record { 0 = s.next_entity }; block = block; stem = stems.Child above relation; priority = priority }) own all
parents_after parent (changes.Remove e) s own all = λ row is. all row (was_in (λ row. not (row.number.0 == e.0)) s.entities row is)
parents_after parent (changes.SetPriority e priority) s own all = λ row is.
    let found = prior_in e.0 priority s.entities row is in
    ap parent (ap (λ (x : Entity). x.number.0) found.2 ∙ prior_number e.0 priority found.0) ∙ all found.0 found.1 ∙ sym (ap (λ (x : Entity). parent_of x) found.2 ∙ prior_parent e.0 priority found.0)
parents_after parent _ s own all = all

-- the root above an entity is the one in whose tree it is
pub climbed_is : (parent : ℕ → ℕ) (rows : List Entity) (root : Entity) → AreBelowChildren rows → AreParents parent rows → IsIn root rows → parent_of root ≡ 0
    → (n m : ℕ) → m ≤ n → IsIn m (tree_of rows root.number.0) → climbed parent n m ≡ root.number.0
climbed_is parent rows root below all there bare zero m fits is =
    let low = below root there in
    let high = not_below rows below (length rows) root.number.0 m is in
    absurd (omega (arith, low, high, fits))
climbed_is parent rows root below all there bare (suc n) m fits is = elim (parent_in rows (length rows) root.number.0 m is) [
  | inl same ↦
      let none : (parent m == 0) ≡ true = same_number (parent m) 0 (ap parent same ∙ all root there ∙ bare) in
      rw none same
  | inr more ↦
      let above : parent m ≡ parent_of more.0 = ap parent (sym more.2) ∙ all more.0 more.1 in
      let low = below more.0 more.1 in
      let root_low = below root there in
      let high = not_below rows below (length rows) root.number.0 (parent_of more.0) more.3 in
      let some : (parent m == 0) ≡ false = by (parent m) (parent_of more.0) root.number.0 above high (omega (arith, root_low)) in
      let upper = climbed_is parent rows root below all there bare n (parent_of more.0) (omega (arith, low, more.2, fits)) more.3 in
      rw (some, above) upper
]
  where
    by : (a b c : ℕ) → a ≡ b → c ≤ b → 0 < c → (a == 0) ≡ false
    by a b c same high low = grind (arith, nat_tests)

-- the first parents are those of all entities that are there before a step, and of all that it makes

before_step : (s : State) (made : List ℕ) → IsNumbered s → ((x y : Entity) → IsIn x s.entities → IsIn y s.entities → x.number.0 ≡ y.number.0 → x ≡ y) → AreParents (first_parent s made) s.entities
before_step s made numbered once row is =
    let low : nat_lt row.number.0 s.next_entity ≡ true = by row.number.0 s.next_entity (numbered.drawn row is) in
    let found = found_once s.entities row once is in
    rw (low, found) refl
  where
    by : (a b : ℕ) → a < b → nat_lt a b ≡ true
    by a b less = grind (arith, nat_tests)

at_place : (s : State) (made : List ℕ) (n p : ℕ) → slice_get made n ≡ Some p → first_parent s made (s.next_entity + n) ≡ p
at_place s made n p is =
    let high : nat_lt (s.next_entity + n) s.next_entity ≡ false = by s.next_entity n in
    let place : s.next_entity + n - s.next_entity ≡ n = omega arith in
    rw (high, place, is) refl
  where
    by : (a b : ℕ) → nat_lt (a + b) a ≡ false
    by a b = grind (arith, nat_tests)

behind_first : (xs : List ℕ) (x : ℕ) (ys : List ℕ) → slice_get (xs ++ x ∷ ys) (length xs) ≡ Some x
behind_first [] x ys = refl
behind_first (z ∷ zs) x ys = behind_first zs x ys

joined : (xs : List ℕ) (y : ℕ) (ys : List ℕ) → (xs ++ y ∷ []) ++ ys ≡ xs ++ y ∷ ys
joined [] y ys = refl
joined (x ∷ xs) y ys = ap (λ zs. x ∷ zs) (joined xs y ys)

longer : (xs : List ℕ) (y : ℕ) → length (xs ++ y ∷ []) ≡ length xs + 1
longer [] y = refl
longer (x ∷ xs) y = let more = longer xs y in omega (arith, more)

-- what a change makes comes behind what was made already
made_step : (s : State) (made done : List ℕ) (c : Change) (cs : List Change) (t : State) → made ≡ done ++ births (c ∷ cs) → t.next_entity ≡ s.next_entity + length done
    → IsParentOfBorn (first_parent s made) c t × (made ≡ (done ++ born c) ++ births cs) × ((after_change c t).next_entity ≡ s.next_entity + length (done ++ born c))
made_step s made done (changes.CreateRoot block service priority) cs t list next = (
  ap (first_parent s made) next ∙ at_place s made (length done) 0 (ap (λ xs. slice_get xs (length done)) list ∙ behind_first done 0 (births cs)),
  list ∙ sym (joined done 0 (births cs)),
  omega (arith, next, longer done 0),
)
made_step s made done (changes.CreateChild above relation block priority) cs t list next = (
  ap (first_parent s made) next ∙ at_place s made (length done) above.0 (ap (λ xs. slice_get xs (length done)) list ∙ behind_first done above.0 (births cs)),
  list ∙ sym (joined done above.0 (births cs)),
  omega (arith, next, longer done above.0),
)
made_step s made done _ cs t list next = (
  tt,
  list ∙ ap (λ xs. xs ++ births cs) (sym (append_nil done)),
  next ∙ ap (λ xs. s.next_entity + length xs) (sym (append_nil done)),
)

made_on : (s : State) (made done : List ℕ) (cs : List Change) (t : State) → made ≡ done ++ births cs → t.next_entity ≡ s.next_entity + length done → AreParentsOfBorn (first_parent s made) cs t
made_on s made done [] t list next = tt
made_on s made done (c ∷ cs) t list next =
    let step = made_step s made done c cs t list next in
    (step.0, made_on s made (done ++ born c) cs (after_change c t) step.1 step.2)

pub first_parents : (s : State) (cs : List Change) → IsNumbered s → ((x y : Entity) → IsIn x s.entities → IsIn y s.entities → x.number.0 ≡ y.number.0 → x ≡ y)
    → AreParents (first_parent s (births cs)) s.entities × AreParentsOfBorn (first_parent s (births cs)) cs s
first_parents s cs numbered once = (before_step s (births cs) numbered once, made_on s (births cs) [] cs s refl (omega arith))
