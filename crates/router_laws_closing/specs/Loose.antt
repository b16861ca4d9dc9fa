-- Roots that may be loose when a step is closed.
use Rattle.std.specs.Prelude.{◌≡◌, ℕ, ◌<◌, ◌==◌, Bool, true, false, ◌&&◌, ◌||◌, List, [], ◌∷◌}
use Rattle.std.specs.List.{AllByRecursion, list_any}
use Rattle.router_state.specs.State.{State}
use Rattle.router_state.specs.Closed.{is_loose}
use Rattle.router_state.specs.Trees.{parent_of, tree_of}
use Rattle.router_state.specs.Changes.{after_change}
use Rattle.router_state.specs.declared.change.Change.{Change}
use Rattle.router_state.specs.declared.change.Change.TheVariants as changes
use Rattle.router_state.specs.declared.rows.Entity.{Entity}
use Rattle.router_state.specs.declared.rows.Link.{Link}
use Rattle.router_laws.specs.Forest.{IsIn, AreBelowChildren}

-- the number is one of these
abbrev pub is_member : List ℕ → ℕ → Bool
is_member es m = list_any (λ e. e == m) es

-- parents are below their children, and no two rows have one number
pub record IsForest (rows : List Entity) : Type 0 where
  pub below : AreBelowChildren rows
  pub once : (x y : Entity) → IsIn x rows → IsIn y rows → x.number.0 ≡ y.number.0 → x ≡ y

-- parents are below their children, and all numbers below the next one
pub record IsNumbered (s : State) : Type 0 where
  pub below : AreBelowChildren s.entities
  pub drawn : (row : Entity) → IsIn row s.entities → row.number.0 < s.next_entity
  pub some : 0 < s.next_entity

-- the number is that of a root
abbrev pub IsRoot : List Entity → ℕ → Type 0
IsRoot rows e = (row : Entity) × IsIn row rows × (row.number.0 ≡ e) × (parent_of row ≡ 0)

-- no number stands twice in the list
abbrev pub DoDiffer : List ℕ → Type 0
DoDiffer [] = Unit {0}
DoDiffer (e ∷ es) = AllByRecursion (λ f. (e == f) ≡ false) es × DoDiffer es

-- these are roots, none twice, and those of them that are loose are among some
pub record AreLooseAmong (among : ℕ → Bool) (rows : List Entity) (links : List Link) (es : List ℕ) : Type 0 where
  pub forest : IsForest rows
  pub roots : AllByRecursion (IsRoot rows) es
  pub differ : DoDiffer es
  pub known : AllByRecursion (λ e. is_loose rows links e ≡ true → among e ≡ true) es

-- the roots that are loose are among these
abbrev pub AreLooseRootsAmong : (ℕ → Bool) → List Entity → List Link → Type 0
AreLooseRootsAmong among rows links = (row : Entity) → IsIn row rows → parent_of row ≡ 0 → is_loose rows links row.number.0 ≡ true → among row.number.0 ≡ true

-- the change takes from the root's tree what may have been attached in it, or makes the entity
abbrev pub frees : Change → State → ℕ → Bool
frees (changes.CreateRoot block service priority) s e = s.next_entity == e
frees (changes.CreateChild parent relation block priority) s e = s.next_entity == e
frees (changes.Detach e' a') s e = is_member (tree_of s.entities e) e'.0
frees (changes.DropContext a') s e = list_any (λ l. (l.activity.0 == a'.0) && is_member (tree_of s.entities e) l.entity.0) s.links
frees _ s e = false

-- one of the changes does so at its turn
abbrev pub freed_by : List Change → State → ℕ → Bool
freed_by [] s e = false
freed_by (c ∷ cs) s e = frees c s e || freed_by cs (after_change c s) e
