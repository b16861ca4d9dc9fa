-- The places that are kept for names of variables.
use Rattle.std.specs.Prelude.{◌≡◌, ℕ, cond, List, Option, Some, None, bytes_eq, position, slice_get, option_and_then}
use Rattle.std.specs.HashMap.{HashMap, get_by}
use denote.Ref.{Bor}
use Rattle.script_tree.specs.Tree.{Bytes}
use Rattle.script_types.specs.Scopes.{Variable}

-- the index has the place of the first variable of each name that is visible
abbrev pub Finds : {S : Type 0} → HashMap (Bor (List ℕ)) ℕ S → List Variable → Type 0
Finds places locals = (name : Bytes) (place : ℕ) → position (λ x. bytes_eq x.name name) locals ≡ Some place → get_by (λ k. bytes_eq name k.now) places ≡ Some place

-- the place that is kept for a name, where the variable there has it
abbrev pub kept_place : List Variable → Bytes → Option ℕ → Option ℕ
kept_place locals name kept = option_and_then (λ i. option_and_then (λ x. cond (bytes_eq x.name name) (Some i) None) (slice_get locals i)) kept
