-- The variables that are visible at a place of a script.
use Rattle.std.specs.Prelude.{ℕ, List, [], ◌∷◌, ◌++◌, map, Option, Some, None, Ok, is_none, option_map}
use Rattle.slee_value.specs.declared.kind.Kind.{Kind}
use Rattle.script_types.specs.declared.misuse.CheckBad.TheVariants as bad
use Rattle.script_types.specs.declared.codes.FieldCode.{FieldCode}
use Rattle.script_tree.specs.Tree.{Bytes}
use Rattle.script_types.specs.Codes.{named}
use Rattle.script_types.specs.TypingResult.{Checked, misused, tested}

-- a variable is a value of a type, or a child entity with the number of its block
pub data Holding : Type 0 where
  Value : Kind → Holding
  Child : ℕ → Holding

pub record Variable : Type 0 where
  pub name : Bytes
  pub holds : Holding

abbrev pub Scope : Type 0
Scope = List Variable

-- what the visible variable of that name is
abbrev pub visible : Scope → Bytes → Option Holding
visible scope name = option_map (λ v. v.holds) (named (λ v. v.name) name scope)

abbrev pub with_value : Scope → Bytes → Kind → Scope
with_value scope name kind = scope ++ record { name = name; holds = Value kind } ∷ []

abbrev pub with_child : Scope → Bytes → ℕ → Scope
with_child scope name block = scope ++ record { name = name; holds = Child block } ∷ []

-- a method's parameters are visible from its start
abbrev pub parameters_in_scope : List FieldCode → Scope
parameters_in_scope fields = map (λ f. record { name = f.name; holds = Value f.kind }) fields

-- a new name must not be visible
abbrev pub check_new : Scope → Bytes → ℕ → Checked (Unit {0})
check_new scope name at = tested bad.Name at (is_none (visible scope name))

-- a variable where a value is wanted
abbrev pub value_or_fault : Option Holding → ℕ → Checked Kind
value_or_fault None at = misused bad.Name at
value_or_fault (Some (Child block)) at = misused bad.Place at
value_or_fault (Some (Value kind)) at = Ok kind

abbrev pub check_value : Scope → Bytes → ℕ → Checked Kind
check_value scope name at = value_or_fault (visible scope name) at

-- a variable where a child is wanted
abbrev pub child_or_fault : Option Holding → ℕ → Checked ℕ
child_or_fault None at = misused bad.Name at
child_or_fault (Some (Value kind)) at = misused bad.Mismatch at
child_or_fault (Some (Child block)) at = Ok block

-- the number of its block
abbrev pub check_child : Scope → Bytes → ℕ → Checked ℕ
check_child scope name at = child_or_fault (visible scope name) at
