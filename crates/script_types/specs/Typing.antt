-- Which codes are well typed: each script of each block checks without a fault. The scripts have an order, and so a first fault.
use Rattle.std.specs.Prelude.{◌≡◌, ℕ, suc, List, [], ◌∷◌, ◌++◌, length, map, Option, Some, None, Result, Ok, Err, slice_get, option_map, unwrap_or}
use Rattle.std.specs.List.{range_with_len}
use Rattle.script_types.specs.declared.misuse.Misuse.{Misuse}
use Rattle.script_types.specs.declared.codes.FieldCode.{FieldCode}
use Rattle.script_types.specs.declared.codes.CodePart.{CodePart}
use Rattle.script_types.specs.declared.codes.CodePart.TheVariants as p
use Rattle.script_types.specs.declared.codes.CodePlace.{CodePlace}
use Rattle.script_tree.specs.Tree.{Bytes, Statements}
use Rattle.script_types.specs.Codes.{Codes, Block, Handler, Method, any_event}
use Rattle.script_types.specs.TypingResult.{Checked, ◌>>=◌}
use Rattle.script_types.specs.Scopes.{Scope, parameters_in_scope}
use Rattle.script_types.specs.TypingExpressions.{Role, OnEvent, InMethod, OnException, OnRolledBack, OnRemove}
use Rattle.script_types.specs.TypingStatements.{check_statements}

-- a script with what it is for and the variables that are visible at its start
pub record Task : Type 0 where
  pub role : Role
  pub scope : Scope
  pub script : Statements

-- the fields of an event that is declared or built in
abbrev pub fields_of_event : Bytes → Codes → List FieldCode
fields_of_event name all = unwrap_or (option_map (λ e. e.fields) (any_event name all)) []

abbrev pub handler_task : Codes → Handler → Task
handler_task all h = record { role = OnEvent (fields_of_event h.event all); scope = []; script = h.script }

abbrev pub method_task : Method → Task
method_task m = record { role = InMethod m.result; scope = parameters_in_scope m.parameters; script = m.script }

abbrev pub task_for : Role → Statements → Task
task_for role script = record { role = role; scope = []; script = script }

-- a script of a block, where it has that one
abbrev pub task_of : Codes → Block → CodePart → Option Task
task_of all block (p.Handler n) = option_map (handler_task all) (slice_get block.handlers n)
task_of all block (p.Method n) = option_map method_task (slice_get block.methods n)
task_of all block p.Exception = option_map (task_for OnException) block.exception
task_of all block p.RolledBack = option_map (task_for OnRolledBack) block.rolled_back
task_of all block p.Remove = option_map (task_for OnRemove) block.remove

abbrev pub check_task : Codes → Block → Option Task → Checked (Unit {0})
check_task all block None = Ok tt
check_task all block (Some t) = do
  _ ← check_statements (record { codes = all; block = block; role = t.role }) t.scope 0 t.script
  Ok tt

abbrev pub check_part : Codes → CodePart → Option Block → Checked (Unit {0})
check_part all part None = Ok tt
check_part all part (Some block) = check_task all block (task_of all block part)

-- the check of one script, without a fault where there is no such script
abbrev pub check_of : Codes → CodePlace → Checked (Unit {0})
check_of all place = check_part all place.part (slice_get all.blocks place.block)

-- each script has no fault
abbrev pub WellTyped : Codes → Type 0
WellTyped all = (place : CodePlace) → check_of all place ≡ Ok tt

-- the scripts in their order: blocks by number, in each its handlers by number, its methods in their order, and the three others
abbrev pub parts_of : Block → List CodePart
parts_of block = map p.Handler (range_with_len 0 (length block.handlers)) ++ (map p.Method (range_with_len 0 (length block.methods)) ++ p.Exception ∷ p.RolledBack ∷ p.Remove ∷ [])

abbrev pub places_in : ℕ → List Block → List CodePlace
places_in number [] = []
places_in number (block ∷ more) = map (λ part. record { block = number; part = part }) (parts_of block) ++ places_in (suc number) more

-- the fault of a script, else the first of those behind it
abbrev pub fault_or : CodePlace → Checked (Unit {0}) → Result (Unit {0}) (CodePlace × Misuse) → Result (Unit {0}) (CodePlace × Misuse)
fault_or place (Ok x) rest = rest
fault_or place (Err fault) rest = Err (place, fault)

abbrev pub first_fault : Codes → List CodePlace → Result (Unit {0}) (CodePlace × Misuse)
first_fault all [] = Ok tt
first_fault all (place ∷ more) = fault_or place (check_of all place) (first_fault all more)

-- the check of all scripts, or the first fault with its script
abbrev pub check_codes : Codes → Result (Unit {0}) (CodePlace × Misuse)
check_codes all = first_fault all (places_in 0 all.blocks)
