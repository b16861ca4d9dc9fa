-- That the codes for which scripts were checked are those of a deployment.
use Rattle.std.specs.Prelude.{ℕ, ◌≡◌, true, List, length, map, Ok, Option, Some, None, bytes_eq, is_some, slice_get}
use Rattle.std.specs.List.{AllByRecursion, list_any}
use Rattle.script_types.specs.Codes.{Block, Codes, relation_named, named}
use Rattle.script_types.specs.Elaboration.{attribute_named}
use Rattle.script_types.specs.Program.{BlockProgram, HandlerProgram, Program, Steps}
use Rattle.script_types.specs.Programs.{program_of}
use Rattle.slee_value.specs.Order.{rises}
use Rattle.script_types.specs.declared.codes.EventCode.{EventCode}
use Rattle.script_types.specs.declared.codes.FieldCode.{FieldCode}
use Rattle.script_types.specs.declared.codes.AttributeCode.{AttributeCode}
use Rattle.script_types.specs.declared.codes.RelationCode.{RelationCode}
use Rattle.deploy_model.specs.Deployed.{Deployed, attribute_kind, block_fields, relation_of, service_named}
use Rattle.router_laws_values.specs.Spelled.{MethodsSpelled, StepsSpelled}
use Rattle.router_state.specs.Fits.{is_priority}

-- What is declared in a block of the codes is declared in the deployment's block of this number: fields, relations with priorities in their range, and attributes, each key with one kind.
pub record Declares (d : Deployed) (n : ℕ) (block : Block) : Type 0 where
  pub fields : block_fields d n ≡ block.fields
  pub relations : (name : List ℕ) → relation_of d n name ≡ relation_named name block
  pub ranks : (name : List ℕ) (r : RelationCode) → relation_named name block ≡ Some r → is_priority r.priority ≡ true
  pub attributes : (name : List ℕ) (x : AttributeCode) → attribute_named name block ≡ Some x → attribute_kind d x.key ≡ Some x.kind

-- Events and services of the codes are those of the deployment, and the fields of each event rise by their names.
pub record DeclaresAll (d : Deployed) (all : Codes) : Type 0 where
  pub events : all.events ≡ d.events
  pub services : (key : List ℕ) → list_any (bytes_eq key) all.services ≡ true → is_some (service_named d key) ≡ true
  pub rise : (name : List ℕ) (event : EventCode) → named (λ (e : EventCode). e.name) name d.events ≡ Some event → rises (map (λ (f : FieldCode). f.name) event.fields) ≡ true

-- The constants of a script have spellings: numbers have 64 bits, and texts are texts.
abbrev pub ScriptSpelled : Option Steps → Type 0
ScriptSpelled None = Unit {0}
ScriptSpelled (Some steps) = StepsSpelled steps

-- So do those of all scripts of a block.
abbrev pub BlockSpelled : BlockProgram → Type 0
BlockSpelled block = AllByRecursion (λ (h : HandlerProgram). StepsSpelled h.steps) block.handlers × ScriptSpelled block.exception × ScriptSpelled block.rolled_back × ScriptSpelled block.remove

-- A program is that of scripts that were checked for a deployment, and what they may name is declared as the deployment has it.
pub record IsProgrammed (d : Deployed) (program : Program) : Type 0 where
  pub codes : Codes
  pub made : program_of codes ≡ Ok program
  pub blocks : (n : ℕ) (block : Block) → slice_get codes.blocks n ≡ Some block → Declares d n block
  pub declares : DeclaresAll d codes
  pub tables : length codes.tables ≡ length d.tables

-- The constants of all scripts have spellings.
pub record AreSpelled (program : Program) : Type 0 where
  pub methods : MethodsSpelled program
  pub scripts : AllByRecursion BlockSpelled program
