-- So it is in every deployment that was read.
use Rattle.std.proofs.Common.{◌≡◌, ℕ, List, [], map, Some, subst, sym}
use Rattle.std.specs.Prelude.{Ok, slice_get}
use Rattle.script_tree.specs.Tree.{Bytes}
use Rattle.script_types.specs.Program.{BlockProgram}
use Rattle.script_types.specs.declared.symbol.Symbol.{Symbol}
use Rattle.script_types.specs.ProgramOf.{kept_program}
use Rattle.script_types.specs.Programs.{program_of}
use Rattle.deploy_json.proofs.Codes.{codes_same}
use Rattle.deploy_json.specs.Checking.{read_as, reading_of}
use Rattle.deploy_model.specs.Resolving.{deployed_of}
use Rattle.slee_descriptor.specs.declared.deployment.Deployment.{Deployment}
use Rattle.router_laws_deployed.proofs.Readings.{reading_program}
use Rattle.router_laws_masks.proofs.MaskCodes.{program_masks}
use Rattle.router_laws_written.specs.Held.{BeginsWith}

pub read_masks : (bytes : List ℕ) (d : Deployment) (n : ℕ) (block : BlockProgram) (event : List ℕ) → reading_of bytes ≡ Ok (read_as d) → slice_get (kept_program d.codes) n ≡ Some block
    → BeginsWith (deployed_of d.parts) event (map (λ (x : Symbol Bytes). x.name) block.masks) n
read_masks bytes d n block event is there =
    program_masks d.parts (kept_program d.codes) n block event (subst (λ all. program_of all ≡ Ok (kept_program d.codes)) (sym (codes_same d.parts)) (reading_program bytes d is)) there
