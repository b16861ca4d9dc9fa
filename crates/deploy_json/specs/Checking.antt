-- What bytes are read as: a deployment with the program of its scripts, or the first fault.
use Rattle.std.specs.Prelude.{Result, Ok, Err}
use Rattle.script_tree.specs.Tree.{Bytes}
use Rattle.script_tree.specs.declared.scanning.Place.{Place}
use Rattle.script_types.specs.declared.codes.CodePlace.{CodePlace}
use Rattle.script_types.specs.declared.misuse.Misuse.{Misuse}
use Rattle.script_types.specs.declared.misuse.CheckBad.{CheckBad}
use Rattle.script_types.specs.Program.{Program}
use Rattle.script_types.specs.ProgramOf.{kept_program}
use Rattle.script_types.specs.Programs.{Built, program_of}
use Rattle.script_types.specs.TypingPlaces.{place_of_misuse}
use Rattle.slee_descriptor.specs.declared.deployment.Deployment.{Deployment}
use Rattle.deploy_json.specs.Rows.{PartsRow, parts_row}
use Rattle.deploy_json.specs.declared.fault.ReadFault.{ReadFault}
use Rattle.deploy_json.specs.declared.fault.ReadFault.TheVariants as faults
use Rattle.deploy_json.specs.Reading.{parts_of}
use Rattle.deploy_json.specs.Scripts.{codes_in_rows, script_path, script_text}

-- The parts of a deployment, and what its scripts are made into.
pub record Reading : Type 0 where
  pub parts : PartsRow
  pub program : Program

abbrev pub check_at : Bytes → Place → CheckBad → ReadFault
check_at pointer place kind = faults.Check pointer place.line place.column kind

-- A fault of a script: its pointer, the line and column in its text, and the kind.
abbrev pub check_read : PartsRow → CodePlace → Misuse → ReadFault
check_read p place misuse = check_at (script_path p.blocks place) (place_of_misuse (script_text p.blocks place) misuse) misuse.kind

abbrev pub programmed : PartsRow → Built Program → Result Reading ReadFault
programmed p (Ok program) = Ok (record { parts = p; program = program })
programmed p (Err fault) = Err (check_read p fault.0 fault.1)

abbrev pub checked_parts : Result PartsRow ReadFault → Result Reading ReadFault
checked_parts (Ok p) = programmed p (program_of (codes_in_rows p))
checked_parts (Err fault) = Err fault

-- The deployment that bytes are, or the first fault: they are no JSON, else that of the shape, else of the scripts' texts, else of their check.
abbrev pub reading_of : Bytes → Result Reading ReadFault
reading_of bytes = checked_parts (parts_of bytes)

-- A deployment as it is read, with the program that is kept beside its scripts.
abbrev pub read_as : Deployment → Reading
read_as d = record { parts = parts_row d.parts; program = kept_program d.codes }
