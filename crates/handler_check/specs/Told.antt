-- What the check of a deployment answers: the program of its scripts, or its first fault with the place where it stands. Want of memory alone is free.
use Rattle.std.specs.Prelude.{◌≡◌, ℕ, Result, Ok, Err}
use Rattle.script_tree.specs.Tree.{Bytes}
use Rattle.script_tree.specs.declared.scanning.Place.{Place}
use Rattle.script_types.specs.declared.codes.CodePlace.{CodePlace}
use Rattle.script_types.specs.declared.codes.Codes.{Codes}
use Rattle.script_types.specs.declared.misuse.Misuse.{Misuse}
use Rattle.script_types.specs.declared.misuse.CheckBad.{CheckBad}
use Rattle.script_types.specs.CodesOf.{codes_of}
use Rattle.script_types.specs.Program.{Program}
use Rattle.script_types.specs.Programs.{Built, program_of}
use Rattle.script_types.specs.TypingPlaces.{place_of_misuse}
use Rattle.handler_check.specs.declared.fault.CheckFault.{CheckFault}
use Rattle.handler_check.specs.declared.fault.CheckFault.TheVariants as answers
use Rattle.handler_check.specs.Paths.{path_of, text_of}

-- A fault of a script: the script's JSON pointer, the line and column in its text, and the kind.
pub record Fault : Type 0 where
  pub path : Bytes
  pub line : ℕ
  pub column : ℕ
  pub kind : CheckBad

abbrev pub fault_on : Bytes → Place → CheckBad → Fault
fault_on path place kind = record { path = path; line = place.line; column = place.column; kind = kind }

-- the fault of the script at a place
abbrev pub fault_at : Codes → CodePlace → Misuse → Fault
fault_at all place misuse = fault_on (path_of all.blocks place) (place_of_misuse (text_of all.blocks place) misuse) misuse.kind

abbrev pub told : Codes → Built Program → Result Program Fault
told all (Ok program) = Ok program
told all (Err fault) = Err (fault_at all fault.0 fault.1)

-- The program of the scripts, or the first fault of all.
abbrev pub checked : Codes → Result Program Fault
checked all = told all (program_of (codes_of all))

-- The answers that may be given where this is found: want of memory may stand for any.
abbrev pub Tells : Result Program Fault → CheckFault → Type 0
Tells found answers.NoMemory = Unit {0}
Tells found (answers.At path line column kind) = found ≡ Err (record { path = path; line = line; column = column; kind = kind })
