-- Which script a JSON pointer is that of, and the types at a place of a script of a deployment.
use Rattle.std.specs.Prelude.{[], Option, Some, None, List, bytes_eq, find, map, option_and_then, slice_get}
use Rattle.std.specs.Option.{option_map_or}
use Rattle.script_tree.specs.Tree.{Bytes}
use Rattle.script_tree.specs.declared.scanning.Place.{Place}
use Rattle.script_types.specs.declared.codes.BlockCode.{BlockCode}
use Rattle.script_types.specs.declared.codes.CodePart.{CodePart}
use Rattle.script_types.specs.declared.codes.CodePlace.{CodePlace}
use Rattle.script_types.specs.declared.codes.Codes.{Codes as CodesInMemory}
use Rattle.script_types.specs.Codes.{Block, Codes}
use Rattle.script_types.specs.CodesOf.{block_of_code, codes_of}
use Rattle.script_types.specs.Typing.{Task, places_in, task_of}
use Rattle.handler_check.specs.Paths.{path_of, script_in}
use Rattle.check_hints.specs.Mismatches.{Types}
use Rattle.check_hints.specs.Told.{told}

-- the first of all scripts that has this JSON pointer
abbrev pub place_at : List BlockCode → Bytes → Option CodePlace
place_at blocks pointer = find (λ at. bytes_eq (path_of blocks at) pointer) (places_in 0 (map block_of_code blocks))

-- the types at a place of a text that is checked as the script of a task
abbrev pub told_in : Codes → Block → Bytes → Place → Option Task → Option Types
told_in all block text place None = None
told_in all block text place (Some task) = told (record { codes = all; block = block; role = task.role }) task.scope text place

-- the types at a place of one of a block's scripts
abbrev pub told_of : CodesInMemory → BlockCode → CodePart → Place → Option Types
told_of codes block part place = told_in (codes_of codes) (block_of_code block) (option_map_or (λ s. s.text) (script_in block part) []) place (task_of (codes_of codes) (block_of_code block) part)

-- the same of a script by its block's number
abbrev pub told_at : CodesInMemory → Place → CodePlace → Option Types
told_at codes place at = option_and_then (λ block. told_of codes block at.part place) (slice_get codes.blocks at.block)

-- the same of the script at a JSON pointer
abbrev pub told_by : CodesInMemory → Bytes → Place → Option Types
told_by codes pointer place = option_and_then (told_at codes place) (place_at codes.blocks pointer)
