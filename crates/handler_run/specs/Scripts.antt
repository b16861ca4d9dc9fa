-- The scripts of a deployment.
use Rattle.std.specs.Prelude.{Option, Some, None, slice_get}
use Rattle.script_meaning.specs.declared.which.Which.{Which}
use Rattle.script_types.specs.Program.{Program, BlockProgram, Steps}
use Rattle.script_meaning.specs.Meaning.{script_in}

abbrev pub script_of_block : Option BlockProgram → Which → Option Steps
script_of_block None which = None
script_of_block (Some block) which = script_in block which.part

-- the script that is run
abbrev pub script_of : Program → Which → Option Steps
script_of program which = script_of_block (slice_get program which.block) which
