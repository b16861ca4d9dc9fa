-- What the check of one handler and of one method builds.
use Rattle.std.specs.Prelude.{ℕ, Ok}
use Rattle.script_types.specs.declared.codes.CodePart.TheVariants as part
use Rattle.script_types.specs.Codes.{Codes, Block, Handler, Method}
use Rattle.script_types.specs.Typing.{handler_task, method_task}
use Rattle.script_types.specs.Program.{HandlerProgram, MethodProgram}
use Rattle.script_types.specs.Programs.{Built, ◌>>=◌, steps_of, place_of}

-- the handler with that number of the block with that number
abbrev pub handler_built : Codes → Block → ℕ → ℕ → Handler → Built HandlerProgram
handler_built all block number n handler = do
  steps ← steps_of all block (place_of number (part.Handler n)) (handler_task all handler)
  Ok (record { event = handler.event; steps = steps })

-- the method with that number of the block with that number
abbrev pub method_built : Codes → Block → ℕ → ℕ → Method → Built MethodProgram
method_built all block number n method = do
  steps ← steps_of all block (place_of number (part.Method n)) (method_task method)
  Ok (record { result = method.result; steps = steps })
