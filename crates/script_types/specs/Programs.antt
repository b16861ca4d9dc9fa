-- The program of a deployment: each of its scripts with every name resolved, or the first fault with the script in which it stands. Scripts go by blocks, in each its handlers by number, its methods in their order, and the three others.
use Rattle.std.specs.Prelude.{ℕ, ◌+◌, List, [], ◌∷◌, map, filter, Option, Some, None, Result, Ok, Err}
use Rattle.script_types.specs.declared.misuse.Misuse.{Misuse}
use Rattle.script_types.specs.declared.codes.CodePart.{CodePart}
use Rattle.script_types.specs.declared.codes.CodePart.TheVariants as part
use Rattle.script_types.specs.declared.codes.CodePlace.{CodePlace}
use Rattle.script_tree.specs.Tree.{Bytes, Statements}
use Rattle.script_types.specs.declared.symbol.Symbol.{Symbol}
use Rattle.script_types.specs.Codes.{Codes, Block, Handler, Method, symbol_of}
use Rattle.script_types.specs.Typing.{Task, handler_task, method_task, task_for}
use Rattle.script_types.specs.TypingExpressions.{Role, OnException, OnRolledBack, OnRemove}
use Rattle.script_types.specs.TypingResult.{Checked}
use Rattle.script_types.specs.ElaborationOfStatements.{MadeAll, statements_made}
use Rattle.script_types.specs.Program.{Steps, HandlerProgram, MethodProgram, BlockProgram, Program}

-- What is made of scripts, or the first fault with its script.
abbrev pub Built : Type 0 → Type 0
Built A = Result A (CodePlace × Misuse)

infixl 10 ◌>>=◌
abbrev pub ◌>>=◌ : {A B : Type 0} → Built A → (A → Built B) → Built B
(Ok x) >>= g = g x
(Err fault) >>= g = Err fault

-- the steps of one script, whose fault is told with its place
abbrev pub placed : CodePlace → Checked MadeAll → Built Steps
placed place (Ok made) = Ok made.steps
placed place (Err fault) = Err (place, fault)

abbrev pub steps_of : Codes → Block → CodePlace → Task → Built Steps
steps_of all block place task = placed place (statements_made (record { codes = all; block = block; role = task.role }) task.scope 0 task.script)

abbrev pub place_of : ℕ → CodePart → CodePlace
place_of number part = record { block = number; part = part }

abbrev pub handlers_of : Codes → Block → ℕ → ℕ → List Handler → Built (List HandlerProgram)
handlers_of all block number n [] = Ok []
handlers_of all block number n (handler ∷ handlers) = do
  steps ← steps_of all block (place_of number (part.Handler n)) (handler_task all handler)
  others ← handlers_of all block number (n + 1) handlers
  Ok (record { event = handler.event; steps = steps } ∷ others)

abbrev pub methods_of : Codes → Block → ℕ → ℕ → List Method → Built (List MethodProgram)
methods_of all block number n [] = Ok []
methods_of all block number n (method ∷ methods) = do
  steps ← steps_of all block (place_of number (part.Method n)) (method_task method)
  others ← methods_of all block number (n + 1) methods
  Ok (record { result = method.result; steps = steps } ∷ others)

-- a script that a block may lack
abbrev pub callback_of : Codes → Block → CodePlace → Role → Option Statements → Built (Option Steps)
callback_of all block place role None = Ok None
callback_of all block place role (Some script) = do
  steps ← steps_of all block place (task_for role script)
  Ok (Some steps)

-- the events that entities of the block mask when they are attached
abbrev pub masks_of : Codes → Block → List (Symbol Bytes)
masks_of all block = map (λ h. symbol_of all h.event) (filter (λ h. h.mask) block.handlers)

abbrev pub block_of : Codes → ℕ → Block → Built BlockProgram
block_of all number block = do
  handlers ← handlers_of all block number 0 block.handlers
  methods ← methods_of all block number 0 block.methods
  exception ← callback_of all block (place_of number part.Exception) OnException block.exception
  rolled_back ← callback_of all block (place_of number part.RolledBack) OnRolledBack block.rolled_back
  remove ← callback_of all block (place_of number part.Remove) OnRemove block.remove
  Ok (record { masks = masks_of all block; handlers = handlers; methods = methods; exception = exception; rolled_back = rolled_back; remove = remove })

abbrev pub blocks_of : Codes → ℕ → List Block → Built Program
blocks_of all number [] = Ok []
blocks_of all number (block ∷ blocks) = do
  one ← block_of all number block
  others ← blocks_of all (number + 1) blocks
  Ok (one ∷ others)

-- the program of all scripts, or the first fault
abbrev pub program_of : Codes → Built Program
program_of all = blocks_of all 0 all.blocks
