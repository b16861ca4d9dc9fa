-- The program of checked scripts has constants with spellings where those of the scripts have.
use Rattle.std.proofs.Common.{◌≡◌, ◌+◌, ℕ, List, [], ◌∷◌, Option, Some, None, Ok, Err, subst}
use Rattle.std.specs.List.{AllByRecursion}
use Rattle.script_tree.specs.Tree.{Statements}
use Rattle.script_types.specs.declared.codes.CodePart.TheVariants as part
use Rattle.script_types.specs.declared.codes.CodePlace.{CodePlace}
use Rattle.script_types.specs.Codes.{Codes, Block, Handler, Method}
use Rattle.script_types.specs.Typing.{Task, handler_task, method_task, task_for}
use Rattle.script_types.specs.TypingResult.{Checked}
use Rattle.script_types.specs.TypingExpressions.{Role, Setting, OnException, OnRolledBack, OnRemove}
use Rattle.script_types.specs.ElaborationOfStatements.{MadeAll, statements_made}
use Rattle.script_types.specs.Program.{BlockProgram, HandlerProgram, MethodProgram, Program}
use Rattle.script_types.specs.Programs.{placed, place_of, steps_of, handlers_of, methods_of, callback_of, block_of, blocks_of, program_of}
use Rattle.script_laws.proofs.NumberedResults.{AllOk, AllBuilt, built_then}
use Rattle.router_laws_spelled.proofs.Statements.{statements_spelled}
use Rattle.router_laws_spelled.specs.Written.{BlockWritten, CallbackSpelled, StatementsSpelled}
use Rattle.router_laws_suiting.specs.Declared.{AreSpelled, BlockSpelled, ScriptSpelled}
use Rattle.router_laws_values.specs.Spelled.{StepsSpelled}

-- the handlers, methods and callbacks of a block
abbrev WholeSpelled : BlockProgram → Type 0
WholeSpelled block = BlockSpelled block × AllByRecursion (λ (m : MethodProgram). StepsSpelled m.steps) block.methods

module _ (all : Codes) where
  placed_spelled : (place : CodePlace) (r : Checked MadeAll) → AllOk (λ made. StepsSpelled made.steps) r → AllBuilt StepsSpelled (placed place r)
  placed_spelled place (Ok made) h = h
  placed_spelled place (Err fault) h = tt

  abbrev HandlersSpelled : List HandlerProgram → Type 0
  HandlersSpelled handlers = AllByRecursion (λ (h : HandlerProgram). StepsSpelled h.steps) handlers

  abbrev OwnMethodsSpelled : List MethodProgram → Type 0
  OwnMethodsSpelled methods = AllByRecursion (λ (m : MethodProgram). StepsSpelled m.steps) methods

  module _ (block : Block) (written : BlockWritten block) where
    steps_spelled : (place : CodePlace) (task : Task) → StatementsSpelled task.script → AllBuilt StepsSpelled (steps_of all block place task)
    steps_spelled place task own =
        let s : Setting = record { codes = all; block = block; role = task.role } in
        placed_spelled place (statements_made s task.scope 0 task.script) (statements_spelled s written.ranks task.scope 0 task.script own)

    handlers_spelled : (number n : ℕ) (handlers : List Handler) → AllByRecursion (λ (h : Handler). StatementsSpelled h.script) handlers → AllBuilt HandlersSpelled (handlers_of all block number n handlers)
    handlers_spelled number n [] own = tt
    handlers_spelled number n (x ∷ handlers) own =
        built_then StepsSpelled HandlersSpelled (steps_of all block (place_of number (part.Handler n)) (handler_task all x)) _ (steps_spelled (place_of number (part.Handler n)) (handler_task all x) own.0) (λ steps h.
        built_then HandlersSpelled HandlersSpelled (handlers_of all block number (n + 1) handlers) _ (handlers_spelled number (n + 1) handlers own.1) (λ others g. (h, g)))

    methods_spelled : (number n : ℕ) (methods : List Method) → AllByRecursion (λ (m : Method). StatementsSpelled m.script) methods → AllBuilt OwnMethodsSpelled (methods_of all block number n methods)
    methods_spelled number n [] own = tt
    methods_spelled number n (x ∷ methods) own =
        built_then StepsSpelled OwnMethodsSpelled (steps_of all block (place_of number (part.Method n)) (method_task x)) _ (steps_spelled (place_of number (part.Method n)) (method_task x) own.0) (λ steps h.
        built_then OwnMethodsSpelled OwnMethodsSpelled (methods_of all block number (n + 1) methods) _ (methods_spelled number (n + 1) methods own.1) (λ others g. (h, g)))

    callback_spelled : (place : CodePlace) (role : Role) (script : Option Statements) → CallbackSpelled script → AllBuilt ScriptSpelled (callback_of all block place role script)
    callback_spelled place role None own = tt
    callback_spelled place role (Some script) own =
        built_then StepsSpelled ScriptSpelled (steps_of all block place (task_for role script)) _ (steps_spelled place (task_for role script) own) (λ steps h. h)

    block_spelled : (number : ℕ) → AllBuilt WholeSpelled (block_of all number block)
    block_spelled number =
        built_then HandlersSpelled WholeSpelled (handlers_of all block number 0 block.handlers) _ (handlers_spelled number 0 block.handlers written.handlers) (λ handlers h.
        built_then OwnMethodsSpelled WholeSpelled (methods_of all block number 0 block.methods) _ (methods_spelled number 0 block.methods written.methods) (λ methods g.
        built_then ScriptSpelled WholeSpelled (callback_of all block (place_of number part.Exception) OnException block.exception) _ (callback_spelled (place_of number part.Exception) OnException block.exception written.exception) (λ exception j.
        built_then ScriptSpelled WholeSpelled (callback_of all block (place_of number part.RolledBack) OnRolledBack block.rolled_back) _ (callback_spelled (place_of number part.RolledBack) OnRolledBack block.rolled_back written.rolled_back) (λ rolled_back l.
        built_then ScriptSpelled WholeSpelled (callback_of all block (place_of number part.Remove) OnRemove block.remove) _ (callback_spelled (place_of number part.Remove) OnRemove block.remove written.remove) (λ remove r. ((h, j, l, r), g))))))

  blocks_spelled : (number : ℕ) (blocks : List Block) → AllByRecursion BlockWritten blocks → AllBuilt (AllByRecursion WholeSpelled) (blocks_of all number blocks)
  blocks_spelled number [] written = tt
  blocks_spelled number (block ∷ blocks) written =
      built_then WholeSpelled (AllByRecursion WholeSpelled) (block_of all number block) _ (block_spelled block written.0 number) (λ one h.
      built_then (AllByRecursion WholeSpelled) (AllByRecursion WholeSpelled) (blocks_of all (number + 1) blocks) _ (blocks_spelled (number + 1) blocks written.1) (λ others g. (h, g)))

split_all : {X : Type 0} (P Q : X → Type 0) (xs : List X) → AllByRecursion (λ x. P x × Q x) xs → AllByRecursion P xs × AllByRecursion Q xs
split_all P Q [] all = (tt, tt)
split_all P Q (x ∷ xs) all = let more = split_all P Q xs all.1 in ((all.0.0, more.0), (all.0.1, more.1))

pub program_spelled : (all : Codes) (program : Program) → program_of all ≡ Ok program → AllByRecursion BlockWritten all.blocks → AreSpelled program
program_spelled all program made written =
    let both = split_all BlockSpelled (λ (b : BlockProgram). AllByRecursion (λ (m : MethodProgram). StepsSpelled m.steps) b.methods) program (subst (AllBuilt (AllByRecursion WholeSpelled)) made (blocks_spelled all 0 all.blocks written)) in
    record { methods = both.1; scripts = both.0 }
