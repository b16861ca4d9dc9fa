-- The program of a deployment has the numbers of its names.
use Rattle.std.proofs.Common.{◌≡◌, ◌+◌, ℕ, List, [], ◌∷◌, map, Option, Some, None, Ok, Err, subst}
use Rattle.std.specs.Prelude.{filter}
use Rattle.std.specs.List.{AllByRecursion}
use Rattle.script_tree.specs.Tree.{Statements}
use Rattle.script_types.specs.declared.codes.CodePart.TheVariants as part
use Rattle.script_types.specs.declared.codes.CodePlace.{CodePlace}
use Rattle.script_types.specs.Codes.{Codes, Block, Handler, Method, symbol_of}
use Rattle.script_types.specs.Typing.{Task, handler_task, method_task, task_for}
use Rattle.script_types.specs.TypingResult.{Checked}
use Rattle.script_types.specs.TypingExpressions.{Role, Setting, OnException, OnRolledBack, OnRemove}
use Rattle.script_types.specs.ElaborationOfStatements.{MadeAll, statements_made}
use Rattle.script_types.specs.Numbers.{IsNumbered, AreNumberedSteps, IsNumberedScript, IsNumberedBlock, IsNumberedProgram}
use Rattle.script_types.specs.Program.{HandlerProgram, MethodProgram, Program}
use Rattle.script_types.specs.Programs.{placed, place_of, steps_of, handlers_of, methods_of, callback_of, block_of, blocks_of, program_of}
use Rattle.script_laws.proofs.NumberedResults.{AllOk, AllBuilt, built_then}
use Rattle.script_laws.proofs.NumberedExpressions.{symbol_numbered}
use Rattle.script_laws.proofs.NumberedStatements.{statements_numbered}

module _ (all : Codes) where
  placed_numbered : (place : CodePlace) (r : Checked MadeAll) → AllOk (λ made. AreNumberedSteps all.names made.steps) r → AllBuilt (AreNumberedSteps all.names) (placed place r)
  placed_numbered place (Ok made) h = h
  placed_numbered place (Err fault) h = tt

  steps_numbered : (block : Block) (place : CodePlace) (task : Task) → AllBuilt (AreNumberedSteps all.names) (steps_of all block place task)
  steps_numbered block place task =
      let s : Setting = record { codes = all; block = block; role = task.role } in
      placed_numbered place (statements_made s task.scope 0 task.script) (statements_numbered s task.scope 0 task.script)

  abbrev AreNumberedHandlers : List HandlerProgram → Type 0
  AreNumberedHandlers handlers = AllByRecursion (λ (h : HandlerProgram). AreNumberedSteps all.names h.steps) handlers

  abbrev AreNumberedMethods : List MethodProgram → Type 0
  AreNumberedMethods methods = AllByRecursion (λ (m : MethodProgram). AreNumberedSteps all.names m.steps) methods

  handlers_numbered : (block : Block) (number n : ℕ) (handlers : List Handler) → AllBuilt AreNumberedHandlers (handlers_of all block number n handlers)
  handlers_numbered block number n [] = tt
  handlers_numbered block number n (x ∷ handlers) =
      built_then (AreNumberedSteps all.names) AreNumberedHandlers (steps_of all block (place_of number (part.Handler n)) (handler_task all x)) _ (steps_numbered block (place_of number (part.Handler n)) (handler_task all x)) (λ steps h.
      built_then AreNumberedHandlers AreNumberedHandlers (handlers_of all block number (n + 1) handlers) _ (handlers_numbered block number (n + 1) handlers) (λ others g. (h, g)))

  methods_numbered : (block : Block) (number n : ℕ) (methods : List Method) → AllBuilt AreNumberedMethods (methods_of all block number n methods)
  methods_numbered block number n [] = tt
  methods_numbered block number n (x ∷ methods) =
      built_then (AreNumberedSteps all.names) AreNumberedMethods (steps_of all block (place_of number (part.Method n)) (method_task x)) _ (steps_numbered block (place_of number (part.Method n)) (method_task x)) (λ steps h.
      built_then AreNumberedMethods AreNumberedMethods (methods_of all block number (n + 1) methods) _ (methods_numbered block number (n + 1) methods) (λ others g. (h, g)))

  callback_numbered : (block : Block) (place : CodePlace) (role : Role) (script : Option Statements) → AllBuilt (IsNumberedScript all.names) (callback_of all block place role script)
  callback_numbered block place role None = tt
  callback_numbered block place role (Some script) =
      built_then (AreNumberedSteps all.names) (IsNumberedScript all.names) (steps_of all block place (task_for role script)) _ (steps_numbered block place (task_for role script)) (λ steps h. h)

  -- the names of events
  events_numbered : (handlers : List Handler) → AllByRecursion (IsNumbered all.names) (map (λ h. symbol_of all h.event) handlers)
  events_numbered [] = tt
  events_numbered (h ∷ handlers) = (symbol_numbered all h.event, events_numbered handlers)

  block_numbered : (number : ℕ) (block : Block) → AllBuilt (IsNumberedBlock all.names) (block_of all number block)
  block_numbered number block =
      built_then AreNumberedHandlers (IsNumberedBlock all.names) (handlers_of all block number 0 block.handlers) _ (handlers_numbered block number 0 block.handlers) (λ handlers h.
      built_then AreNumberedMethods (IsNumberedBlock all.names) (methods_of all block number 0 block.methods) _ (methods_numbered block number 0 block.methods) (λ methods g.
      built_then (IsNumberedScript all.names) (IsNumberedBlock all.names) (callback_of all block (place_of number part.Exception) OnException block.exception) _ (callback_numbered block (place_of number part.Exception) OnException block.exception) (λ exception j.
      built_then (IsNumberedScript all.names) (IsNumberedBlock all.names) (callback_of all block (place_of number part.RolledBack) OnRolledBack block.rolled_back) _ (callback_numbered block (place_of number part.RolledBack) OnRolledBack block.rolled_back) (λ rolled_back l.
      built_then (IsNumberedScript all.names) (IsNumberedBlock all.names) (callback_of all block (place_of number part.Remove) OnRemove block.remove) _ (callback_numbered block (place_of number part.Remove) OnRemove block.remove) (λ remove r.
      record { masks = events_numbered (filter (λ x. x.mask) block.handlers); handlers = h; methods = g; exception = j; rolled_back = l; remove = r })))))

  blocks_numbered : (number : ℕ) (blocks : List Block) → AllBuilt (IsNumberedProgram all.names) (blocks_of all number blocks)
  blocks_numbered number [] = tt
  blocks_numbered number (block ∷ blocks) =
      built_then (IsNumberedBlock all.names) (IsNumberedProgram all.names) (block_of all number block) _ (block_numbered number block) (λ one h.
      built_then (IsNumberedProgram all.names) (IsNumberedProgram all.names) (blocks_of all (number + 1) blocks) _ (blocks_numbered (number + 1) blocks) (λ others g. (h, g)))

  pub program_numbered : (program : Program) → program_of all ≡ Ok program → IsNumberedProgram all.names program
  program_numbered program e = subst (AllBuilt (IsNumberedProgram all.names)) e (blocks_numbered 0 all.blocks)
