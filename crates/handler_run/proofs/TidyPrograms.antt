-- The scripts of a checked deployment are tidy.
use Rattle.std.proofs.Common.{◌≡◌, ◌+◌, ℕ, List, [], ◌∷◌, Option, Some, None, Ok, Err, subst}
use Rattle.std.specs.List.{AllByRecursion}
use Rattle.script_tree.specs.Tree.{Statements}
use Rattle.script_types.specs.declared.codes.CodePlace.{CodePlace}
use Rattle.script_types.specs.Codes.{Codes, Block, Handler, Method}
use Rattle.script_types.specs.Typing.{Task, handler_task, method_task, task_for}
use Rattle.script_types.specs.TypingResult.{Checked}
use Rattle.script_types.specs.TypingExpressions.{Role, Setting}
use Rattle.script_types.specs.ElaborationOfStatements.{MadeAll, statements_made}
use Rattle.script_types.specs.Program.{Steps, HandlerProgram, MethodProgram, BlockProgram, Program}
use Rattle.script_types.specs.Programs.{placed, steps_of, handlers_of, methods_of, callback_of, block_of, blocks_of, program_of}
use Rattle.script_laws.proofs.SafePrograms.{built_ok, built_same}
use Rattle.script_run_blocks.specs.Tidy.{AreTidy, IsTidyScript, IsTidyBlock, IsTidyProgram}
use Rattle.handler_run.proofs.TidyStatements.{TidyAll, statements_tidy}

placed_tidy : (place : CodePlace) (r : Checked MadeAll) (steps : Steps) → TidyAll r → placed place r ≡ Ok steps → AreTidy steps
placed_tidy place (Ok made) steps h e = subst AreTidy (built_same made.steps steps e) h
placed_tidy place (Err fault) steps h e = cc

steps_tidy : (all : Codes) (block : Block) (place : CodePlace) (task : Task) (steps : Steps) → steps_of all block place task ≡ Ok steps → AreTidy steps
steps_tidy all block place task steps e =
    let setting : Setting = record { codes = all; block = block; role = task.role } in
    placed_tidy place (statements_made setting task.scope 0 task.script) steps (statements_tidy setting task.scope 0 task.script) e

handlers_tidy : (all : Codes) (block : Block) (number n : ℕ) (handlers : List Handler) (programs : List HandlerProgram) → handlers_of all block number n handlers ≡ Ok programs → AllByRecursion (λ h. AreTidy h.steps) programs
handlers_tidy all block number n [] programs e = subst (AllByRecursion (λ h. AreTidy h.steps)) (built_same [] programs e) tt
handlers_tidy all block number n (handler ∷ handlers) programs e =
    let a = built_ok (steps_of all block _ (handler_task all handler)) _ programs e in
    let b = built_ok (handlers_of all block number (n + 1) handlers) _ programs a.2 in
    let one : HandlerProgram = record { event = handler.event; steps = a.0 } in
    subst (AllByRecursion (λ h. AreTidy h.steps)) (built_same (one ∷ b.0) programs b.2) (steps_tidy all block _ (handler_task all handler) a.0 a.1, handlers_tidy all block number (n + 1) handlers b.0 b.1)

methods_tidy : (all : Codes) (block : Block) (number n : ℕ) (methods : List Method) (programs : List MethodProgram) → methods_of all block number n methods ≡ Ok programs → AllByRecursion (λ m. AreTidy m.steps) programs
methods_tidy all block number n [] programs e = subst (AllByRecursion (λ m. AreTidy m.steps)) (built_same [] programs e) tt
methods_tidy all block number n (method ∷ methods) programs e =
    let a = built_ok (steps_of all block _ (method_task method)) _ programs e in
    let b = built_ok (methods_of all block number (n + 1) methods) _ programs a.2 in
    let one : MethodProgram = record { result = method.result; steps = a.0 } in
    subst (AllByRecursion (λ m. AreTidy m.steps)) (built_same (one ∷ b.0) programs b.2) (steps_tidy all block _ (method_task method) a.0 a.1, methods_tidy all block number (n + 1) methods b.0 b.1)

callback_tidy : (all : Codes) (block : Block) (place : CodePlace) (role : Role) (script : Option Statements) (o : Option Steps) → callback_of all block place role script ≡ Ok o → IsTidyScript o
callback_tidy all block place role None o e = subst IsTidyScript (built_same None o e) tt
callback_tidy all block place role (Some script) o e =
    let a = built_ok (steps_of all block place (task_for role script)) _ o e in
    subst IsTidyScript (built_same (Some a.0) o a.2) (steps_tidy all block place (task_for role script) a.0 a.1)

block_tidy : (all : Codes) (n : ℕ) (block : Block) (one : BlockProgram) → block_of all n block ≡ Ok one → IsTidyBlock one
block_tidy all n block one e =
    let a = built_ok (handlers_of all block n 0 block.handlers) _ one e in
    let b = built_ok (methods_of all block n 0 block.methods) _ one a.2 in
    let c = built_ok (callback_of all block _ _ block.exception) _ one b.2 in
    let d = built_ok (callback_of all block _ _ block.rolled_back) _ one c.2 in
    let r = built_ok (callback_of all block _ _ block.remove) _ one d.2 in
    subst IsTidyBlock (built_same _ one r.2) (record {
      handlers = handlers_tidy all block n 0 block.handlers a.0 a.1;
      methods = methods_tidy all block n 0 block.methods b.0 b.1;
      exception = callback_tidy all block _ _ block.exception c.0 c.1;
      rolled_back = callback_tidy all block _ _ block.rolled_back d.0 d.1;
      remove = callback_tidy all block _ _ block.remove r.0 r.1;
    })

blocks_tidy : (all : Codes) (number : ℕ) (blocks : List Block) (program : Program) → blocks_of all number blocks ≡ Ok program → IsTidyProgram program
blocks_tidy all number [] program e = subst IsTidyProgram (built_same [] program e) tt
blocks_tidy all number (block ∷ blocks) program e =
    let a = built_ok (block_of all number block) _ program e in
    let b = built_ok (blocks_of all (number + 1) blocks) _ program a.2 in
    subst IsTidyProgram (built_same (a.0 ∷ b.0) program b.2) (block_tidy all number block a.0 a.1, blocks_tidy all (number + 1) blocks b.0 b.1)

-- all scripts of a checked deployment
pub program_tidy : (all : Codes) (program : Program) → program_of all ≡ Ok program → IsTidyProgram program
program_tidy all program e = blocks_tidy all 0 all.blocks program e
