-- The scripts of a program, each with the block of the codes that has it.
use Rattle.std.proofs.Common.{◌≡◌, ◌+◌, true, false, Bool, ℕ, zero, suc, List, [], ◌∷◌, Option, Some, None, Ok, Err, refl, ap, ◌∙◌, subst}
use native.Mathlib.Omega.{arith}
use Rattle.std.specs.Prelude.{slice_get, cond, bytes_eq}
use Rattle.script_tree.specs.Tree.{Bytes, Statements}
use Rattle.script_types.specs.declared.codes.CodePlace.{CodePlace}
use Rattle.script_types.specs.declared.codes.CodePart.TheVariants as parts
use Rattle.script_types.specs.declared.symbol.Symbol.{Symbol}
use Rattle.script_types.specs.Codes.{Codes, Block, Handler, Method}
use Rattle.script_types.specs.Typing.{Task, handler_task, method_task, task_for}
use Rattle.script_types.specs.TypingExpressions.{Role, OnException, OnRemove, OnRolledBack}
use Rattle.script_types.specs.TypingResult.{Checked}
use Rattle.script_types.specs.ElaborationOfStatements.{MadeAll, MethodAt, method_from, statements_made}
use Rattle.script_types.specs.Program.{Steps, HandlerProgram, MethodProgram, BlockProgram, Program}
use Rattle.script_types.specs.Programs.{block_of, blocks_of, callback_of, handlers_of, methods_of, place_of, placed, steps_of}
use Rattle.script_meaning.specs.Meaning.{script_in, steps_of_handler}
use Rattle.script_meaning.specs.declared.which.Part.{Part}
use Rattle.script_meaning.specs.declared.which.Part.TheVariants as part
use Rattle.script_laws.proofs.SafePlaces.{some_same}
use Rattle.script_laws.proofs.SafePrograms.{built_ok, built_same}

-- Steps that a check of a script of the block found.
pub record IsMadeOf (all : Codes) (block : Block) (task : Task) (steps : Steps) : Type 0 where
  pub made : MadeAll
  pub found : statements_made (record { codes = all; block = block; role = task.role }) task.scope 0 task.script ≡ Ok made
  pub same : made.steps ≡ steps

placed_is : (place : CodePlace) (r : Checked MadeAll) (steps : Steps) → placed place r ≡ Ok steps → (made : MadeAll) × (r ≡ Ok made) × (made.steps ≡ steps)
placed_is place (Ok made) steps h = (made, refl, built_same made.steps steps h)
placed_is place (Err fault) steps h = cc

is_made_of : (all : Codes) (block : Block) (place : CodePlace) (task : Task) (steps : Steps) → steps_of all block place task ≡ Ok steps → IsMadeOf all block task steps
is_made_of all block place task steps h =
    let p = placed_is place (statements_made (record { codes = all; block = block; role = task.role }) task.scope 0 task.script) steps h in
    record { made = p.0; found = p.1; same = p.2 }

-- a method that a check finds has its program in its place
pub record MethodOf (all : Codes) (block : Block) (found : MethodAt) (methods : List MethodProgram) (first : ℕ) : Type 0 where
  pub place : ℕ
  pub number : found.number ≡ first + place
  pub program : MethodProgram
  pub there : slice_get methods place ≡ Some program
  pub result : program.result ≡ found.method.result
  pub steps : IsMadeOf all block (method_task found.method) program.steps

method_by : (all : Codes) (block : Block) (b : Bool) (first : ℕ) (name : Bytes) (method : Method) (methods : List Method) (found : MethodAt) (program : MethodProgram) (programs : List MethodProgram) → cond b (Some (record { number = first; method = method })) (method_from (first + 1) name methods) ≡ Some found → program.result ≡ method.result
    → IsMadeOf all block (method_task method) program.steps → (method_from (first + 1) name methods ≡ Some found → MethodOf all block found programs (first + 1)) → MethodOf all block found (program ∷ programs) first
method_by all block true first name method methods found program programs h same made rest =
    let is : (let one : MethodAt = record { number = first; method = method } in one) ≡ found = some_same _ found h in
    subst (λ z. MethodOf all block z (program ∷ programs) first) is (record { place = 0; number = omega arith; program = program; there = refl; result = same; steps = made })
method_by all block false first name method methods found program programs h same made rest =
    let r = rest h in
    record { place = suc r.place; number = omega (arith, r.number); program = r.program; there = r.there; result = r.result; steps = r.steps }

pub method_of : (all : Codes) (block : Block) (number n first : ℕ) (name : Bytes) (methods : List Method) (programs : List MethodProgram) (found : MethodAt) → methods_of all block number n methods ≡ Ok programs → method_from first name methods ≡ Some found → MethodOf all block found programs first
method_of all block number n first name [] programs found e h = cc
method_of all block number n first name (method ∷ methods) programs found e h =
    let a = built_ok (steps_of all block _ (method_task method)) _ programs e in
    let b = built_ok (methods_of all block number (n + 1) methods) _ programs a.2 in
    let program : MethodProgram = record { result = method.result; steps = a.0 } in
    subst (λ z. MethodOf all block found z first) (built_same (program ∷ b.0) programs b.2)
    (method_by all block (bytes_eq method.name name) first name method methods found program b.0 h refl (is_made_of all block _ (method_task method) a.0 a.1) (λ g. method_of all block number (n + 1) (first + 1) name methods b.0 found b.1 g))

-- Steps of a script that isn't a method.
pub record ScriptOf (all : Codes) (block : Block) (steps : Steps) : Type 0 where
  pub task : Task
  pub alone : task.scope ≡ []
  pub made : IsMadeOf all block task steps

handler_by : (all : Codes) (block : Block) (x : Handler) (one : HandlerProgram) (others : List HandlerProgram) (place : ℕ) (program : HandlerProgram) → IsMadeOf all block (handler_task all x) one.steps → ((i : ℕ) → slice_get others i ≡ Some program → ScriptOf all block program.steps) → slice_get (one ∷ others) place ≡ Some program → ScriptOf all block program.steps
handler_by all block x one others zero program made rest h = subst (λ z. ScriptOf all block z.steps) (some_same one program h) (record { task = handler_task all x; alone = refl; made = made })
handler_by all block x one others (suc i) program made rest h = rest i h

handler_is : (all : Codes) (block : Block) (number n : ℕ) (handlers : List Handler) (programs : List HandlerProgram) (place : ℕ) (program : HandlerProgram) → handlers_of all block number n handlers ≡ Ok programs → slice_get programs place ≡ Some program → ScriptOf all block program.steps
handler_is all block number n [] programs place program e h =
    let none : slice_get [] place ≡ Some program = ap (λ z. slice_get z place) (built_same [] programs e) ∙ h in
    cc
handler_is all block number n (x ∷ handlers) programs place program e h =
    let a = built_ok (steps_of all block _ (handler_task all x)) _ programs e in
    let b = built_ok (handlers_of all block number (n + 1) handlers) _ programs a.2 in
    let one : HandlerProgram = record { event = x.event; steps = a.0 } in
    handler_by all block x one b.0 place program (is_made_of all block _ (handler_task all x) a.0 a.1) (λ i g. handler_is all block number (n + 1) handlers b.0 i program b.1 g) (ap (λ z. slice_get z place) (built_same (one ∷ b.0) programs b.2) ∙ h)

callback_is : (all : Codes) (block : Block) (place : CodePlace) (role : Role) (script : Option Statements) (o : Option Steps) (steps : Steps) → callback_of all block place role script ≡ Ok o → o ≡ Some steps → ScriptOf all block steps
callback_is all block place role None o steps e h =
    let none : None ≡ Some steps = built_same None o e ∙ h in
    cc
callback_is all block place role (Some script) o steps e h =
    let a = built_ok (steps_of all block place (task_for role script)) _ o e in
    let same : a.0 ≡ steps = some_same a.0 steps (built_same (Some a.0) o a.2 ∙ h) in
    subst (ScriptOf all block) same (record { task = task_for role script; alone = refl; made = is_made_of all block place (task_for role script) a.0 a.1 })

handler_steps : (all : Codes) (block : Block) (o : Option HandlerProgram) (steps : Steps) → steps_of_handler o ≡ Some steps → ((program : HandlerProgram) → o ≡ Some program → ScriptOf all block program.steps) → ScriptOf all block steps
handler_steps all block None steps h go = cc
handler_steps all block (Some program) steps h go = subst (ScriptOf all block) (some_same program.steps steps h) (go program refl)

script_by : (all : Codes) (n : ℕ) (block : Block) (handlers : List HandlerProgram) (methods : List MethodProgram) (exception rolled_back remove : Option Steps) (masks : List (Symbol Bytes)) (one : BlockProgram) (which : Part) (steps : Steps) →
    handlers_of all block n 0 block.handlers ≡ Ok handlers → callback_of all block (place_of n parts.Exception) OnException block.exception ≡ Ok exception → callback_of all block (place_of n parts.RolledBack) OnRolledBack block.rolled_back ≡ Ok rolled_back → callback_of all block (place_of n parts.Remove) OnRemove block.remove ≡ Ok remove →
    (let p : BlockProgram = record { masks = masks; handlers = handlers; methods = methods; exception = exception; rolled_back = rolled_back; remove = remove } in p) ≡ one → script_in one which ≡ Some steps → ScriptOf all block steps
script_by all n block handlers methods exception rolled_back remove masks one (part.On place) steps e c d r is h =
    handler_steps all block (slice_get handlers place) steps (ap (λ z. let w : BlockProgram = z in steps_of_handler (slice_get w.handlers place)) is ∙ h) (λ program g. handler_is all block n 0 block.handlers handlers place program e g)
script_by all n block handlers methods exception rolled_back remove masks one part.Exception steps e c d r is h = callback_is all block _ OnException block.exception exception steps c (ap (λ z. let w : BlockProgram = z in w.exception) is ∙ h)
script_by all n block handlers methods exception rolled_back remove masks one part.RolledBack steps e c d r is h = callback_is all block _ OnRolledBack block.rolled_back rolled_back steps d (ap (λ z. let w : BlockProgram = z in w.rolled_back) is ∙ h)
script_by all n block handlers methods exception rolled_back remove masks one part.Remove steps e c d r is h = callback_is all block _ OnRemove block.remove remove steps r (ap (λ z. let w : BlockProgram = z in w.remove) is ∙ h)

pub script_of : (all : Codes) (n : ℕ) (block : Block) (one : BlockProgram) (which : Part) (steps : Steps) → block_of all n block ≡ Ok one → script_in one which ≡ Some steps → ScriptOf all block steps
script_of all n block one which steps e h =
    let a = built_ok (handlers_of all block n 0 block.handlers) _ one e in
    let b = built_ok (methods_of all block n 0 block.methods) _ one a.2 in
    let c = built_ok (callback_of all block _ OnException block.exception) _ one b.2 in
    let d = built_ok (callback_of all block _ OnRolledBack block.rolled_back) _ one c.2 in
    let r = built_ok (callback_of all block _ OnRemove block.remove) _ one d.2 in
    let is = built_same _ one r.2 in
    script_by all n block a.0 b.0 c.0 d.0 r.0 _ one which steps a.1 c.1 d.1 r.1 is h

-- A block of a program is made of the block of the codes in its place.
pub record BlockOf (all : Codes) (blocks : List Block) (place : ℕ) (one : BlockProgram) : Type 0 where
  pub block : Block
  pub there : slice_get blocks place ≡ Some block
  pub number : ℕ
  pub made : block_of all number block ≡ Ok one

program_by : (all : Codes) (number : ℕ) (x : Block) (blocks : List Block) (first : BlockProgram) (others : Program) (place : ℕ) (one : BlockProgram) → block_of all number x ≡ Ok first → ((i : ℕ) → slice_get others i ≡ Some one → BlockOf all blocks i one) → slice_get (first ∷ others) place ≡ Some one → BlockOf all (x ∷ blocks) place one
program_by all number x blocks first others zero one e rest h = record { block = x; there = refl; number = number; made = subst (λ z. block_of all number x ≡ Ok z) (some_same first one h) e }
program_by all number x blocks first others (suc i) one e rest h = let r = rest i h in record { block = r.block; there = r.there; number = r.number; made = r.made }

pub program_block : (all : Codes) (number : ℕ) (blocks : List Block) (program : Program) (place : ℕ) (one : BlockProgram) → blocks_of all number blocks ≡ Ok program → slice_get program place ≡ Some one → BlockOf all blocks place one
program_block all number [] program place one e h =
    let none : slice_get [] place ≡ Some one = ap (λ z. slice_get z place) (built_same [] program e) ∙ h in
    cc
program_block all number (x ∷ blocks) program place one e h =
    let a = built_ok (block_of all number x) _ program e in
    let b = built_ok (blocks_of all (number + 1) blocks) _ program a.2 in
    program_by all number x blocks a.0 b.0 place one a.1 (λ i g. program_block all (number + 1) blocks b.0 i one b.1 g) (ap (λ z. slice_get z place) (built_same (a.0 ∷ b.0) program b.2) ∙ h)
