-- The program of a deployment: calls of methods are safe in it, and so are its scripts.
use Rattle.std.proofs.Common.{◌≡◌, ◌+◌, true, false, Bool, ℕ, zero, suc, List, [], ◌∷◌, map, Option, Some, None, Ok, Err, refl, sym, ap, ◌∙◌, subst}
use native.Mathlib.Omega.{arith}
use Rattle.std.specs.Prelude.{slice_get, cond, bytes_eq, option_and_then}
use Rattle.slee_effect.specs.declared.value.Val.{Val}
use Rattle.script_tree.specs.Tree.{Bytes}
use Rattle.script_types.specs.declared.codes.FieldCode.{FieldCode}
use Rattle.script_types.specs.declared.codes.CodePlace.{CodePlace}
use Rattle.script_types.specs.Codes.{Codes, Block, Method}
use Rattle.script_types.specs.Typing.{Task, method_task}
use Rattle.script_types.specs.TypingExpressions.{Role, InMethod}
use Rattle.script_types.specs.TypingExpressions as typing
use Rattle.script_types.specs.TypingResult.{Checked}
use Rattle.script_types.specs.Scopes.{Scope, parameters_in_scope}
use Rattle.script_types.specs.ElaborationOfStatements.{MadeAll, MethodAt, method_from, statements_made}
use Rattle.script_types.specs.Program.{Steps, MethodProgram, BlockProgram, Program}
use Rattle.script_types.specs.Programs.{Built, placed, steps_of, place_of, handlers_of, methods_of, callback_of, block_of, blocks_of, program_of}
use Rattle.script_types.specs.Programs as built
use Rattle.script_meaning.specs.Running.{Setting, Holds, State, found}
use Rattle.script_meaning.specs.Steps.{Calling, act_all}
use Rattle.script_laws.specs.Fitting.{Fits, Safe, Flows, result_in, AreOf, SafeCalls, Sound}
use Rattle.script_laws.proofs.SafePlaces.{some_same}
use Rattle.script_laws.proofs.SafeScripts.{DoesAll, GoodSteps, statements_good}

pub built_ok : {A B : Type 0} (r : Built A) (g : A → Built B) (y : B) → (built.◌>>=◌ r g) ≡ Ok y → (x : A) × (r ≡ Ok x) × (g x ≡ Ok y)
built_ok (Ok x) g y h = (x, refl, h)
built_ok (Err fault) g y h = cc

pub built_same : {A : Type 0} (x y : A) → (let r : Built A = Ok x in r) ≡ Ok y → x ≡ y
built_same x y h = cc

placed_is : (place : CodePlace) (r : Checked MadeAll) (steps : Steps) → placed place r ≡ Ok steps → (made : MadeAll) × (r ≡ Ok made) × (made.steps ≡ steps)
placed_is place (Ok made) steps h = (made, refl, built_same made.steps steps h)
placed_is place (Err fault) steps h = cc

-- Steps that a check of a script of the block found.
pub record IsMade (all : Codes) (task : Task) (steps : Steps) : Type 0 where
  pub block : Block
  pub made : MadeAll
  pub found : statements_made (record { codes = all; block = block; role = task.role }) task.scope 0 task.script ≡ Ok made
  pub same : made.steps ≡ steps

pub is_made : (all : Codes) (block : Block) (place : CodePlace) (task : Task) (steps : Steps) → steps_of all block place task ≡ Ok steps → IsMade all task steps
is_made all block place task steps h =
    let p = placed_is place (statements_made (record { codes = all; block = block; role = task.role }) task.scope 0 task.script) steps h in
    record { block = block; made = p.0; found = p.1; same = p.2 }

-- steps that a check found are safe
pub made_safe : (m : Setting) (call : Calling) (all : Codes) (task : Task) (steps : Steps) (st : State) → IsMade all task steps → ((s : typing.Setting) → s.codes ≡ all → SafeCalls m s call) → Sound m task.scope st → (behind : Scope) × Safe m (Flows m (result_in task.role) behind) (act_all m call steps st)
made_safe m call all task steps st p safe fits =
    let s : typing.Setting = record { codes = all; block = p.block; role = task.role } in
    let good : DoesAll m call (result_in task.role) task.scope p.made.scope p.made.steps = subst (GoodSteps m call (result_in task.role) task.scope) p.found (statements_good m call s (safe s refl) task.scope 0 task.script) in
    (p.made.scope, subst (λ z. Safe m (Flows m (result_in task.role) p.made.scope) (act_all m call z st)) p.same (good st fits))

-- a method that a check finds has its program in its place
pub record MethodIs (all : Codes) (found : MethodAt) (methods : List MethodProgram) (first : ℕ) : Type 0 where
  pub place : ℕ
  pub number : found.number ≡ first + place
  pub program : MethodProgram
  pub there : slice_get methods place ≡ Some program
  pub result : program.result ≡ found.method.result
  pub steps : IsMade all (method_task found.method) program.steps

method_by : (all : Codes) (b : Bool) (first : ℕ) (name : Bytes) (method : Method) (methods : List Method) (found : MethodAt) (program : MethodProgram) (programs : List MethodProgram) → cond b (Some (record { number = first; method = method })) (method_from (first + 1) name methods) ≡ Some found → program.result ≡ method.result → IsMade all (method_task method) program.steps → (method_from (first + 1) name methods ≡ Some found → MethodIs all found programs (first + 1)) → MethodIs all found (program ∷ programs) first
method_by all true first name method methods found program programs h same made rest =
    let is : (let one : MethodAt = record { number = first; method = method } in one) ≡ found = some_same _ found h in
    subst (λ z. MethodIs all z (program ∷ programs) first) is (record { place = 0; number = omega arith; program = program; there = refl; result = same; steps = made })
method_by all false first name method methods found program programs h same made rest =
    let r = rest h in
    record { place = suc r.place; number = omega (arith, r.number); program = r.program; there = r.there; result = r.result; steps = r.steps }

pub method_is : (all : Codes) (block : Block) (number n first : ℕ) (name : Bytes) (methods : List Method) (programs : List MethodProgram) (found : MethodAt) → methods_of all block number n methods ≡ Ok programs → method_from first name methods ≡ Some found → MethodIs all found programs first
method_is all block number n first name [] programs found e h = cc
method_is all block number n first name (method ∷ methods) programs found e h =
    let a = built_ok (steps_of all block _ (method_task method)) _ programs e in
    let b = built_ok (methods_of all block number (n + 1) methods) _ programs a.2 in
    let program : MethodProgram = record { result = method.result; steps = a.0 } in
    subst (λ z. MethodIs all found z first) (built_same (program ∷ b.0) programs b.2)
    (method_by all (bytes_eq method.name name) first name method methods found program b.0 h refl (is_made all block _ (method_task method) a.0 a.1) (λ g. method_is all block number (n + 1) (first + 1) name methods b.0 found b.1 g))

-- a block has its program in its place
pub block_is : (all : Codes) (number : ℕ) (blocks : List Block) (program : Program) (place : ℕ) (block : Block) → blocks_of all number blocks ≡ Ok program → slice_get blocks place ≡ Some block → (one : BlockProgram) × (slice_get program place ≡ Some one) × (n : ℕ) × (block_of all n block ≡ Ok one)
block_is all number [] program place block e h = cc
block_is all number (x ∷ blocks) program zero block e h =
    let a = built_ok (block_of all number x) _ program e in
    let b = built_ok (blocks_of all (number + 1) blocks) _ program a.2 in
    (a.0, ap (λ z. slice_get z 0) (sym (built_same (a.0 ∷ b.0) program b.2)), number, subst (λ z. block_of all number z ≡ Ok a.0) (some_same x block h) a.1)
block_is all number (x ∷ blocks) program (suc place) block e h =
    let a = built_ok (block_of all number x) _ program e in
    let b = built_ok (blocks_of all (number + 1) blocks) _ program a.2 in
    let r = block_is all (number + 1) blocks b.0 place block b.1 h in
    (r.0, ap (λ z. slice_get z (suc place)) (sym (built_same (a.0 ∷ b.0) program b.2)) ∙ r.1, r.2, r.3)

pub methods_in : (all : Codes) (n : ℕ) (block : Block) (one : BlockProgram) → block_of all n block ≡ Ok one → methods_of all block n 0 block.methods ≡ Ok one.methods
methods_in all n block one e =
    let a = built_ok (handlers_of all block n 0 block.handlers) _ one e in
    let b = built_ok (methods_of all block n 0 block.methods) _ one a.2 in
    let c = built_ok (callback_of all block _ _ block.exception) _ one b.2 in
    let d = built_ok (callback_of all block _ _ block.rolled_back) _ one c.2 in
    let r = built_ok (callback_of all block _ _ block.remove) _ one d.2 in
    b.1 ∙ ap (λ z. let w : BlockProgram = z in (let k : Built (List MethodProgram) = Ok w.methods in k)) (built_same _ one r.2)

pub found_method : (o : Option Block) (name : Bytes) (called : MethodAt) → option_and_then (λ b. method_from 0 name b.methods) o ≡ Some called → (block : Block) × (o ≡ Some block) × (method_from 0 name block.methods ≡ Some called)
found_method None name called h = cc
found_method (Some block) name called h = (block, refl, h)

-- arguments are the first variables of a method
pub arguments_fit : (parameters : List FieldCode) (xs : List Val) → AreOf parameters xs → Fits (parameters_in_scope parameters) (map Holds xs)
arguments_fit [] [] h = tt
arguments_fit [] (x ∷ xs) h = absurd h
arguments_fit (p ∷ ps) [] h = absurd h
arguments_fit (p ∷ ps) (x ∷ xs) h = (h.0, arguments_fit ps xs h.1)
