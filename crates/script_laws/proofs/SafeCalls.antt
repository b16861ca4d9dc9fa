-- Calls of methods of a checked program are safe, and none of its scripts comes to what a checked program doesn't have.
use Rattle.std.proofs.Common.{◌≡◌, ◌+◌, true, false, Bool, ℕ, zero, suc, ◌≤◌, List, [], ◌∷◌, length, map, Option, Some, None, Ok, refl, sym, ap, ◌∙◌, subst}
use native.Mathlib.Omega.{arith}
use Rattle.std.specs.Prelude.{slice_get, cond, codes}
use Rattle.slee_value.specs.declared.ids.EntityId.{EntityId}
use Rattle.slee_value.specs.declared.kind.Kind.{Kind}
use Rattle.slee_effect.specs.declared.reference.Ref.{Ref}
use Rattle.slee_effect.specs.declared.value.Val.{Val}
use Rattle.script_tree.specs.Tree.{Bytes, Statements}
use Rattle.script_types.specs.declared.codes.CodePlace.{CodePlace}
use Rattle.script_types.specs.declared.symbol.Symbol.{Symbol}
use Rattle.script_types.specs.Codes.{Codes, Block, Handler}
use Rattle.script_types.specs.Typing.{Task, handler_task, method_task, task_for}
use Rattle.script_types.specs.TypingExpressions.{Role, OnException, OnRolledBack, OnRemove}
use Rattle.script_types.specs.TypingExpressions as typing
use Rattle.script_types.specs.Scopes.{Scope, with_value}
use Rattle.script_types.specs.Scopes as expected
use Rattle.script_types.specs.Program.{Steps, HandlerProgram, MethodProgram, BlockProgram, Program}
use Rattle.script_types.specs.declared.codes.CodePart.TheVariants as parts
use Rattle.script_types.specs.Programs.{place_of, steps_of, handlers_of, methods_of, callback_of, block_of, blocks_of, program_of}
use Rattle.script_meaning.specs.declared.outcome.Args.{Args}
use Rattle.script_meaning.specs.declared.outcome.Outcome.{Outcome}
use Rattle.script_meaning.specs.declared.outcome.Outcome.TheVariants as outcomes
use Rattle.script_meaning.specs.declared.which.Part.{Part}
use Rattle.script_meaning.specs.declared.which.Part.TheVariants as part
use Rattle.script_meaning.specs.Answers.{Answers, initial}
use Rattle.script_meaning.specs.Running.{Setting, Variable, Holds, State, Ending, Gave, Broke, Needs, Stays, Run, then_run, found, key_limit}
use Rattle.script_meaning.specs.Steps.{Flow, Next, Returned, act_all}
use Rattle.script_meaning.specs.Calls.{apart, keep_result, setting_in, call_at}
use Rattle.script_meaning.specs.Meaning.{Before, Meaning, setting_of, start, report_of, report, meaning_in, steps_of_handler, script_in}
use Rattle.script_laws.specs.Fitting.{Fits, Safe, Keeps, Flows, IsReturned, result_in, SafeCalls, Sound, IsWithin, IsSound}
use Rattle.script_laws.proofs.SafeRuns.{safe_then}
use Rattle.script_laws.proofs.SafePlaces.{some_same}
use Rattle.script_laws.proofs.SafeObserved.{initial_is}
use Rattle.script_laws.proofs.SafeDoing.{declare_safe}
use Rattle.script_laws.proofs.SafePrograms.{built_ok, built_same, IsMade, is_made, made_safe, method_is, block_is, methods_in, found_method, arguments_fit}

-- a method's run, behind which the caller's variables are there again
abbrev Apart : Setting → Option Kind → List Variable → Flow → State → Type 0
Apart given result variables Next st = (st.variables ≡ variables) × IsWithin given st
Apart given result variables (Returned x) st = (st.variables ≡ variables) × IsReturned result x × IsWithin given st

apart_is : (given : Setting) (result : Option Kind) (behind : Scope) (flow : Flow) (variables : List Variable) (new : State) → Flows given result behind flow new → Apart given result variables flow (record new { variables = variables })
apart_is given result behind Next variables new h = (refl, h.1)
apart_is given result behind (Returned x) variables new h = (refl, h.0, h.1)

apart_safe : (given : Setting) (result : Option Kind) (behind : Scope) (variables : List Variable) (run : Run Flow) (st : State) → Safe given (Flows given result behind) (run (record st { variables = variables })) → Safe given (Apart given result st.variables) (apart variables run st)
apart_safe given result behind variables run st h = safe_then given (Flows given result behind) (Apart given result st.variables) (run (record st { variables = variables })) (λ x new. Gave x (record new { variables = st.variables })) h (λ flow new r. apart_is given result behind flow st.variables new r)

kept_safe : (given : Setting) (kind : Kind) (scope : Scope) (local : Bytes) (flow : Flow) (variables : List Variable) (new : State) → Apart given (Some kind) variables flow new → Fits scope variables → Safe given (Keeps given (with_value scope local kind)) (keep_result true flow (Some kind) new)
kept_safe given kind scope local Next variables new h fits = declare_safe given scope (record { name = local; holds = expected.Value kind }) (Holds (initial kind)) new (initial_is kind) (subst (Fits scope) (sym h.0) fits, h.1)
kept_safe given kind scope local (Returned x) variables new h fits = declare_safe given scope (record { name = local; holds = expected.Value kind }) (Holds x) new h.1 (subst (Fits scope) (sym h.0) fits, h.2)

left_safe : (given : Setting) (result : Option Kind) (scope : Scope) (flow : Flow) (variables : List Variable) (new : State) → Apart given result variables flow new → Fits scope variables → Sound given scope new
left_safe given result scope Next variables new h fits = (subst (Fits scope) (sym h.0) fits, h.1)
left_safe given result scope (Returned x) variables new h fits = (subst (Fits scope) (sym h.0) fits, h.2)

abbrev method_run : Setting → Program → ℕ → Ref → List Val → Bool → BlockProgram → MethodProgram → Run (Unit {0})
method_run m program d e xs keeps block method st = then_run (apart (map Holds xs) (act_all (setting_in m block e) (call_at m program d) method.steps) st) (λ flow. keep_result keeps flow method.result)

abbrev block_run : Setting → Program → ℕ → Ref → List Val → Bool → ℕ → BlockProgram → Run (Unit {0})
block_run m program d e xs keeps number block st = then_run (found (slice_get block.methods number) st) (method_run m program d e xs keeps block)

pub calls_safe : (m : Setting) (all : Codes) (program : Program) → program_of all ≡ Ok program → (d : ℕ) (s : typing.Setting) → s.codes ≡ all → SafeCalls m s (call_at m program d)
unfolding call_at
calls_safe m all program e zero s same b name called entity xs scope st h are fits = (fits.1, λ kind local is. fits.1)
calls_safe m all program e (suc d) s same b name called entity xs scope st h are fits =
    let p = found_method (slice_get s.codes.blocks b) name called h in
    let q = block_is all 0 all.blocks program b p.0 e (subst (λ z. slice_get z.blocks b ≡ Some p.0) same p.1) in
    let r = method_is all p.0 q.2 0 0 name p.0.methods q.0.methods called (methods_in all q.2 p.0 q.0 q.3) p.2 in
    let number : called.number ≡ r.place = omega (arith, r.number) in
    let there : slice_get q.0.methods called.number ≡ Some r.program = ap (slice_get q.0.methods) number ∙ r.there in
    let t = made_safe (setting_in m q.0 entity) (call_at m program d) all (method_task called.method) r.program.steps (record st { variables = map Holds xs }) r.steps (λ s2 same2. calls_safe m all program e d s2 same2) (arguments_fit called.method.parameters xs are, fits.1) in
    let run : Run Flow = act_all (setting_in m q.0 entity) (call_at m program d) r.program.steps in
    let apart_run : Safe m (Apart m called.method.result st.variables) (apart (map Holds xs) run st) = apart_safe m called.method.result t.0 (map Holds xs) run st t.1 in (
      subst (λ o. Safe m (Keeps m scope) (then_run (found o st) (block_run m program d entity xs false called.number))) (sym q.1)
          (subst (λ o. Safe m (Keeps m scope) (then_run (found o st) (method_run m program d entity xs false q.0))) (sym there)
          (safe_then m (Apart m called.method.result st.variables) (Keeps m scope) (apart (map Holds xs) run st) (λ flow. keep_result false flow r.program.result) apart_run (λ flow new k. left_safe m called.method.result scope flow st.variables new k fits.0))),
      λ kind local is. subst (λ o. Safe m (Keeps m (with_value scope local kind)) (then_run (found o st) (block_run m program d entity xs true called.number))) (sym q.1)
          (subst (λ o. Safe m (Keeps m (with_value scope local kind)) (then_run (found o st) (method_run m program d entity xs true q.0))) (sym there)
          (subst (λ z. Safe m (Keeps m (with_value scope local kind)) (then_run (apart (map Holds xs) run st) (λ flow. keep_result true flow z))) (sym (r.result ∙ is))
          (safe_then m (Apart m (Some kind) st.variables) (Keeps m (with_value scope local kind)) (apart (map Holds xs) run st) (λ flow. keep_result true flow (Some kind)) (subst (λ z. Safe m (Apart m z st.variables) (apart (map Holds xs) run st)) is apart_run)
          (λ flow new k. kept_safe m kind scope local flow st.variables new k fits.0)))),
    )

-- Steps of a script that isn't a method.
record Script (all : Codes) (steps : Steps) : Type 0 where
  pub task : Task
  pub alone : task.scope ≡ []
  pub made : IsMade all task steps

handler_by : (all : Codes) (block : Block) (number n : ℕ) (x : Handler) (handlers : List Handler) (one : HandlerProgram) (others : List HandlerProgram) (place : ℕ) (program : HandlerProgram) → IsMade all (handler_task all x) one.steps → ((i : ℕ) → slice_get others i ≡ Some program → Script all program.steps) → slice_get (one ∷ others) place ≡ Some program → Script all program.steps
handler_by all block number n x handlers one others zero program made rest h = subst (λ z. Script all z.steps) (some_same one program h) (record { task = handler_task all x; alone = refl; made = made })
handler_by all block number n x handlers one others (suc i) program made rest h = rest i h

handler_is : (all : Codes) (block : Block) (number n : ℕ) (handlers : List Handler) (programs : List HandlerProgram) (place : ℕ) (program : HandlerProgram) → handlers_of all block number n handlers ≡ Ok programs → slice_get programs place ≡ Some program → Script all program.steps
handler_is all block number n [] programs place program e h =
    let none : slice_get [] place ≡ Some program = ap (λ z. slice_get z place) (built_same [] programs e) ∙ h in
    cc
handler_is all block number n (x ∷ handlers) programs place program e h =
    let a = built_ok (steps_of all block _ (handler_task all x)) _ programs e in
    let b = built_ok (handlers_of all block number (n + 1) handlers) _ programs a.2 in
    let one : HandlerProgram = record { event = x.event; steps = a.0 } in
    handler_by all block number n x handlers one b.0 place program (is_made all block _ (handler_task all x) a.0 a.1) (λ i g. handler_is all block number (n + 1) handlers b.0 i program b.1 g) (ap (λ z. slice_get z place) (built_same (one ∷ b.0) programs b.2) ∙ h)

callback_is : (all : Codes) (block : Block) (place : CodePlace) (role : Role) (script : Option Statements) (o : Option Steps) (steps : Steps) → callback_of all block place role script ≡ Ok o → o ≡ Some steps → Script all steps
callback_is all block place role None o steps e h =
    let none : None ≡ Some steps = built_same None o e ∙ h in
    cc
callback_is all block place role (Some script) o steps e h =
    let a = built_ok (steps_of all block place (task_for role script)) _ o e in
    let same : a.0 ≡ steps = some_same a.0 steps (built_same (Some a.0) o a.2 ∙ h) in
    subst (Script all) same (record { task = task_for role script; alone = refl; made = is_made all block place (task_for role script) a.0 a.1 })

handler_steps : (all : Codes) (o : Option HandlerProgram) (steps : Steps) → steps_of_handler o ≡ Some steps → ((program : HandlerProgram) → o ≡ Some program → Script all program.steps) → Script all steps
handler_steps all None steps h go = cc
handler_steps all (Some program) steps h go = subst (Script all) (some_same program.steps steps h) (go program refl)

script_by : (all : Codes) (n : ℕ) (block : Block) (handlers : List HandlerProgram) (methods : List MethodProgram) (exception rolled_back remove : Option Steps) (masks : List (Symbol Bytes)) (one : BlockProgram) (which : Part) (steps : Steps) →
    handlers_of all block n 0 block.handlers ≡ Ok handlers → callback_of all block (place_of n parts.Exception) OnException block.exception ≡ Ok exception → callback_of all block (place_of n parts.RolledBack) OnRolledBack block.rolled_back ≡ Ok rolled_back → callback_of all block (place_of n parts.Remove) OnRemove block.remove ≡ Ok remove →
    (let p : BlockProgram = record { masks = masks; handlers = handlers; methods = methods; exception = exception; rolled_back = rolled_back; remove = remove } in p) ≡ one → script_in one which ≡ Some steps → Script all steps
script_by all n block handlers methods exception rolled_back remove masks one (part.On place) steps e c d r is h =
    handler_steps all (slice_get handlers place) steps (ap (λ z. let w : BlockProgram = z in steps_of_handler (slice_get w.handlers place)) is ∙ h) (λ program g. handler_is all block n 0 block.handlers handlers place program e g)
script_by all n block handlers methods exception rolled_back remove masks one part.Exception steps e c d r is h = callback_is all block _ OnException block.exception exception steps c (ap (λ z. let w : BlockProgram = z in w.exception) is ∙ h)
script_by all n block handlers methods exception rolled_back remove masks one part.RolledBack steps e c d r is h = callback_is all block _ OnRolledBack block.rolled_back rolled_back steps d (ap (λ z. let w : BlockProgram = z in w.rolled_back) is ∙ h)
script_by all n block handlers methods exception rolled_back remove masks one part.Remove steps e c d r is h = callback_is all block _ OnRemove block.remove remove steps r (ap (λ z. let w : BlockProgram = z in w.remove) is ∙ h)

script_is : (all : Codes) (n : ℕ) (block : Block) (one : BlockProgram) (which : Part) (steps : Steps) → block_of all n block ≡ Ok one → script_in one which ≡ Some steps → Script all steps
script_is all n block one which steps e h =
    let a = built_ok (handlers_of all block n 0 block.handlers) _ one e in
    let b = built_ok (methods_of all block n 0 block.methods) _ one a.2 in
    let c = built_ok (callback_of all block _ OnException block.exception) _ one b.2 in
    let d = built_ok (callback_of all block _ OnRolledBack block.rolled_back) _ one c.2 in
    let r = built_ok (callback_of all block _ OnRemove block.remove) _ one d.2 in
    let is = built_same _ one r.2 in
    script_by all n block a.0 b.0 c.0 d.0 r.0 _ one which steps a.1 c.1 d.1 r.1 is h

program_by : (all : Codes) (number : ℕ) (x : Block) (first : BlockProgram) (others : Program) (place : ℕ) (one : BlockProgram) → block_of all number x ≡ Ok first → ((i : ℕ) → slice_get others i ≡ Some one → (block : Block) × (n : ℕ) × (block_of all n block ≡ Ok one)) → slice_get (first ∷ others) place ≡ Some one → (block : Block) × (n : ℕ) × (block_of all n block ≡ Ok one)
program_by all number x first others zero one e rest h = (x, number, subst (λ z. block_of all number x ≡ Ok z) (some_same first one h) e)
program_by all number x first others (suc i) one e rest h = rest i h

-- a block of a program is made of a block of the deployment
program_is : (all : Codes) (number : ℕ) (blocks : List Block) (program : Program) (place : ℕ) (one : BlockProgram) → blocks_of all number blocks ≡ Ok program → slice_get program place ≡ Some one → (block : Block) × (n : ℕ) × (block_of all n block ≡ Ok one)
program_is all number [] program place one e h =
    let none : slice_get [] place ≡ Some one = ap (λ z. slice_get z place) (built_same [] program e) ∙ h in
    cc
program_is all number (x ∷ blocks) program place one e h =
    let a = built_ok (block_of all number x) _ program e in
    let b = built_ok (blocks_of all (number + 1) blocks) _ program a.2 in
    program_by all number x a.0 b.0 place one a.1 (λ i g. program_is all (number + 1) blocks b.0 i one b.1 g) (ap (λ z. slice_get z place) (built_same (a.0 ∷ b.0) program b.2) ∙ h)

done_is : (given : Setting) (before : Before) (outcome : Outcome) (failure : List ℕ) (st : State) → given.keys ≡ before.keys → IsWithin given st → IsSound given.answers before (report_of outcome failure st)
done_is given before outcome failure st same h = (h.0, h.1, subst (λ keys. length keys + length st.keys ≤ key_limit) same h.2)

either_is : (answers : Answers) (before : Before) (b : Bool) (x y : Meaning) → IsSound answers before x → IsSound answers before y → IsSound answers before (cond b x y)
either_is answers before true x y g h = g
either_is answers before false x y g h = h

flow_within : (given : Setting) (result : Option Kind) (scope : Scope) (flow : Flow) (st : State) → Flows given result scope flow st → IsWithin given st
flow_within given result scope Next st h = h.1
flow_within given result scope (Returned x) st h = h.1

report_is : (given : Setting) (before : Before) (result : Option Kind) (scope : Scope) (r : Ending Flow) → given.keys ≡ before.keys → Safe given (Flows given result scope) r → IsSound given.answers before (report r)
report_is given before result scope (Gave flow st) same h =
    let within = flow_within given result scope flow st h in
    either_is given.answers before st.asked (report_of outcomes.Asked (codes "asked") st) (report_of outcomes.Fine [] st) (done_is given before outcomes.Asked (codes "asked") st same within) (done_is given before outcomes.Fine [] st same within)
report_is given before result scope (Broke kind text st) same h = done_is given before (outcomes.Broken kind) text st same h
report_is given before result scope (Needs key) same h = h
report_is given before result scope Stays same h = absurd h

-- what a script of a checked program means is a whole run within its limits, or the first key that has no answer
pub meaning_is_sound : (all : Codes) (program : Program) → program_of all ≡ Ok program → (answers : Answers) (number : ℕ) (block : BlockProgram) (which : Part) (steps : Steps) (e : EntityId) (arguments : Args) (before : Before) → slice_get program number ≡ Some block → script_in block which ≡ Some steps → length before.keys ≤ key_limit → IsSound answers before (meaning_in answers program block steps e arguments before)
unfolding meaning_in
meaning_is_sound all program made answers number block which steps e arguments before there is few =
    let s : Setting = setting_of answers block e arguments before in
    let p = program_is all 0 all.blocks program number block made there in
    let script = script_is all p.1 p.0 block which steps p.2 is in
    let within : IsWithin s start = (omega arith, omega arith, omega (arith, few)) in
    let r = made_safe s (call_at s program 8) all script.task steps start script.made (λ t same. calls_safe s all program made 8 t same) (subst (λ z. Fits z []) (sym script.alone) tt, within) in
    report_is s before (result_in script.task.role) r.0 (act_all s (call_at s program 8) steps start) refl r.1
