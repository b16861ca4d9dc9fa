-- Calls and scripts of the program of a deployment make typed effects.
use Rattle.std.proofs.Common.{◌≡◌, ◌+◌, true, false, Bool, ℕ, zero, suc, List, [], ◌∷◌, ◌++◌, map, Option, Some, Ok, refl, sym, ap, ◌∙◌, subst}
use native.Mathlib.Omega.{arith}
use Rattle.std.specs.Prelude.{slice_get}
use Rattle.slee_value.specs.declared.ids.EntityId.{EntityId}
use Rattle.slee_value.specs.declared.kind.Kind.{Kind}
use Rattle.slee_effect.specs.declared.effect.Effect.{Effect}
use Rattle.slee_effect.specs.declared.reference.Ref.{Ref}
use Rattle.slee_effect.specs.declared.value.Val.{Val}
use Rattle.script_tree.specs.Tree.{Bytes}
use Rattle.script_types.specs.declared.codes.FieldCode.{FieldCode}
use Rattle.script_types.specs.Codes.{Codes, Block}
use Rattle.script_types.specs.TypingExpressions.{InMethod}
use Rattle.script_types.specs.TypingExpressions as typing
use Rattle.script_types.specs.Scopes.{Scope, parameters_in_scope, with_value}
use Rattle.script_types.specs.Scopes as expected
use Rattle.script_types.specs.Program.{Steps, MethodProgram, BlockProgram, Program}
use Rattle.script_types.specs.Programs.{program_of}
use Rattle.script_meaning.specs.Answers.{initial}
use Rattle.script_meaning.specs.Calls.{apart, call_at, keep_result, setting_in}
use Rattle.script_meaning.specs.Meaning.{setting_of, start, script_in}
use Rattle.script_meaning.specs.Running.{Gave, Holds, Run, Setting, found, then_run}
use Rattle.script_meaning.specs.Running as running
use Rattle.script_meaning.specs.Steps.{Calling, Flow, Next, Returned, act_all}
use Rattle.script_meaning.specs.declared.outcome.Args.{Args}
use Rattle.script_meaning.specs.declared.which.Part.{Part}
use Rattle.script_laws.proofs.SafeObserved.{initial_is}
use Rattle.script_laws.proofs.SafePrograms.{arguments_fit, block_is, found_method, methods_in}
use Rattle.script_laws.specs.Fitting.{Fits, IsReturned, IsWithin, result_in}
use Rattle.router_laws.proofs.ListRules.{append_joins, append_nil}
use Rattle.router_laws_suiting.proofs.BlockScripts.{method_of, program_block, script_of}
use Rattle.router_laws_suiting.proofs.TypedBlocks.{does_all, does_then}
use Rattle.router_laws_suiting.proofs.TypedScripts.{GoodCalls, GoodSteps, statements_good}
use Rattle.router_laws_suiting.proofs.Walking.{declare_does, kids_behind_all}
use Rattle.router_laws_suiting.specs.Declared.{Declares, DeclaresAll}
use Rattle.router_laws_suiting.specs.Typed.{AllTyped, frame}
use Rattle.router_laws_suiting.specs.Walks.{Does, GoesOn, IsGood, IsLeft, KidsAre}
use Rattle.router_state.specs.State.{State}
use Rattle.router_state.specs.Well.{IsSound}
use Rattle.router_steps.specs.Scripts.{answers_in}

module _ (s : State) (me own a : ℕ) (sound : IsSound s) (m : Setting) where
  -- the same of a run for another entity, with the same effects before it

  at_child : (r : Ref) (masks : List (List ℕ)) (first : List Effect) (path : List (ℕ × Ref)) (scope : Scope) (st : running.State) → IsGood s me own a m first path scope st → IsGood s me own a (record m { me = r; masks = masks }) first path scope st
  at_child r masks first path scope st good = record { sound = good.sound; left = record { from = good.left.from; typed = good.left.typed; lives = good.left.lives }; kids = good.kids }

  at_root : (r : Ref) (masks : List (List ℕ)) (first : List Effect) (path : List (ℕ × Ref)) (scope : Scope) (st : running.State) → IsGood s me own a (record m { me = r; masks = masks }) first path scope st → IsGood s me own a m first path scope st
  at_root r masks first path scope st good = record { sound = good.sound; left = record { from = good.left.from; typed = good.left.typed; lives = good.left.lives }; kids = good.kids }

  calls_at_child : (r : Ref) (masks : List (List ℕ)) (path : List (ℕ × Ref)) (t : typing.Setting) (call : Calling) → GoodCalls s me own a m path t call → GoodCalls s me own a (record m { me = r; masks = masks }) path t call
  calls_at_child r masks path t call calls first block name called e xs scope st names are good kid =
      let both = calls first block name called e xs scope st names are (at_root r masks first path scope st good) kid in (
        does_all (λ _ su. IsGood s me own a m first path scope su) (λ _ su. IsGood s me own a (record m { me = r; masks = masks }) first path scope su) (call block called.number e xs false st) both.0 (λ _ su held. at_child r masks first path scope su held),
        λ kind local is. does_all (λ _ su. IsGood s me own a m first path (with_value scope local kind) su) (λ _ su. IsGood s me own a (record m { me = r; masks = masks }) first path (with_value scope local kind) su) (call block called.number e xs true st) (both.1 kind local is) (λ _ su held. at_child r masks first path (with_value scope local kind) su held),
      )

  -- arguments are no children
  no_kids : (es : List Effect) (top : ℕ × Ref) (parameters : List FieldCode) (xs : List Val) → KidsAre s es top (parameters_in_scope parameters) (map Holds xs)
  no_kids es top [] xs = tt
  no_kids es top (p ∷ ps) [] = tt
  no_kids es top (p ∷ ps) (x ∷ xs) = (tt, no_kids es top ps xs)

  -- behind a method the caller's variables are there again
  again : (r : Ref) (masks : List (List ℕ)) (first : List Effect) (path : List (ℕ × Ref)) (block : ℕ) (e : Ref) (scope : Scope) (st new : running.State) → IsGood s me own a m first path scope st → IsWithin m new → IsLeft s me own a (record m { me = r; masks = masks }) (m.effects ++ st.effects) ((block, e) ∷ path) new
      → IsGood s me own a m first path scope (record new { variables = st.variables })
  again r masks first path block e scope st new good within left = record {
    sound = (good.sound.0, within);
    left = record {
      from = (good.left.from.0 ++ left.from.0, left.from.1 ∙ ap (λ es. es ++ left.from.0) good.left.from.1 ∙ append_joins first good.left.from.0 left.from.0);
      typed = left.typed;
      lives = left.lives.1;
    };
    kids = subst (λ es. KidsAre s es (frame me own path) scope st.variables) (sym left.from.1) (kids_behind_all s me own a sound (m.effects ++ st.effects) left.from.0 (frame me own path) scope st.variables good.kids);
  }

  -- what a method comes to: its value, with the caller's variables
  abbrev Apart : List Effect → List (ℕ × Ref) → Scope → Option Kind → Flow → running.State → Type 0
  Apart first path scope result Next st = IsGood s me own a m first path scope st
  Apart first path scope result (Returned x) st = IsReturned result x × IsGood s me own a m first path scope st

  apart_is : (r : Ref) (masks : List (List ℕ)) (first : List Effect) (path : List (ℕ × Ref)) (block : ℕ) (e : Ref) (scope behind : Scope) (result : Option Kind) (flow : Flow) (st new : running.State) → IsGood s me own a m first path scope st
      → GoesOn s me own a (record m { me = r; masks = masks }) (m.effects ++ st.effects) ((block, e) ∷ path) result behind flow new → Apart first path scope result flow (record new { variables = st.variables })
  apart_is r masks first path block e scope behind result Next st new good led = again r masks first path block e scope st new good led.sound.1 led.left
  apart_is r masks first path block e scope behind result (Returned x) st new good led = (led.0, again r masks first path block e scope st new good led.1 led.2)

  kept : (first : List Effect) (path : List (ℕ × Ref)) (scope : Scope) (kind : Kind) (local : Bytes) (flow : Flow) (new : running.State) → Apart first path scope (Some kind) flow new → Does (λ _ su. IsGood s me own a m first path (with_value scope local kind) su) (keep_result true flow (Some kind) new)
  kept first path scope kind local Next new held = declare_does s me own a sound m first path scope (record { name = local; holds = expected.Value kind }) (Holds (initial kind)) new (initial_is kind) tt held
  kept first path scope kind local (Returned x) new held = declare_does s me own a sound m first path scope (record { name = local; holds = expected.Value kind }) (Holds x) new held.0 tt held.1

  left_out : (first : List Effect) (path : List (ℕ × Ref)) (scope : Scope) (result : Option Kind) (flow : Flow) (new : running.State) → Apart first path scope result flow new → IsGood s me own a m first path scope new
  left_out first path scope result Next new held = held
  left_out first path scope result (Returned x) new held = held.1

  abbrev method_run : Program → ℕ → Ref → List Val → Bool → BlockProgram → MethodProgram → Run (Unit {0})
  method_run program d e xs keeps block method st = then_run (apart (map Holds xs) (act_all (setting_in m block e) (call_at m program d) method.steps) st) (λ flow. keep_result keeps flow method.result)

  abbrev block_run : Program → ℕ → Ref → List Val → Bool → ℕ → BlockProgram → Run (Unit {0})
  block_run program d e xs keeps number block st = then_run (found (slice_get block.methods number) st) (method_run program d e xs keeps block)

  module _ (answers : m.answers ≡ answers_in s) (acting : m.arguments.activity.0 ≡ a) (all : Codes) (program : Program) (made : program_of all ≡ Ok program) (declares : (n : ℕ) (x : Block) → slice_get all.blocks n ≡ Some x → Declares s.deployment n x) (all_declared : DeclaresAll s.deployment all) where
    -- calls of methods, so many nested
    pub calls_good : (d : ℕ) (path : List (ℕ × Ref)) (t : typing.Setting) → t.codes ≡ all → GoodCalls s me own a m path t (call_at m program d)
    unfolding call_at
    calls_good zero path t same first b name called e xs scope st names are good kid = (tt, λ kind local is. tt)
    calls_good (suc d) path t same first b name called e xs scope st names are good kid =
        let p = found_method (slice_get t.codes.blocks b) name called names in
        let here : slice_get all.blocks b ≡ Some p.0 = subst (λ z. slice_get z.blocks b ≡ Some p.0) same p.1 in
        let q = block_is all 0 all.blocks program b p.0 made here in
        let r = method_of all p.0 q.2 0 0 name p.0.methods q.0.methods called (methods_in all q.2 p.0 q.0 q.3) p.2 in
        let number : called.number ≡ r.place = omega (arith, r.number) in
        let there : slice_get q.0.methods called.number ≡ Some r.program = ap (slice_get q.0.methods) number ∙ r.there in
        let n : Setting = setting_in m q.0 e in
        let t2 : typing.Setting = record { codes = all; block = p.0; role = InMethod called.method.result } in
        let result : Option Kind = called.method.result in
        let begun : List Effect = m.effects ++ st.effects in
        let inner : running.State = record st { variables = map Holds xs } in
        let calls : GoodCalls s me own a n ((b, e) ∷ path) t2 (call_at m program d) = calls_at_child e n.masks ((b, e) ∷ path) t2 (call_at m program d) (calls_good d ((b, e) ∷ path) t2 refl) in
        let steps = subst (GoodSteps s me own a sound n ((b, e) ∷ path) refl answers acting t2 (declares b p.0 here) all_declared (call_at m program d) calls (parameters_in_scope called.method.parameters)) r.steps.found
        (statements_good s me own a sound n ((b, e) ∷ path) refl answers acting t2 (declares b p.0 here) all_declared (call_at m program d) calls (parameters_in_scope called.method.parameters) 0 called.method.script) in
        let begins : IsGood s me own a n begun ((b, e) ∷ path) (parameters_in_scope called.method.parameters) inner = record {
          sound = (arguments_fit called.method.parameters xs are, good.sound.1);
          left = record { from = ([], sym (append_nil begun)); typed = good.left.typed; lives = (kid, good.left.lives) };
          kids = no_kids begun (b, e) called.method.parameters xs;
        } in
        let run : Run Flow = act_all n (call_at m program d) r.program.steps in
        let led : Does (GoesOn s me own a n begun ((b, e) ∷ path) result r.steps.made.scope) (run inner) = subst (λ z. Does (GoesOn s me own a n begun ((b, e) ∷ path) result r.steps.made.scope) (act_all n (call_at m program d) z inner)) r.steps.same (steps begun inner begins) in
        let apart_run : Does (Apart first path scope result) (apart (map Holds xs) run st) =
        does_then (GoesOn s me own a n begun ((b, e) ∷ path) result r.steps.made.scope) (Apart first path scope result) (run inner) (λ flow new. Gave flow (record new { variables = st.variables })) led
        (λ flow new h. apart_is e n.masks first path b e scope r.steps.made.scope result flow st new good h) in (
          subst (λ o. Does (λ _ su. IsGood s me own a m first path scope su) (then_run (found o st) (block_run program d e xs false called.number))) (sym q.1)
              (subst (λ o. Does (λ _ su. IsGood s me own a m first path scope su) (then_run (found o st) (method_run program d e xs false q.0))) (sym there)
              (does_then (Apart first path scope result) (λ _ su. IsGood s me own a m first path scope su) (apart (map Holds xs) run st) (λ flow. keep_result false flow r.program.result) apart_run (λ flow new h. left_out first path scope result flow new h))),
          λ kind local is. subst (λ o. Does (λ _ su. IsGood s me own a m first path (with_value scope local kind) su) (then_run (found o st) (block_run program d e xs true called.number))) (sym q.1)
              (subst (λ o. Does (λ _ su. IsGood s me own a m first path (with_value scope local kind) su) (then_run (found o st) (method_run program d e xs true q.0))) (sym there)
              (subst (λ z. Does (λ _ su. IsGood s me own a m first path (with_value scope local kind) su) (then_run (apart (map Holds xs) run st) (λ flow. keep_result true flow z))) (sym (r.result ∙ is))
              (does_then (Apart first path scope (Some kind)) (λ _ su. IsGood s me own a m first path (with_value scope local kind) su) (apart (map Holds xs) run st) (λ flow. keep_result true flow (Some kind)) (subst (λ z. Does (Apart first path scope z) (apart (map Holds xs) run st)) is apart_run)
              (λ flow new h. kept first path scope kind local flow new h)))),
        )

-- The effects of a script of a checked deployment that gave something are typed for the delivery to its entity.
pub script_typed : (s : State) (own a : ℕ) (e : EntityId) (all : Codes) (program : Program) (block : BlockProgram) (which : Part) (steps : Steps) (arguments : Args) (flow : Flow) (su : running.State) → IsSound s → program_of all ≡ Ok program
    → ((n : ℕ) (x : Block) → slice_get all.blocks n ≡ Some x → Declares s.deployment n x) → DeclaresAll s.deployment all → slice_get program own ≡ Some block → script_in block which ≡ Some steps → arguments.activity.0 ≡ a
    → act_all (setting_of (answers_in s) block e arguments (record { effects = []; keys = [] })) (call_at (setting_of (answers_in s) block e arguments (record { effects = []; keys = [] })) program 8) steps start ≡ Gave flow su → AllTyped s e.0 own a [] su.effects
script_typed s own a e all program block which steps arguments flow su sound made declares all_declared there is acting gave =
    let m : Setting = setting_of (answers_in s) block e arguments (record { effects = []; keys = [] }) in
    let p = program_block all 0 all.blocks program own block made there in
    let script = script_of all p.number p.block block which steps p.made is in
    let t : typing.Setting = record { codes = all; block = p.block; role = script.task.role } in
    let calls = calls_good s e.0 own a sound m refl acting all program made declares all_declared 8 [] t refl in
    let good = subst (GoodSteps s e.0 own a sound m [] refl refl acting t (declares own p.block p.there) all_declared (call_at m program 8) calls script.task.scope) script.made.found
    (statements_good s e.0 own a sound m [] refl refl acting t (declares own p.block p.there) all_declared (call_at m program 8) calls script.task.scope 0 script.task.script) in
    let begins : IsGood s e.0 own a m [] [] script.task.scope start = record {
      sound = (subst (λ z. Fits z []) (sym script.alone) tt, (omega arith, omega arith, omega arith));
      left = record { from = ([], refl); typed = tt; lives = tt };
      kids = subst (λ z. KidsAre s [] (frame e.0 own []) z []) (sym script.alone) tt;
    } in
    let led : Does (GoesOn s e.0 own a m [] [] (result_in script.task.role) script.made.made.scope) (act_all m (call_at m program 8) steps start) = subst (λ z. Does (GoesOn s e.0 own a m [] [] (result_in script.task.role) script.made.made.scope) (act_all m (call_at m program 8) z start)) script.made.same (good [] start begins) in
    ended m (result_in script.task.role) script.made.made.scope flow su (subst (λ z. Does (GoesOn s e.0 own a m [] [] (result_in script.task.role) script.made.made.scope) z) gave led)
  where
    ended : (m : Setting) (result : Option Kind) (scope : Scope) (flow : Flow) (su : running.State) → GoesOn s e.0 own a m [] [] result scope flow su → AllTyped s e.0 own a [] (m.effects ++ su.effects)
    ended m result scope Next su led = led.left.typed
    ended m result scope (Returned x) su led = led.2.typed
