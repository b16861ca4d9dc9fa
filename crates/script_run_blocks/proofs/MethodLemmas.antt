-- Calls of methods: what stands before one, and the method itself.
use Rattle.std.proofs.Common.{◌≡◌, ◌-◌, ℕ, zero, suc, List, map, Option, Some, None, Result, refl, sym, ap, ◌∙◌, subst, arith}
use Rattle.std.specs.Prelude.{slice_get, option_map}
use Rattle.std.proofs.lemmas.Option.{slice_get-map}
use Rattle.slee_effect.specs.declared.reference.Ref.{Ref}
use Rattle.slee_effect.specs.declared.value.Val.{Val}
use Rattle.script_types.specs.declared.checked_step.Call.{Call as CallInMemory}
use Rattle.script_types.specs.declared.checked_script.BlockSteps.{BlockSteps}
use Rattle.script_types.specs.declared.checked_script.MethodSteps.{MethodSteps}
use Rattle.script_types.specs.ProgramOf.{term_of, steps_of, call_of, block_program_of, method_program_of}
use Rattle.script_types.specs.Program.{Program, BlockProgram, MethodProgram}
use Rattle.script_meaning.specs.Running.{Setting, State, Ending, Gave, Broke, Needs, Stays, Run, Variable, Holds, then_run, give, found, ◌>>=◌}
use Rattle.script_meaning.specs.Observing as read
use Rattle.script_meaning.specs.Steps.{Flow, Next, Calling, act_all, arguments_of, next}
use Rattle.script_meaning.specs.Calls.{apart, keep_result, setting_in, call_at}
use Rattle.script_run_machine.specs.declared.stop.Stop.{Stop}
use Rattle.script_run_machine.specs.Agreeing.{Stops, EndsAs}
use Rattle.script_run_machine.specs.Machines.{MachineState}
use Rattle.script_types.specs.declared.checked_step.Step.{Step as StepInMemory}
use Rattle.script_run_steps.specs.declared.flow.Flow.{Flow as FlowInMemory}
use Rattle.script_run_steps.specs.Flows.{flow_of}
use Rattle.script_run_terms.proofs.RunLemmas.{stops_then}
use Rattle.script_run_blocks.specs.declared.stage.Stage.{Stage}
use Rattle.script_run_blocks.specs.Stages.{given, program_of, all_in, invokes, deeper, prepares, enters}
use Rattle.script_run_blocks.proofs.StepLemmas.{ends_as}

-- a call within a call is the same as from outside
call_within : (s : Setting) (program : Program) (block : BlockProgram) (e : Ref) (depth : ℕ) → call_at (setting_in s block e) program depth ≡ call_at s program depth
unfolding call_at
call_within s program block e zero = refl
call_within s program block e (suc more) =
    let step : Calling → Calling = λ inner b m e xs keeps. found (slice_get program b) >>= (λ block. found (slice_get block.methods m) >>= (λ method. apart (map Holds xs) (act_all (setting_in s block e) inner method.steps) >>= (λ flow. keep_result keeps flow method.result))) in
    ap step (call_within s program block e more)

module _ (stage : Stage) (c : CallInMemory) where
  abbrev arguments : Run (List Val)
  arguments = arguments_of (given stage) (map term_of c.arguments.items)

  abbrev called : ℕ → Ref → List Val → Run (Unit {0})
  called depth e xs = call_at (given stage) (program_of stage) depth c.block c.method e xs c.keeps

  abbrev enters_with : ℕ → Ref × List Variable → Run Flow
  enters_with depth x = enters stage (depth - 1) c x.0 x.1

  deep : (depth : ℕ) (e : Ref) (xs : List Val) (st : State) → then_run (called depth e xs st) (λ _. give Next) ≡ then_run (then_run (deeper depth st) (λ _. give (e, map Holds xs))) (enters_with depth)
  unfolding call_at enters
  deep zero e xs st = refl
  deep (suc more) e xs st = let z : suc more - 1 ≡ more = omega arith in rw z refl

  behind_arguments : (depth : ℕ) (e : Ref) (r : Ending (List Val)) → then_run (then_run r (λ xs. called depth e xs)) (λ _. give Next) ≡ then_run (then_run (then_run r (λ xs. give (map Holds xs))) (λ variables st. then_run (deeper depth st) (λ _. give (e, variables)))) (enters_with depth)
  behind_arguments depth e (Gave xs st) = deep depth e xs st
  behind_arguments depth e (Broke kind text st) = refl
  behind_arguments depth e (Needs key) = refl
  behind_arguments depth e Stays = refl

  behind_child : (depth : ℕ) (r : Ending Ref) → then_run (then_run r (λ e st. then_run (arguments st) (λ xs. called depth e xs))) (λ _. give Next) ≡ then_run (then_run r (λ e st. then_run (then_run (arguments st) (λ xs. give (map Holds xs))) (λ variables st. then_run (deeper depth st) (λ _. give (e, variables))))) (enters_with depth)
  behind_child depth (Gave e st) = behind_arguments depth e (arguments st)
  behind_child depth (Broke kind text st) = refl
  behind_child depth (Needs key) = refl
  behind_child depth Stays = refl

  -- what a call does, behind its arguments
  pub invoke_is : (depth : ℕ) (st : State) → invokes stage depth (call_of c) st ≡ then_run (prepares (given stage) depth c st) (enters_with depth)
  unfolding invokes
  invoke_is depth st = behind_child depth (read.child (given stage) c.child st)

  -- what stops the arguments stops the call
  pub invoke_stops : (depth : ℕ) (st : State) (new : MachineState) (e : Stop) → Stops (prepares (given stage) depth c st) new e → Stops (invokes stage depth (call_of c) st) new e
  invoke_stops depth st new e h =
      subst (λ (m : Ending Flow). Stops m new e) (sym (invoke_is depth st)) (stops_then (prepares (given stage) depth c st) (enters_with depth) new e h)

  pub invoke_enters : (depth : ℕ) (st mid : State) (new : MachineState) (e : Ref) (variables : List Variable) (result : Result FlowInMemory Stop) → prepares (given stage) depth c st ≡ Gave (e, variables) mid → EndsAs flow_of (enters stage (depth - 1) c e variables mid) new result → EndsAs flow_of (invokes stage depth (call_of c) st) new result
  invoke_enters depth st mid new e variables result given h =
      ends_as (invokes stage depth (call_of c) st) (enters stage (depth - 1) c e variables mid) new result (invoke_is depth st ∙ ap (λ r. then_run r (enters_with depth)) given) h

  module _ (more : ℕ) (e : Ref) (variables : List Variable) (st : State) where
    abbrev runs : BlockProgram → MethodProgram → Run (Unit {0})
    runs block method = apart variables (act_all (setting_in (given stage) block e) (call_at (given stage) (program_of stage) more) method.steps) >>= (λ flow. keep_result c.keeps flow method.result)

    abbrev with_method : BlockProgram → Option MethodProgram → Ending Flow
    with_method block o = then_run (then_run (found o st) (runs block)) (λ _. give Next)

    abbrev with_block : Option BlockProgram → Ending Flow
    with_block o = then_run (then_run (found o st) (λ block. found (slice_get block.methods c.method) >>= runs block)) (λ _. give Next)

    enters_block : enters stage more c e variables st ≡ with_block (slice_get (program_of stage) c.block)
    unfolding enters
    enters_block = refl

    got : (o : Option BlockSteps) → slice_get stage.blocks.now c.block ≡ o → enters stage more c e variables st ≡ with_block (option_map block_program_of o)
    got o is = enters_block ∙ ap with_block (slice_get-map block_program_of stage.blocks.now c.block ∙ ap (option_map block_program_of) is)

    -- no such block
    pub no_block : slice_get stage.blocks.now c.block ≡ None → enters stage more c e variables st ≡ Stays
    no_block is = got None is

    got_method : (block : BlockSteps) (o : Option MethodSteps) → slice_get stage.blocks.now c.block ≡ Some block → slice_get block.methods c.method ≡ o → enters stage more c e variables st ≡ with_method (block_program_of block) (option_map method_program_of o)
    got_method block o is own = got (Some block) is ∙ ap (with_method (block_program_of block)) (slice_get-map method_program_of block.methods c.method ∙ ap (option_map method_program_of) own)

    -- no such method
    pub no_method : (block : BlockSteps) (methods : List MethodSteps) → slice_get stage.blocks.now c.block ≡ Some block → methods ≡ block.methods → slice_get methods c.method ≡ None → enters stage more c e variables st ≡ Stays
    no_method block methods is all own = got_method block None is (ap (λ (l : List MethodSteps). slice_get l c.method) (sym all) ∙ own)

    module _ (inner : Stage) (block : BlockSteps) (method : MethodSteps) where
      within : given inner ≡ setting_in (given stage) (block_program_of block) e → program_of inner ≡ program_of stage → act_all (setting_in (given stage) (block_program_of block) e) (call_at (given stage) (program_of stage) more) (steps_of method.steps) ≡ all_in inner more (steps_of method.steps)
      unfolding all_in
      within there same =
          let s : Setting = setting_in (given stage) (block_program_of block) e in
          let run : Setting → Program → Run Flow = λ s program. act_all s (call_at s program more) (steps_of method.steps) in
          sym (ap (λ s. run s (program_of inner)) there ∙ ap (run s) same ∙ ap (λ call. act_all s call (steps_of method.steps)) (call_within (given stage) (program_of stage) (block_program_of block) e more))

      abbrev back : Flow → Run Flow
      back flow new = Gave flow (record new { variables = st.variables })

      abbrev keeps_behind : Ending Flow → Ending Flow
      keeps_behind r = then_run (then_run (then_run r back) (λ flow. keep_result c.keeps flow method.result)) (λ _. give Next)

      -- the method, with variables of its own
      enters_is : slice_get stage.blocks.now c.block ≡ Some block → slice_get block.methods c.method ≡ Some method → given inner ≡ setting_in (given stage) (block_program_of block) e → program_of inner ≡ program_of stage → enters stage more c e variables st ≡ keeps_behind (all_in inner more (steps_of method.steps) (record st { variables = variables }))
      enters_is is own there same =
          got_method block (Some method) is own ∙ ap (λ (m : Run Flow). keeps_behind (m (record st { variables = variables }))) (within there same)

      -- the same of what code has at hand
      pub record AtHand (methods : List MethodSteps) (steps : List StepInMemory) (started : State) : Type 0 where
        pub block_is : slice_get stage.blocks.now c.block ≡ Some block
        pub methods_are : methods ≡ block.methods
        pub method_is : slice_get methods c.method ≡ Some method
        pub steps_are : steps ≡ method.steps
        pub there : given inner ≡ setting_in (given stage) (block_program_of block) e
        pub same : program_of inner ≡ program_of stage
        pub starts : started ≡ (record st { variables = variables })

      runs_at_hand : (methods : List MethodSteps) (steps : List StepInMemory) (started : State) → AtHand methods steps started → enters stage more c e variables st ≡ keeps_behind (all_in inner more (steps_of steps) started)
      runs_at_hand methods steps started h =
          let own : slice_get block.methods c.method ≡ Some method = ap (λ (l : List MethodSteps). slice_get l c.method) (sym h.methods_are) ∙ h.method_is in
          enters_is h.block_is own h.there h.same
          ∙ ap (λ (l : List StepInMemory). keeps_behind (all_in inner more (steps_of l) (record st { variables = variables }))) (sym h.steps_are)
          ∙ ap (λ (s : State). keeps_behind (all_in inner more (steps_of steps) s)) (sym h.starts)

      -- what stops the method stops the call
      pub method_stops : (methods : List MethodSteps) (steps : List StepInMemory) (started : State) (new : MachineState) (stops : Stop) → AtHand methods steps started → Stops (all_in inner more (steps_of steps) started) new stops → Stops (enters stage more c e variables st) new stops
      method_stops methods steps started new stops hand h =
          let run = all_in inner more (steps_of steps) started in
          let inside = stops_then run back new stops h in
          let kept = stops_then (then_run run back) (λ flow. keep_result c.keeps flow method.result) new stops inside in
          subst (λ (m : Ending Flow). Stops m new stops) (sym (runs_at_hand methods steps started hand)) (stops_then (then_run (then_run run back) (λ flow. keep_result c.keeps flow method.result)) (λ _. give Next) new stops kept)

      -- a method that came to its end
      pub method_ends : (methods : List MethodSteps) (steps : List StepInMemory) (started mid behind : State) (new : MachineState) (flow : Flow) (outer : List Variable) (result : Result FlowInMemory Stop) → AtHand methods steps started → all_in inner more (steps_of steps) started ≡ Gave flow mid → behind ≡ (record mid { variables = outer }) → outer ≡ st.variables → EndsAs flow_of (next (keep_result c.keeps flow method.result) behind) new result → EndsAs flow_of (enters stage more c e variables st) new result
      method_ends methods steps started mid behind new flow outer result hand ran at_end own h =
          let keep : State → Ending Flow = λ s. next (keep_result c.keeps flow method.result) s in
          ends_as (enters stage more c e variables st) (keep behind) new result
          (runs_at_hand methods steps started hand ∙ ap keeps_behind ran ∙ sym (ap (λ (l : List Variable). keep (record mid { variables = l })) own) ∙ sym (ap keep at_end)) h
