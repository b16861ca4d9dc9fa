-- What a step does by its kind, and steps one behind another.
use Rattle.std.proofs.Common.{◌≡◌, ◌<◌, ◌≤◌, ◌+◌, ℕ, List, [], ◌∷◌, length, drop, get_or, map, Result, refl, sym, ap, ◌∙◌, subst, drop-cons, add-one}
use Rattle.std.proofs.lemmas.List.{drop_all}
use Rattle.std.proofs.Math.Seq.{take-length}
use Rattle.slee_effect.specs.declared.reference.Ref.{Ref}
use Rattle.script_types.specs.declared.step.Range.{Range}
use Rattle.script_types.specs.declared.checked_step.Step.{Step as StepInMemory}
use Rattle.script_types.specs.Program as p
use Rattle.script_types.specs.Program.{Term, Step, Steps}
use Rattle.script_types.specs.ProgramOf.{step_of, steps_of}
use Rattle.script_meaning.specs.Running.{State, Ending, Gave, Run, Variable, then_run, give, tick, ticked}
use Rattle.script_meaning.specs.Doing.{assigns, on_entities, on_activities, on_timers}
use Rattle.script_meaning.specs.Terms.{eval}
use Rattle.script_meaning.specs.Running.{scoped}
use Rattle.script_meaning.specs.Steps.{Flow, Next, next, says, followed, repeat, walk, either}
use Rattle.script_run_machine.specs.declared.stop.Stop.{Stop}
use Rattle.script_run_machine.specs.Agreeing.{Stops, EndsAs}
use Rattle.script_run_machine.specs.Machines.{MachineState, state_of}
use Rattle.script_run_steps.specs.declared.flow.Flow.{Flow as FlowInMemory}
use Rattle.script_run_steps.specs.Flows.{flow_of}
use Rattle.script_run_terms.proofs.RunLemmas.{stops_then, assoc}
use Rattle.script_run_blocks.specs.declared.stage.Stage.{Stage}
use Rattle.script_run_blocks.specs.Loops.{variable_in, branched, turned}
use Rattle.script_run_blocks.specs.Stages.{given, act_in, all_in, goes_over, invokes}
use Rattle.script_run_blocks.proofs.FlagLemmas.{flags}

-- what an answer says of a run it says of the same run
pub ends_as : (m n : Ending Flow) (new : MachineState) (result : Result FlowInMemory Stop) → m ≡ n → EndsAs flow_of n new result → EndsAs flow_of m new result
ends_as m n new result e h = subst (λ (r : Ending Flow). EndsAs flow_of r new result) (sym e) h

ticked_next : (m : Run (Unit {0})) (st : State) → ticked (next m) st ≡ then_run (ticked m st) (λ _. give Next)
ticked_next m st = sym (assoc (tick st) (λ _. m) (λ _. give Next))

-- a step that gave a value is done, and the next one comes
pub at_hand_step : (stage : Stage) (depth : ℕ) (x : Step) (a : p.Assigning) (old new : MachineState) → x ≡ p.Assign a → ticked (assigns (given stage) a) (state_of old) ≡ Gave tt (state_of new) → ticked (act_in stage depth x) (state_of old) ≡ Gave Next (state_of new)
unfolding act_in
at_hand_step stage depth x a old new e h = ap (λ y. ticked (act_in stage depth y) (state_of old)) e ∙ (ticked_next (assigns (given stage) a) (state_of old) ∙ ap (λ r. then_run r (λ _. give Next)) h)

module _ (stage : Stage) (depth : ℕ) (x : Step) (st : State) where
  abbrev acts : Ending Flow
  acts = act_in stage depth x st

  pub act_assigns : (a : p.Assigning) → x ≡ p.Assign a → acts ≡ next (assigns (given stage) a) st
  unfolding act_in
  act_assigns a e = ap (λ y. act_in stage depth y st) e

  pub act_entities : (a : p.OnEntities) → x ≡ p.Entity a → acts ≡ next (on_entities (given stage) a) st
  unfolding act_in
  act_entities a e = ap (λ y. act_in stage depth y st) e

  pub act_activities : (a : p.OnActivities) → x ≡ p.Activity a → acts ≡ next (on_activities (given stage) a) st
  unfolding act_in
  act_activities a e = ap (λ y. act_in stage depth y st) e

  pub act_timers : (a : p.OnTimers) → x ≡ p.Timer a → acts ≡ next (on_timers (given stage) a) st
  unfolding act_in
  act_timers a e = ap (λ y. act_in stage depth y st) e

  pub act_says : (a : p.Saying) → x ≡ p.Say a → acts ≡ says (given stage) a st
  unfolding act_in
  act_says a e = ap (λ y. act_in stage depth y st) e

  pub act_invokes : (c : p.Call) → x ≡ p.Invoke c → acts ≡ invokes stage depth c st
  unfolding act_in invokes
  act_invokes c e = ap (λ y. act_in stage depth y st) e

  pub act_branches : (t : Term) (body other : Steps) → x ≡ p.If t body other → acts ≡ branched (eval (given stage) t) (all_in stage depth body) (all_in stage depth other) st
  unfolding act_in all_in
  act_branches t body other e = ap (λ y. act_in stage depth y st) e ∙ sym (flags (eval (given stage) t st) (λ b. either b (scoped (all_in stage depth body)) (scoped (all_in stage depth other))))

  pub act_repeats : (t : Term) (body : Steps) → x ≡ p.While t body → acts ≡ repeat (eval (given stage) t) (scoped (all_in stage depth body)) st
  unfolding act_in all_in
  act_repeats t body e = ap (λ y. act_in stage depth y st) e

  pub act_goes_over : (over : Range) (body : Steps) → x ≡ p.For over body → acts ≡ goes_over stage depth over body st
  unfolding act_in all_in
  act_goes_over over body e = ap (λ y. act_in stage depth y st) e

module _ (stage : Stage) (depth : ℕ) (body : List StepInMemory) (i : ℕ) where
  abbrev rest : Flow → Run Flow
  rest flow = followed flow (all_in stage depth (steps_of (drop (i + 1) body)))

  all_next : (x : StepInMemory) (st : State) → i < length body → x ≡ get_or body i x → all_in stage depth (steps_of (drop i body)) st ≡ then_run (ticked (act_in stage depth (step_of x)) st) rest
  unfolding act_in all_in
  all_next x st lt is =
      let go : List StepInMemory → Ending Flow = λ xs. all_in stage depth (steps_of xs) st in
      let split : drop i body ≡ x ∷ drop (i + 1) body = rw (drop-cons body i x, add-one, ← is) refl in
      ap go split

  -- what stops a step stops all
  pub all_stops : (x : StepInMemory) (st : State) (new : MachineState) (e : Stop) (total : Ending Flow) → i < length body → x ≡ get_or body i x → all_in stage depth (steps_of (drop i body)) st ≡ total → Stops (ticked (act_in stage depth (step_of x)) st) new e → Stops total new e
  all_stops x st new e total lt is so_far h =
      subst (λ (t : Ending Flow). Stops t new e) (sym (all_next x st lt is) ∙ so_far) (stops_then (ticked (act_in stage depth (step_of x)) st) rest new e h)

  -- a step more
  pub all_step : (x : StepInMemory) (st new : State) (flow to : Flow) (total : Ending Flow) → i < length body → x ≡ get_or body i x → all_in stage depth (steps_of (drop i body)) st ≡ total → ticked (act_in stage depth (step_of x)) st ≡ Gave flow new → flow ≡ to → rest to new ≡ total
  all_step x st new flow to total lt is so_far h goes =
      sym (ap (λ (flow : Flow). rest flow new) goes) ∙ sym (ap (λ r. then_run r rest) h) ∙ sym (all_next x st lt is) ∙ so_far

  -- no step is left
  pub all_end : (st : State) (total : Ending Flow) → length body ≤ i → all_in stage depth (steps_of (drop i body)) st ≡ total → total ≡ Gave Next st
  unfolding all_in
  all_end st total le so_far = sym so_far ∙ ap (λ xs. all_in stage depth (steps_of xs) st) (drop_all i body le)

module _ (over : Range) (items : List Ref) (i : ℕ) (body : Run Flow) where
  abbrev walked : Flow → Run Flow
  walked flow = followed flow (walk (map (variable_in over) (drop (i + 1) items)) body)

  walk_next : (z : Ref) (st : State) → i < length items → walk (map (variable_in over) (drop i items)) body st ≡ then_run (turned (variable_in over (get_or items i z)) body st) walked
  walk_next z st lt =
      let go : List Ref → Ending Flow = λ xs. walk (map (variable_in over) xs) body st in
      let split : drop i items ≡ get_or items i z ∷ drop (i + 1) items = rw (drop-cons items i z, add-one) refl in
      ap go split

  -- what stops a turn stops the loop
  pub walk_stops : (z : Ref) (variable : Variable) (st : State) (new : MachineState) (e : Stop) (total : Ending Flow) → i < length items → variable ≡ variable_in over (get_or items i z) → walk (map (variable_in over) (drop i items)) body st ≡ total → Stops (turned variable body st) new e → Stops total new e
  walk_stops z variable st new e total lt same so_far h =
      let x : Ref = get_or items i z in
      let own : Stops (turned (variable_in over x) body st) new e = subst (λ (y : Variable). Stops (turned y body st) new e) same h in
      subst (λ (t : Ending Flow). Stops t new e) (sym (walk_next z st lt) ∙ so_far) (stops_then (turned (variable_in over x) body st) walked new e own)

  -- a turn more
  pub walk_step : (z : Ref) (variable : Variable) (st new : State) (flow to : Flow) (total : Ending Flow) → i < length items → variable ≡ variable_in over (get_or items i z) → walk (map (variable_in over) (drop i items)) body st ≡ total → turned variable body st ≡ Gave flow new → flow ≡ to → walked to new ≡ total
  walk_step z variable st new flow to total lt same so_far h goes =
      let own : turned (variable_in over (get_or items i z)) body st ≡ Gave flow new = ap (λ (y : Variable). turned y body st) (sym same) ∙ h in
      sym (ap (λ (flow : Flow). walked flow new) goes) ∙ sym (ap (λ r. then_run r walked) own) ∙ sym (walk_next z st lt) ∙ so_far

  -- no item is left
  pub walk_end : (st : State) (total : Ending Flow) → length items ≤ i → walk (map (variable_in over) (drop i items)) body st ≡ total → total ≡ Gave Next st
  walk_end st total le so_far = sym so_far ∙ ap (λ (xs : List Ref). walk (map (variable_in over) xs) body st) (drop_all i items le)

-- an empty block leaves all as it is
pub nothing_done : (stage : Stage) (depth : ℕ) (body : List StepInMemory) (st : State) → length body ≡ 0 → scoped (all_in stage depth (steps_of body)) st ≡ Gave Next st
unfolding all_in
nothing_done stage depth [] st is = ap (λ l. Gave Next (record st { variables = l })) (take-length st.variables)
nothing_done stage depth (x ∷ body) st is = absurd cc
