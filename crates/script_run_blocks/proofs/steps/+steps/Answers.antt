use Rattle.std.proofs.Common.{rules, ◌≡◌, ◌+◌, ℕ, List, length, true, false, sym, ap, subst, ◌∙◌, arith}
use Rattle.std.specs.Prelude.{box_value}
use Rattle.std.proofs.lemmas.Result.{err_from_is_err_and}
use Rattle.script_types.proofs.ProgramRows.{if_step, while_step, for_step}
use Rattle.script_types.specs.Numbers.{AreNumberedSteps, IsNumberedProgram}
use Rattle.script_types.specs.ProgramOf.{term_of, step_of, steps_of}
use Rattle.script_meaning.specs.Running.{scoped}
use Rattle.script_meaning.specs.Terms.{eval}
use Rattle.script_meaning.specs.Steps.{Next, Returned}
use Rattle.script_run_machine.specs.Machines.{MachineState, state_of}
use Rattle.script_run_steps.specs.Flows.{flow_of}
use Rattle.script_run_blocks.specs.Tidy.{IsTidyProgram}
use Rattle.script_run_blocks.specs.Stages.{given, program_of, all_in}
use Rattle.script_run_blocks.proofs.FlagLemmas.{test_stops, test_ends, body_stops, turn_step, turns_end, whole}
use Rattle.script_run_blocks.proofs.StepLemmas.{ends_as, act_assigns, act_entities, act_activities, act_timers, act_says, act_invokes, act_branches, act_repeats, act_goes_over, all_stops, all_step, all_end, walk_stops, walk_step, walk_end, nothing_done}
use Rattle.script_run_blocks.proofs.MethodLemmas.{invoke_stops, invoke_enters, no_block, no_method, method_stops, method_ends}
use Rattle.script_run_blocks.proofs.TidyLemmas.{sound_at, sound_if, sound_while, sound_for, sound_method, masks_at}
use Rattle.script_run_blocks.proofs.steps.+steps.Goals as goal

pub act-do_if-requires : goal.act-do_if-requires
act-do_if-requires t c =
    let all = sound_if c.args.stage.now.scene.names.now c.args.step.now c.in-If.test c.in-If.body c.in-If.other c.deref.result.now c.deref-in-If.result.now c.in-If.is c.deref.ensures.value c.deref-in-If.ensures.value (c.requires.step, c.requires.numbered) in
    (search rules, (c.requires.names, (all.0, (c.requires.stage, (all.1.0, (all.1.1, (all.2.0, all.2.1)))))))

pub act-repeat-requires : goal.act-repeat-requires
act-repeat-requires t c =
    let all = sound_while c.args.stage.now.scene.names.now c.args.step.now c.in-While.test c.in-While.body c.deref-in-While.result.now c.in-While.is c.deref-in-While.ensures.value (c.requires.step, c.requires.numbered) in
    (search rules, (c.requires.names, (all.0, (c.requires.stage, (all.1.0, all.1.1)))))

pub act-do_for-requires : goal.act-do_for-requires
act-do_for-requires t c =
    let all = sound_for c.args.stage.now.scene.names.now c.args.step.now c.in-For.range c.in-For.body c.deref-in-For.result.now c.in-For.is c.deref-in-For.ensures.value (c.requires.step, c.requires.numbered) in
    (search rules, (c.requires.names, (all.0, (c.requires.stage, (all.1.0, all.1.1)))))

pub act-returns-in-Assign-clause-agrees : goal.act-returns-in-Assign-clause-agrees
act-returns-in-Assign-clause-agrees t c =
    ends_as _ _ c.assign.new.machine c.assign.result (act_assigns c.args.stage.now c.args.depth (step_of c.args.step.now) (state_of c.args.machine.now) _ (ap step_of c.in-Assign.is)) c.assign.ensures.agrees

pub act-returns-in-Entity-clause-agrees : goal.act-returns-in-Entity-clause-agrees
act-returns-in-Entity-clause-agrees t c =
    ends_as _ _ c.act_on_entities.new.machine c.act_on_entities.result (act_entities c.args.stage.now c.args.depth (step_of c.args.step.now) (state_of c.args.machine.now) _ (ap step_of c.in-Entity.is)) c.act_on_entities.ensures.agrees

pub act-returns-in-Activity-clause-agrees : goal.act-returns-in-Activity-clause-agrees
act-returns-in-Activity-clause-agrees t c =
    ends_as _ _ c.act_on_activities.new.machine c.act_on_activities.result (act_activities c.args.stage.now c.args.depth (step_of c.args.step.now) (state_of c.args.machine.now) _ (ap step_of c.in-Activity.is)) c.act_on_activities.ensures.agrees

pub act-returns-in-Timer-clause-agrees : goal.act-returns-in-Timer-clause-agrees
act-returns-in-Timer-clause-agrees t c =
    ends_as _ _ c.act_on_timers.new.machine c.act_on_timers.result (act_timers c.args.stage.now c.args.depth (step_of c.args.step.now) (state_of c.args.machine.now) _ (ap step_of c.in-Timer.is)) c.act_on_timers.ensures.agrees

pub act-returns-in-Say-clause-agrees : goal.act-returns-in-Say-clause-agrees
act-returns-in-Say-clause-agrees t c =
    ends_as _ _ c.do_saying.new.machine c.do_saying.result (act_says c.args.stage.now c.args.depth (step_of c.args.step.now) (state_of c.args.machine.now) _ (ap step_of c.in-Say.is)) c.do_saying.ensures.agrees

pub act-returns-in-Invoke-clause-agrees : goal.act-returns-in-Invoke-clause-agrees
act-returns-in-Invoke-clause-agrees t c =
    ends_as _ _ c.do_call.new.machine c.do_call.result (act_invokes c.args.stage.now c.args.depth (step_of c.args.step.now) (state_of c.args.machine.now) _ (ap step_of c.in-Invoke.is)) c.do_call.ensures.agrees

pub act-returns-in-If-clause-agrees : goal.act-returns-in-If-clause-agrees
act-returns-in-If-clause-agrees t c =
    ends_as _ _ c.do_if.new.machine c.do_if.result (act_branches c.args.stage.now c.args.depth (step_of c.args.step.now) (state_of c.args.machine.now) _ (steps_of c.in-If.body.items) (steps_of c.in-If.other.items) (ap step_of c.in-If.is ∙ if_step c.in-If.test c.in-If.body c.in-If.other)) (rw (c.deref.ensures.value, c.deref-in-If.ensures.value) at c.do_if.ensures.agrees)

pub act-returns-in-While-clause-agrees : goal.act-returns-in-While-clause-agrees
act-returns-in-While-clause-agrees t c =
    ends_as _ _ c.repeat.new.machine c.repeat.result (act_repeats c.args.stage.now c.args.depth (step_of c.args.step.now) (state_of c.args.machine.now) _ (steps_of c.in-While.body.items) (ap step_of c.in-While.is ∙ while_step c.in-While.test c.in-While.body)) (rw c.deref-in-While.ensures.value at c.repeat.ensures.agrees)

pub act-returns-in-For-clause-agrees : goal.act-returns-in-For-clause-agrees
act-returns-in-For-clause-agrees t c =
    ends_as _ _ c.do_for.new.machine c.do_for.result (act_goes_over c.args.stage.now c.args.depth (step_of c.args.step.now) (state_of c.args.machine.now) _ (steps_of c.in-For.body.items) (ap step_of c.in-For.is ∙ for_step c.in-For.range c.in-For.body)) (rw c.deref-in-For.ensures.value at c.do_for.ensures.agrees)

pub do_all-do_step-requires : goal.do_all-do_step-requires
do_all-do_step-requires t c =
    let one = sound_at c.args.stage.now.scene.names.now c.args.body.now c.steps.step-index c.step-item.result c.steps-test.true c.step-item.is (c.requires.body, c.requires.numbered) in
    (search rules, (c.steps.invariant.2 ∙ c.requires.names, (c.requires.stage, (one.0, one.1))))

pub do_all-returns-in_err-do_step-clause-agrees : goal.do_all-returns-in_err-do_step-clause-agrees
do_all-returns-in_err-do_step-clause-agrees t c =
    let p = err_from_is_err_and c.from_residual.result c.from_residual.ensures.1 in
    rw (p.1, p.2) (all_stops c.args.stage.now c.args.depth c.args.body.now c.steps.step-index c.step-item.result (state_of c.steps.machine) c.do_step.new.machine c.in_err-do_step.field-0.0 _ c.steps-test.true c.step-item.is c.steps.invariant.0 c.in_err-do_step.ensures.agrees)

pub do_all-returns-in-Returned-clause-agrees : goal.do_all-returns-in-Returned-clause-agrees
do_all-returns-in-Returned-clause-agrees t c =
    sym (all_step c.args.stage.now c.args.depth c.args.body.now c.steps.step-index c.step-item.result (state_of c.steps.machine) (state_of c.do_step.new.machine) _ (Returned (box_value c.in-Returned.x)) _ c.steps-test.true c.step-item.is c.steps.invariant.0 c.in_ok-do_step.ensures.agrees (ap flow_of c.in-Returned.is))

pub do_all-steps-preserved : goal.do_all-steps-preserved
do_all-steps-preserved t c =
    (all_step c.args.stage.now c.args.depth c.args.body.now c.steps.step-index c.step-item.result (state_of c.steps.machine) (state_of c.do_step.new.machine) _ Next _ c.steps-test.true c.step-item.is c.steps.invariant.0 c.in_ok-do_step.ensures.agrees (ap flow_of c.in-Next.is), omega (arith, c.in_ok-do_step.ensures.spent, c.steps.invariant.1), c.in_ok-do_step.ensures.names ∙ c.steps.invariant.2)

pub do_all-returns-clause-agrees : goal.do_all-returns-clause-agrees
do_all-returns-clause-agrees t c =
    all_end c.args.stage.now c.args.depth c.args.body.now c.steps.step-index (state_of c.steps.machine) _ (omega (arith, c.steps-test.false)) c.steps.invariant.0

pub do_call-returns-in_err-child-clause-agrees : goal.do_call-returns-in_err-child-clause-agrees
do_call-returns-in_err-child-clause-agrees t c =
    let p = err_from_is_err_and c.from_residual.result c.from_residual.ensures.1 in
    rw (p.1, p.2) (invoke_stops c.args.stage.now c.args.call.now c.args.depth (state_of c.args.machine.now) c.prepare.new.machine c.in_err-child.field-0.0 c.in_err-child.ensures.agrees)

pub do_call-returns-clause-agrees : goal.do_call-returns-clause-agrees
do_call-returns-clause-agrees t c =
    invoke_enters c.args.stage.now c.args.call.now c.args.depth (state_of c.args.machine.now) (state_of c.prepare.new.machine) c.enter.new.machine c.in_ok-child.child c.in_ok-child.arguments.items c.enter.result c.in_ok-child.ensures.agrees c.enter.ensures.agrees

pub do_walk-returns-in_err-do_turn-clause-agrees : goal.do_walk-returns-in_err-do_turn-clause-agrees
do_walk-returns-in_err-do_turn-clause-agrees t c =
    let p = err_from_is_err_and c.from_residual.result c.from_residual.ensures.1 in
    rw (p.1, p.2) (walk_stops c.args.range.now c.args.items.now c.items.item-index (all_in c.args.stage.now c.args.depth (steps_of c.args.body.now)) _ c.loop_variable.result (state_of c.items.machine) c.do_turn.new.machine c.in_err-do_turn.field-0.0 _ c.items-test.true c.loop_variable.ensures c.items.invariant.0 c.in_err-do_turn.ensures.agrees)

pub do_walk-returns-in-Returned-clause-agrees : goal.do_walk-returns-in-Returned-clause-agrees
do_walk-returns-in-Returned-clause-agrees t c =
    sym (walk_step c.args.range.now c.args.items.now c.items.item-index (all_in c.args.stage.now c.args.depth (steps_of c.args.body.now)) _ c.loop_variable.result (state_of c.items.machine) (state_of c.do_turn.new.machine) _ (Returned (box_value c.in-Returned.x)) _ c.items-test.true c.loop_variable.ensures c.items.invariant.0 c.in_ok-do_turn.ensures.agrees (ap flow_of c.in-Returned.is))

pub do_walk-items-preserved : goal.do_walk-items-preserved
do_walk-items-preserved t c =
    (walk_step c.args.range.now c.args.items.now c.items.item-index (all_in c.args.stage.now c.args.depth (steps_of c.args.body.now)) _ c.loop_variable.result (state_of c.items.machine) (state_of c.do_turn.new.machine) _ Next _ c.items-test.true c.loop_variable.ensures c.items.invariant.0 c.in_ok-do_turn.ensures.agrees (ap flow_of c.in-Next.is), omega (arith, c.in_ok-do_turn.ensures.spent, c.items.invariant.1), c.in_ok-do_turn.ensures.names ∙ c.items.invariant.2)

pub do_walk-returns-clause-agrees : goal.do_walk-returns-clause-agrees
do_walk-returns-clause-agrees t c =
    walk_end c.args.range.now c.args.items.now c.items.item-index (all_in c.args.stage.now c.args.depth (steps_of c.args.body.now)) (state_of c.items.machine) _ (omega (arith, c.items-test.false)) c.items.invariant.0

pub enter-returns-in_default-clause-agrees : goal.enter-returns-in_default-clause-agrees
enter-returns-in_default-clause-agrees t c =
    no_block c.args.stage.now c.args.call.now c.args.depth c.args.child c.args.arguments.items (state_of c.args.machine.now) (sym c.in_default.ensures)

pub enter-returns-in_default-method_at-clause-agrees : goal.enter-returns-in_default-method_at-clause-agrees
enter-returns-in_default-method_at-clause-agrees t c =
    no_method c.args.stage.now c.args.call.now c.args.depth c.args.child c.args.arguments.items (state_of c.args.machine.now) c.in-Some.block.now c.as_slice.result.now (sym c.in-Some.ensures) c.as_slice.ensures (sym c.in_default-method_at.ensures)

pub enter-stage_for-inner-requires : goal.enter-stage_for-inner-requires
enter-stage_for-inner-requires t c = record { masks = masks_at c.args.stage.now.scene.names.now c.args.stage.now.blocks.now c.args.call.now.block c.in-Some.block.now c.requires.stage.1 (sym c.in-Some.ensures) }

pub enter-do_all-requires : goal.enter-do_all-requires
enter-do_all-requires t c =
    let all = sound_method c.args.stage.now c.args.call.now.block c.args.call.now.method c.in-Some.block.now c.in-Some-method_at.method.now c.as_slice.result.now c.as_slice-2.result.now c.requires.stage (sym c.in-Some.ensures) c.as_slice.ensures (sym c.in-Some-method_at.ensures) c.as_slice-2.ensures in
    let names = c.stage_for-inner.ensures.names in
    let same = c.stage_for-inner.ensures.program in
    let numbered = subst (λ (n : List (List ℕ)). IsNumberedProgram n (program_of c.stage_for-inner.result)) (sym names) (subst (IsNumberedProgram c.args.stage.now.scene.names.now) (sym same) c.requires.stage.1) in
    (search rules, (ap (λ (m : MachineState). m.names) c.replace_variables-outer.ensures.new ∙ c.requires.names ∙ sym names, ((subst IsTidyProgram (sym same) c.requires.stage.0, numbered), (all.0, subst (λ (n : List (List ℕ)). AreNumberedSteps n (steps_of c.as_slice-2.result.now)) (sym names) all.1))))

pub enter-returns-in_err-flow-clause-agrees : goal.enter-returns-in_err-flow-clause-agrees
enter-returns-in_err-flow-clause-agrees t c =
    let p = err_from_is_err_and c.from_residual.result c.from_residual.ensures.1 in
    rw (p.1, p.2) (method_stops c.args.stage.now c.args.call.now c.args.depth c.args.child c.args.arguments.items (state_of c.args.machine.now) c.stage_for-inner.result c.in-Some.block.now c.in-Some-method_at.method.now c.as_slice.result.now c.as_slice-2.result.now (state_of c.replace_variables-outer.new.self) c.do_all.new.machine c.in_err-flow.field-0.0 (record { block_is = sym c.in-Some.ensures; methods_are = c.as_slice.ensures; method_is = sym c.in-Some-method_at.ensures; steps_are = c.as_slice-2.ensures; there = c.stage_for-inner.ensures.given; same = c.stage_for-inner.ensures.program; starts = ap state_of c.replace_variables-outer.ensures.new }) c.in_err-flow.ensures.agrees)

pub enter-returns-clause-agrees : goal.enter-returns-clause-agrees
enter-returns-clause-agrees t c =
    method_ends c.args.stage.now c.args.call.now c.args.depth c.args.child c.args.arguments.items (state_of c.args.machine.now) c.stage_for-inner.result c.in-Some.block.now c.in-Some-method_at.method.now c.as_slice.result.now c.as_slice-2.result.now (state_of c.replace_variables-outer.new.self) (state_of c.do_all.new.machine) (state_of c.keep_variables.new.self) c.keep_result.new.machine (flow_of c.in_ok-flow.flow) c.replace_variables-outer.result.items c.keep_result.result (record { block_is = sym c.in-Some.ensures; methods_are = c.as_slice.ensures; method_is = sym c.in-Some-method_at.ensures; steps_are = c.as_slice-2.ensures; there = c.stage_for-inner.ensures.given; same = c.stage_for-inner.ensures.program; starts = ap state_of c.replace_variables-outer.ensures.new }) c.in_ok-flow.ensures.agrees (ap state_of (c.keep_variables.ensures ∙ c.replace_variables-used.ensures.new)) c.replace_variables-outer.ensures.old c.keep_result.ensures.agrees

pub repeat-returns-in_err-eval_flag-clause-agrees : goal.repeat-returns-in_err-eval_flag-clause-agrees
repeat-returns-in_err-eval_flag-clause-agrees t c =
    let p = err_from_is_err_and c.from_residual.result c.from_residual.ensures.1 in
    let same : c.from-most.result ≡ c.args.machine.now.left = omega (arith, c.from-most.ensures, c.left.ensures) in
    let so_far = whole c.from-most.result (eval (given c.args.stage.now) (term_of c.args.test.now)) (scoped (all_in c.args.stage.now c.args.depth (steps_of c.args.body.now))) (state_of c.args.machine.now) _ same c.turns.invariant.0 in
    rw (p.1, p.2) (test_stops (c.from-most.result + 1) c.turns.turn (eval (given c.args.stage.now) (term_of c.args.test.now)) (scoped (all_in c.args.stage.now c.args.depth (steps_of c.args.body.now))) (state_of c.turns.machine) c.eval_flag.new.machine c.in_err-eval_flag.field-0.0 _ c.turns-test.true so_far c.in_err-eval_flag.ensures.agrees)

pub repeat-returns-then-not-branch-clause-agrees : goal.repeat-returns-then-not-branch-clause-agrees
repeat-returns-then-not-branch-clause-agrees t c =
    let same : c.from-most.result ≡ c.args.machine.now.left = omega (arith, c.from-most.ensures, c.left.ensures) in
    let so_far = whole c.from-most.result (eval (given c.args.stage.now) (term_of c.args.test.now)) (scoped (all_in c.args.stage.now c.args.depth (steps_of c.args.body.now))) (state_of c.args.machine.now) _ same c.turns.invariant.0 in
    let no : c.in_ok-eval_flag.field-0 ≡ false = search rules in
    test_ends (c.from-most.result + 1) c.turns.turn (eval (given c.args.stage.now) (term_of c.args.test.now)) (scoped (all_in c.args.stage.now c.args.depth (steps_of c.args.body.now))) (state_of c.turns.machine) (state_of c.eval_flag.new.machine) c.in_ok-eval_flag.field-0 _ c.turns-test.true so_far c.in_ok-eval_flag.ensures.agrees no

pub repeat-returns-in_err-do_block-clause-agrees : goal.repeat-returns-in_err-do_block-clause-agrees
repeat-returns-in_err-do_block-clause-agrees t c =
    let p = err_from_is_err_and c.from_residual-in_err-do_block.result c.from_residual-in_err-do_block.ensures.1 in
    let same : c.from-most.result ≡ c.args.machine.now.left = omega (arith, c.from-most.ensures, c.left.ensures) in
    let so_far = whole c.from-most.result (eval (given c.args.stage.now) (term_of c.args.test.now)) (scoped (all_in c.args.stage.now c.args.depth (steps_of c.args.body.now))) (state_of c.args.machine.now) _ same c.turns.invariant.0 in
    let yes : c.in_ok-eval_flag.field-0 ≡ true = search rules in
    rw (p.1, p.2) (body_stops (c.from-most.result + 1) c.turns.turn (eval (given c.args.stage.now) (term_of c.args.test.now)) (scoped (all_in c.args.stage.now c.args.depth (steps_of c.args.body.now))) (state_of c.turns.machine) (state_of c.eval_flag.new.machine) c.do_block.new.machine c.in_ok-eval_flag.field-0 c.in_err-do_block.field-0.0 _ c.turns-test.true so_far c.in_ok-eval_flag.ensures.agrees yes c.in_err-do_block.ensures.agrees)

pub repeat-returns-in-Returned-clause-agrees : goal.repeat-returns-in-Returned-clause-agrees
repeat-returns-in-Returned-clause-agrees t c =
    let same : c.from-most.result ≡ c.args.machine.now.left = omega (arith, c.from-most.ensures, c.left.ensures) in
    let so_far = whole c.from-most.result (eval (given c.args.stage.now) (term_of c.args.test.now)) (scoped (all_in c.args.stage.now c.args.depth (steps_of c.args.body.now))) (state_of c.args.machine.now) _ same c.turns.invariant.0 in
    let yes : c.in_ok-eval_flag.field-0 ≡ true = search rules in
    sym (turn_step (c.from-most.result + 1) c.turns.turn (eval (given c.args.stage.now) (term_of c.args.test.now)) (scoped (all_in c.args.stage.now c.args.depth (steps_of c.args.body.now))) (state_of c.turns.machine) (state_of c.eval_flag.new.machine) (state_of c.do_block.new.machine) c.in_ok-eval_flag.field-0 _ (Returned (box_value c.in-Returned.x)) _ c.turns-test.true so_far c.in_ok-eval_flag.ensures.agrees yes c.in_ok-do_block.ensures.agrees (ap flow_of c.in-Returned.is))

pub repeat-turns-preserved : goal.repeat-turns-preserved
repeat-turns-preserved t c =
    let yes : c.in_ok-eval_flag.field-0 ≡ true = search rules in
    (turn_step (c.from-most.result + 1) c.turns.turn (eval (given c.args.stage.now) (term_of c.args.test.now)) (scoped (all_in c.args.stage.now c.args.depth (steps_of c.args.body.now))) (state_of c.turns.machine) (state_of c.eval_flag.new.machine) (state_of c.do_block.new.machine) c.in_ok-eval_flag.field-0 _ Next _ c.turns-test.true c.turns.invariant.0 c.in_ok-eval_flag.ensures.agrees yes c.in_ok-do_block.ensures.agrees (ap flow_of c.in-Next.is), omega (arith, c.in_ok-eval_flag.ensures.spent, c.in_ok-do_block.ensures.spent, c.turns.invariant.1), c.in_ok-do_block.ensures.names ∙ c.in_ok-eval_flag.ensures.names ∙ c.turns.invariant.2)

pub repeat-returns-clause-agrees : goal.repeat-returns-clause-agrees
repeat-returns-clause-agrees t c =
    let same : c.from-most.result ≡ c.args.machine.now.left = omega (arith, c.from-most.ensures, c.left.ensures) in
    let so_far = whole c.from-most.result (eval (given c.args.stage.now) (term_of c.args.test.now)) (scoped (all_in c.args.stage.now c.args.depth (steps_of c.args.body.now))) (state_of c.args.machine.now) _ same c.turns.invariant.0 in
    turns_end (c.from-most.result + 1) c.turns.turn (eval (given c.args.stage.now) (term_of c.args.test.now)) (scoped (all_in c.args.stage.now c.args.depth (steps_of c.args.body.now))) (state_of c.turns.machine) _ (omega (arith, c.turns-test.false)) so_far

pub do_block-returns-then-is_empty-clause-agrees : goal.do_block-returns-then-is_empty-clause-agrees
do_block-returns-then-is_empty-clause-agrees t c =
    let none : length c.args.body.now ≡ 0 = search rules in
    nothing_done c.args.stage.now c.args.depth c.args.body.now (state_of c.args.machine.now) none
