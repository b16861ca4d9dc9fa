use Rattle.std.proofs.Common.{[], ◌∷◌, ◌++◌, ap, ◌∙◌, arith}
use Rattle.std.proofs.lemmas.Result.{err_from_is_err_and}
use Rattle.script_run_machine.specs.Machines.{state_of}
use Rattle.script_run_machine.specs.Settings.{setting_of}
use Rattle.script_types.specs.Numbers.{IsNumberedTerm}
use Rattle.script_types.specs.ProgramOf.{term_of}
use Rattle.script_run_terms.proofs.NumberedLemmas.{mapped_at}
use Rattle.script_run_blocks.proofs.CallLemmas.{arguments_stop, arguments_step}
use Rattle.script_run_blocks.proofs.calls.eval_arguments.Goals as goal

pub returns-in_err-x-clause-agrees : goal.returns-in_err-x-clause-agrees
returns-in_err-x-clause-agrees c =
    let p = err_from_is_err_and c.from_residual.result c.from_residual.ensures.1 in
    rw (p.1, p.2, ← c.take_variables-arguments.ensures.same) (arguments_stop (setting_of c.args.scene.now) c.args.terms.now c.terms.term-index c.term-item.result c.terms.arguments.items (state_of c.terms.machine) c.eval.new.machine c.in_err-x.field-0.0 _ c.terms-test.true c.term-item.is c.terms.invariant.0 c.in_err-x.ensures.agrees)

pub terms-preserved : goal.terms-preserved
terms-preserved c =
    let same = c.in_ok-push.ensures.items ∙ ap (λ x. c.terms.arguments.items ++ x ∷ []) c.of_value.ensures in
    (arguments_step (setting_of c.args.scene.now) c.args.terms.now c.terms.term-index c.term-item.result c.terms.arguments.items c.push.new.self.items c.in_ok-x.x (state_of c.terms.machine) (state_of c.eval.new.machine) _ c.terms-test.true c.term-item.is c.terms.invariant.0 c.in_ok-x.ensures.agrees same, omega (arith, c.in_ok-x.ensures.spent, c.terms.invariant.1), c.in_ok-x.ensures.names ∙ c.terms.invariant.2)

pub eval-requires-clause-term : goal.eval-requires-clause-term
eval-requires-clause-term c = mapped_at term_of (IsNumberedTerm c.args.scene.now.names.now) c.args.terms.now c.terms.term-index c.term-item.result c.terms-test.true c.term-item.is c.requires.terms
