use Rattle.std.proofs.Common.{ℕ, List, ap, ◌∙◌, arith}
use Rattle.std.proofs.lemmas.Result.{err_from_is_err_and}
use Rattle.script_meaning.specs.Doing.{put_field}
use Rattle.script_types.specs.Numbers.{IsNumberedTerm}
use Rattle.script_types.specs.Program.{Term}
use Rattle.script_types.specs.ProgramOf.{field_term_of}
use Rattle.script_run_machine.specs.Machines.{state_of}
use Rattle.script_run_machine.specs.Settings.{setting_of}
use Rattle.script_run_terms.proofs.NumberedLemmas.{mapped_at}
use Rattle.script_run_steps.proofs.FieldLemmas.{fields_stop, fields_step}
use Rattle.script_run_steps.proofs.firing.eval_fields.Goals as goal

pub returns-in_err-value-clause-agrees : goal.returns-in_err-value-clause-agrees
returns-in_err-value-clause-agrees c =
    let p = err_from_is_err_and c.from_residual.result c.from_residual.ensures.1 in
    rw (p.1, p.2) (fields_stop (setting_of c.args.scene.now) c.args.fields.now c.fields.field-index c.field-item.result c.fields.done.items (state_of c.fields.machine) c.eval.new.machine c.in_err-value.field-0.0 _ c.fields-test.true c.field-item.is c.fields.invariant.0 c.in_err-value.ensures.agrees)

pub fields-preserved : goal.fields-preserved
fields-preserved c =
    let same = c.in_ok-put_field.ensures ∙ ap (λ (n : List ℕ). put_field (n, c.in_ok-value.value) c.fields.done.items) c.in_ok-name.ensures in
    (fields_step (setting_of c.args.scene.now) c.args.fields.now c.fields.field-index c.field-item.result c.fields.done.items c.put_field.new.fields.items c.in_ok-value.value (state_of c.fields.machine) (state_of c.eval.new.machine) _ c.fields-test.true c.field-item.is c.fields.invariant.0 c.in_ok-value.ensures.agrees same, omega (arith, c.in_ok-value.ensures.spent, c.fields.invariant.1), c.in_ok-value.ensures.names ∙ c.fields.invariant.2)

pub eval-requires-clause-term : goal.eval-requires-clause-term
eval-requires-clause-term c = mapped_at field_term_of (λ (field : List ℕ × Term). IsNumberedTerm c.args.scene.now.names.now field.1) c.args.fields.now c.fields.field-index c.field-item.result c.fields-test.true c.field-item.is c.requires.fields
