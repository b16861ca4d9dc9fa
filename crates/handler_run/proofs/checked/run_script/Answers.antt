use Rattle.std.proofs.Common.{Err, Result, map, refl, subst, ap, ◌∙◌}
use Rattle.script_types.specs.ProgramOf.{block_program_of}
use Rattle.script_meaning.specs.Answers.{kept}
use Rattle.script_meaning.specs.Meaning.{meaning}
use Rattle.handler_run.specs.declared.run.Run.{Run}
use Rattle.handler_run.specs.declared.run.Unfinished.{Unfinished}
use Rattle.handler_run.specs.Runs.{before_of, Means}
use Rattle.handler_run.proofs.CheckedLemmas.{never_unchecked, checked_tidy, checked_numbered}
use Rattle.handler_run.proofs.checked.run_script.Goals as goal

pub run_in-requires-clause-tidy : goal.run_in-requires-clause-tidy
run_in-requires-clause-tidy c = checked_tidy c.args.codes.now c.as_slice-blocks.result.now c.requires.checked c.as_slice-blocks.ensures

pub run_in-requires-clause-numbered : goal.run_in-requires-clause-numbered
run_in-requires-clause-numbered c = checked_numbered c.args.codes.now c.as_slice-blocks.result.now c.args.codes.now.names c.requires.checked c.as_slice-blocks.ensures refl

pub unreachable-requires : goal.unreachable-requires
unreachable-requires c =
    let means : Result Run Unfinished → Type 0 = λ r. Means (meaning (kept c.args.known.now) (map block_program_of c.as_slice-blocks.result.now) c.args.which c.args.me c.args.arguments.now (before_of c.args.before.now)) r in
    never_unchecked c.args.codes.now c.as_slice-blocks.result.now (kept c.args.known.now) c.args.which c.args.me c.args.arguments.now (before_of c.args.before.now) c.requires.there.0 c.requires.checked c.requires.there.1 c.requires.keys c.as_slice-blocks.ensures
    (subst means (c.in-Err-Unchecked.is ∙ ap Err c.in-Err-Unchecked.field-0-is) c.run_in.ensures)
