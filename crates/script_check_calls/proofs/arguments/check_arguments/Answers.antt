use Rattle.std.proofs.Common.{[], ◌∷◌, map, arith}
use Rattle.std.proofs.lemmas.List.{map-append}
use Rattle.std.proofs.lemmas.Result.{err_from_is_err_and}
use Rattle.script_types.specs.ProgramOf.{term_of}
use Rattle.script_check_terms.specs.SettingOf.{setting_of}
use Rattle.script_check_calls.proofs.ArgumentLemmas.{argument_done, argument_refused, tokens_next}
use Rattle.script_check_calls.proofs.arguments.check_arguments.Goals as goal

pub returns-in_err-part-clause-made : goal.returns-in_err-part-clause-made
returns-in_err-part-clause-made c =
    let p = err_from_is_err_and c.from_residual.result c.from_residual.ensures.1 in
    let refused = rw c.parameter_at.ensures at c.in_err-part.ensures.made in
    rw (p.1, p.2) (argument_refused (setting_of c.args.setting.now) c.args.scope.now c.args.parameters.now c.arguments.here c.args.arguments.now c.arguments.i c.index-arguments-i.result (map term_of c.arguments.terms.items) _ _ c.arguments-test.true c.index-arguments-i.is c.arguments.invariant.made refused)

pub arguments-preserved : goal.arguments-preserved
arguments-preserved c =
    let fewer = tokens_next c.args.arguments.now c.arguments.i c.index-arguments-i.result c.arguments-test.true c.index-arguments-i.is in
    let one = rw c.parameter_at.ensures at c.in_ok-part.ensures.made in
    let made = argument_done (setting_of c.args.setting.now) c.args.scope.now c.args.parameters.now c.arguments.here c.args.arguments.now c.arguments.i c.index-arguments-i.result (map term_of c.arguments.terms.items) _ (term_of c.in_ok-part.part.term) c.arguments-test.true c.index-arguments-i.is c.arguments.invariant.made one in
    record {
      made = rw (c.in_ok-push.ensures.items, map-append term_of c.arguments.terms.items (c.in_ok-part.part.term ∷ []), c.in_ok-part.ensures.tokens) made;
      place = omega (arith, fewer, c.in_ok-part.ensures.tokens, c.arguments.invariant.place);
    }
