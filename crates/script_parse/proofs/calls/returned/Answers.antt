use Rattle.std.proofs.Common.{refl, true, None, []}
use Rattle.script_tree.specs.Grammar.{MoreResult}
use Rattle.script_parse.specs.Options.{result_set}
use Rattle.script_parse.proofs.Options.{skip_result}
use Rattle.script_parse_terms.proofs.ListReaders.{left_out}
use Rattle.script_parse.proofs.Parts.{result_took}
use Rattle.script_parse.proofs.calls.returned.Goals as goal

pub returns-in_default : goal.returns-in_default
returns-in_default c = left_out MoreResult _ _ [] (result_set None) true (λ ps i. skip_result ps i c.args.depth c.args.ts.now c.in_default.ensures) (λ i. refl) refl refl

pub returns : goal.returns
returns c = result_took _ _ _ _ _ c.in-Some.ensures c.in_ok-result.ensures
