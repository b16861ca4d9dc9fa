use Rattle.std.proofs.Common.{refl, true, None, []}
use Rattle.script_tree.specs.Grammar.{MoreRepeat}
use Rattle.script_parse.specs.Options.{repeat_set}
use Rattle.script_parse.proofs.Options.{skip_repeat}
use Rattle.script_parse_terms.proofs.ListReaders.{left_out}
use Rattle.script_parse.proofs.Parts.{repeat_took}
use Rattle.script_parse.proofs.timers.repeat.Goals as goal

pub returns-in_default : goal.returns-in_default
returns-in_default c = left_out MoreRepeat _ _ [] (repeat_set None) true (λ ps i. skip_repeat ps i c.args.depth c.args.ts.now c.in_default.ensures) (λ i. refl) refl refl

pub returns : goal.returns
returns c = repeat_took _ _ _ _ _ _ _ _ c.in-Some.ensures c.in_ok-period.ensures c.in_ok-times.ensures c.in_ok-repeat.ensures
