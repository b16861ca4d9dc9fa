use Rattle.std.proofs.Common.{refl, true, None, []}
use Rattle.script_tree.specs.Grammar.{MoreKeep}
use Rattle.script_parse.specs.Options.{keep_set}
use Rattle.script_parse.proofs.Options.{skip_keep}
use Rattle.script_parse_terms.proofs.ListReaders.{left_out}
use Rattle.script_parse.proofs.Parts.{keep_took}
use Rattle.script_parse.proofs.timers.keep.Goals as goal

pub returns-in_default-clause-read : goal.returns-in_default-clause-read
returns-in_default-clause-read c = left_out MoreKeep _ _ [] (keep_set None) true (λ ps i. skip_keep ps i c.args.depth c.args.ts.now c.in_default.ensures) (λ i. refl) refl refl

pub returns-clause-read : goal.returns-clause-read
returns-clause-read c = keep_took _ _ _ _ _ c.in-Some.ensures c.in_ok-keep.ensures.read
