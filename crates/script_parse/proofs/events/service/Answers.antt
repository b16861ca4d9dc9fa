use Rattle.std.proofs.Common.{refl, true, None, []}
use Rattle.script_tree.specs.Grammar.{MoreService}
use Rattle.script_parse.specs.Options.{with_service}
use Rattle.script_parse.proofs.Options.{skip_service}
use Rattle.script_parse_terms.proofs.ListReaders.{left_out}
use Rattle.script_parse.proofs.Parts.{service_took}
use Rattle.script_parse.proofs.events.service.Goals as goal

pub returns-in_default : goal.returns-in_default
returns-in_default c = left_out MoreService _ _ [] (with_service None) true (λ ps i. skip_service ps i c.args.depth c.args.ts.now c.in_default.ensures) (λ i. refl) refl refl

pub returns : goal.returns
returns c = service_took _ _ _ _ _ c.in-Some.ensures c.in_ok-service.ensures
