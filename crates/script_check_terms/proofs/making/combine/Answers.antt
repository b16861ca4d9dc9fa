use Rattle.std.proofs.Common.{◌≡◌, ap, sym, ◌∙◌}
use Rattle.script_types.specs.Program.{Combine}
use Rattle.script_types.specs.ProgramOf.{term_of}
use Rattle.script_check_terms.proofs.MakingLemmas.{chain_grown}
use Rattle.script_check_terms.proofs.making.combine.Goals as goal

pub returns-in_ok-push-in-Chain : goal.returns-in_ok-push-in-Chain
returns-in_ok-push-in-Chain c =
    chain_grown c.in-Chain.first c.in-Chain.more c.push.new.self c.args.other c.args.op c.in_ok-push-in-Chain.ensures.items
    ∙ ap (λ x. Combine c.args.op (term_of x) (term_of c.args.other)) (sym c.in-Chain.is)
