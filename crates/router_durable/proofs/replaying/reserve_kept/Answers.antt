use Rattle.std.proofs.Common.{Some, ap, refl, sym, ◌∙◌}
use Rattle.router_durable.specs.Recovery.{kept_part}
use Rattle.router_durable.proofs.Recovers.{kept_payload, wrong_same, wrong_other}
use Rattle.router_durable.proofs.replaying.reserve_kept.Goals as goal

pub returns-then-is_other-clause-bad : goal.returns-then-is_other-clause-bad
returns-then-is_other-clause-bad c =
    let plan = c.args.plan.now in
    let s = c.args.state.now.state in
    wrong_other c.args.format s c.args.payload.now c.kept_part.result.now (Some plan.choice) plan.choice refl c.requires.made.valid c.requires.made.enabled
    (c.kept_part.ensures ∙ ap (kept_part c.args.format) (c.payload.ensures ∙ c.requires.made.payload) ∙ kept_payload c.args.format s plan.choice) (sym c.is_other.ensures ∙ c.if-is_other.true)

pub returns-clause-fits : goal.returns-clause-fits
returns-clause-fits c =
    let plan = c.args.plan.now in
    let s = c.args.state.now.state in
    wrong_same c.args.format s c.args.payload.now c.kept_part.result.now (Some plan.choice) plan.choice refl c.requires.made.valid c.requires.made.enabled
    (c.kept_part.ensures ∙ ap (kept_part c.args.format) (c.payload.ensures ∙ c.requires.made.payload) ∙ kept_payload c.args.format s plan.choice) (sym c.is_other.ensures ∙ c.if-is_other.false)
