use Rattle.std.proofs.Common.{◌∙◌}
use Rattle.router_plans.proofs.PlanLemmas.{planned}
use Rattle.router_plans.proofs.closing.close_plan.Goals as goal

pub returns : goal.returns
returns g c =
    planned (g.C.Base.state c.args.closing.now) c.args.choice c.args.draft c.close.new.draft c.args.payload.items c.new.result
    c.requires.valid c.requires.enabled c.requires.begun c.ordered.ensures.trees c.ordered.ensures.ordered
    c.in_ok-close.ensures.state c.in_ok-close.ensures.lines c.in_ok-close.ensures.made
    c.new.ensures.choice (c.new.ensures.changes ∙ c.into_parts-changes.ensures.changes) (c.new.ensures.lines ∙ c.into_parts-changes.ensures.lines) c.new.ensures.payload
