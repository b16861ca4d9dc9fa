-- one event more
use Rattle.std.proofs.Common.{◌+◌, ◌++◌, ◌∙◌, ap, drop, map}
use Rattle.router_show.proofs.KeptLemmas.{next_kept}
use Rattle.router_show.proofs.events.queued.Goals as goal

pub events-preserved : goal.events-preserved
events-preserved c =
    ap (λ events. map (λ q. q.now) events ++ drop (c.events.place + 1) c.args.queues.now.events) c.in_ok-push.ensures.items
    ∙ next_kept c.events.events.items c.at.result c.args.queues.now.events c.events.place c.at.ensures
    ∙ c.events.invariant
