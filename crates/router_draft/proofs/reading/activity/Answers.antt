use Rattle.std.proofs.Common.{◌<◌, ℕ, sym, subst, ◌∙◌}
use Rattle.router_draft.proofs.ActivityLemmas.{activity_seen}
use Rattle.router_draft.proofs.TouchLemmas.{activity_still}
use Rattle.router_draft.proofs.reading.activity.Goals as goal

pub returns-then-not-ends : goal.returns-then-not-ends
returns-then-not-ends g c =
    let low = subst (λ (n : ℕ). c.args.activity.0 < n) c.next_activity-next.ensures c.if-activity-next.true in
    c.activity-was.ensures ∙ sym (activity_still c.args.draft.now.changes (g.B.Base.state c.args.base.now) c.args.activity.0 low (sym c.ends.ensures ∙ c.if-not-ends.true))

pub returns : goal.returns
returns g c =
    activity_seen c.args.draft.now.changes c.changes.result.now (g.B.Base.state c.args.base.now) c.args.activity.0 c.next_activity-next.result c.ahead_of.result c.activity-was.result _
    c.next_activity-next.ensures c.ahead_of.ensures c.activity-was.ensures c.changes.ensures.changes c.activity_through.ensures
