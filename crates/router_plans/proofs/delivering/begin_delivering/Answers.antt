use Rattle.std.proofs.Common.{rules}
use Rattle.router_plans.proofs.BegunLemmas.{delivering_begun}
use Rattle.router_plans.proofs.delivering.begin_delivering.Goals as goal

pub returns : goal.returns
returns g c =
    delivering_begun (g.S.Base.state c.args.setting.now) c.clock.result c.args.receipt c.args.delivered c.new-draft.result c.deliver.new.draft c.in_ok-bytes.bytes.items
    c.clock.ensures c.new-draft.ensures.lines (search rules) c.requires.received c.in_ok-bytes.ensures.fit
    c.in_ok-deliver.ensures.state c.in_ok-deliver.ensures.made c.in_ok-deliver.ensures.lines c.in_ok-bytes.ensures.bytes
