use Rattle.router_closing.proofs.UseLemmas.{link_seen}
use Rattle.router_closing.proofs.in_use.has_link.Goals as goal

pub returns : goal.returns
returns g c = link_seen (g.C.Base.state c.args.setting.now) c.args.draft.now.changes c.changes.result.now c.in_ok-entities.entities.items c.deref.result.now c.args.activity.0 c.is_one_linked.result c.changes.ensures.changes c.in_ok-entities.ensures c.deref.ensures.value c.is_one_linked.ensures
