use Rattle.router_closing.proofs.UseLemmas.{name_seen}
use Rattle.router_closing.proofs.in_use.has_name.Goals as goal

pub returns : goal.returns
returns g c =
    name_seen (g.C.Base.state c.args.setting.now) c.args.draft.now.changes c.changes.result.now c.in_ok-names.names.items c.deref.result.now c.args.activity.0 c.does_one_stand_for.result c.ordered.ensures.ordered c.changes.ensures.changes c.in_ok-names.ensures c.deref.ensures.value c.does_one_stand_for.ensures
