-- the name that the entity has is that of the row that is found
use Rattle.router_roots.proofs.FindLemmas.{named_else, named_then}
use Rattle.router_roots.proofs.SameLemmas.{same_so}
use Rattle.router_roots.proofs.finding.is_root_named.Goals as goal

pub returns-then-same : goal.returns-then-same
returns-then-same c =
    named_then c.args.stores.now.state c.args.service c.args.name.now c.in-Some.own.now c.args.entity.0 c.same.result c.is_root_at.result c.in-Some.ensures (same_so c.in-Some.own.now c.args.name.now c.same.result c.same.ensures) c.if-same.true c.is_root_at.ensures

pub returns-else-same : goal.returns-else-same
returns-else-same c =
    named_else c.args.stores.now.state c.args.service c.args.name.now c.in-Some.own.now c.args.entity.0 c.same.result c.in-Some.ensures (same_so c.in-Some.own.now c.args.name.now c.same.result c.same.ensures) c.if-same.false
