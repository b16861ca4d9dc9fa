-- one entity more was looked at
use Rattle.std.proofs.Common.{arith}
use Rattle.router_roots.proofs.FillLemmas.{root_more, roots_all}
use Rattle.router_roots.proofs.filling.roots_of.Goals as goal

pub rows-preserved : goal.rows-preserved
rows-preserved c = record {
  listed = root_more c.args.entities.now c.rows.row-index c.row-item.result c.rows.entries.rows _ c.rows-test.true c.row-item.is c.requires c.list_entity.ensures.rows c.rows.invariant.listed;
  room = omega (arith, c.rows.invariant.room, c.list_entity.ensures.room);
}

pub returns : goal.returns
returns c = roots_all c.args.entities.now c.rows.row-index _ (omega (arith, c.rows-test.false)) c.rows.invariant.listed
