-- one name more is listed
use Rattle.std.proofs.Common.{arith}
use Rattle.router_roots.proofs.FillLemmas.{name_more, names_all}
use Rattle.router_roots.proofs.filling.names_of.Goals as goal

pub rows-preserved : goal.rows-preserved
rows-preserved c = record {
  listed = name_more c.args.names.now c.rows.row-index c.row-item.result c.rows.entries.rows _ c.rows-test.true c.row-item.is c.requires (rw (c.name_number.ensures) at c.put_row.ensures.rows) c.rows.invariant.listed;
  room = omega (arith, c.rows.invariant.room, c.put_row.ensures.room);
}

pub returns : goal.returns
returns c = names_all c.args.names.now c.rows.row-index _ (omega (arith, c.rows-test.false)) c.rows.invariant.listed
