-- the key has a tally, which gives way
use Rattle.std.proofs.Common.{ap, ◌||◌}
use Rattle.std.specs.Prelude.{nat_lt}
use Rattle.rows_index.proofs.CountLemmas.{tally_there}
use Rattle.rows_index.proofs.counting.recount.Goals as goal

pub put_row-requires : goal.put_row-requires
put_row-requires c = ap (λ has. has || nat_lt 0 c.args.tallies.now.room) (tally_there c.args.entry c.args.tallies.now.rows c.requires)

pub returns-clause-room : goal.returns-clause-room
returns-clause-room c = c.put_row.ensures.replaced (tally_there c.args.entry c.args.tallies.now.rows c.requires)
