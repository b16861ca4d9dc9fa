-- the tally gives way, or there is room for one more
use Rattle.rows_index.proofs.CountLemmas.{tally_there, there_or_room}
use Rattle.rows_index.proofs.counting.count_one.Goals as goal

pub put_row-requires : goal.put_row-requires
put_row-requires c = there_or_room c.args.entry c.args.tallies.now.rows c.args.tallies.now.room c.requires.room

pub returns-clause-counted : goal.returns-clause-counted
returns-clause-counted c = λ some. c.put_row.ensures.replaced (tally_there c.args.entry c.args.tallies.now.rows some)
