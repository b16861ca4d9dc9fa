-- the key is that of the row
use Rattle.rows_sorted.proofs.rows.count_before_row.Goals as goal

pub returns-clause-count : goal.returns-clause-count
returns-clause-count g c = rw (c.first.ensures, c.second.ensures, c.text.ensures) at c.count_before.ensures.count
