-- the key is that of the row
use Rattle.rows_sorted.proofs.rows.place_of_row.Goals as goal

pub returns-clause-place : goal.returns-clause-place
returns-clause-place g c = rw (c.first.ensures, c.second.ensures, c.text.ensures) at c.place_of.ensures.place
