-- the field is put in its place
use Rattle.cmp_store.proofs.fields.Fields.set.Goals as goal

pub returns-clause-rows : goal.returns-clause-rows
returns-clause-rows c = rw (← c.self.view_is) c.put_row.ensures.rows

pub returns-clause-changed : goal.returns-clause-changed
returns-clause-changed c = rw (← c.self.view_is) c.put_row.ensures.replaced
