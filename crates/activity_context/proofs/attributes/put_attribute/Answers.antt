-- by activity, then by key
use Rattle.activity_context.proofs.attributes.put_attribute.Goals as goal

pub returns-clause-rows : goal.returns-clause-rows
returns-clause-rows c = c.put_row.ensures.rows
