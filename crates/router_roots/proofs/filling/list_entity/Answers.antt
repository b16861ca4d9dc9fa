-- a root is put under its service
use Rattle.router_roots.proofs.FillLemmas.{root_put}
use Rattle.router_roots.proofs.filling.list_entity.Goals as goal

pub returns-in-Root-clause-rows : goal.returns-in-Root-clause-rows
returns-in-Root-clause-rows c = root_put c.args.row.now c.in-Root.service c.args.entries.now.rows _ c.in-Root.is c.put_row.ensures.rows
