use Rattle.router_laws_written.proofs.Beginnings.{entity_activities_read}
use Rattle.router_laws_written.proofs.entities.activities_of_entities_are_read_as_written.Goals as goal

pub returns : goal.returns
returns c = entity_activities_read
