use Rattle.router_laws_reading.proofs.Unread.{unread, well_named}
use Rattle.router_laws_reading.proofs.reading.what_is_not_held_is_not_restored.Goals as goal

pub returns : goal.returns
returns c = record { held = well_named; none = unread }
