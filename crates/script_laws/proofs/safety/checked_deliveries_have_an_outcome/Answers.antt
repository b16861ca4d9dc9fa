use Rattle.script_laws.proofs.SafeDeliveries.{delivery_is_sound}
use Rattle.script_laws.proofs.safety.checked_deliveries_have_an_outcome.Goals as goal

pub returns : goal.returns
returns c = λ all program answers number block steps e a event fields made there is. delivery_is_sound all program made answers number block steps e a event fields there is
