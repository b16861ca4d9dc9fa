use Rattle.router_laws_reading.proofs.WholeStates.{ill_restored, restored_read, well_restored, well_spelled}
use Rattle.router_laws_reading.proofs.reading.what_is_read_is_spelled.Goals as goal

pub returns : goal.returns
returns c = record { spelled = well_spelled; restored = well_restored; only = restored_read; ill = ill_restored }
