use Rattle.router_laws_snapshots.proofs.Restored.{passes_well, well_passes}
use Rattle.router_laws_snapshots.proofs.tests.tests_in_one_say_the_same.Goals as goal

pub returns : goal.returns
returns c = record { well = well_passes; passes = passes_well }
