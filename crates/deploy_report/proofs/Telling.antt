-- Faults of what was read are faults of its counts.
use Rattle.std.proofs.Common.{◌≡◌, ap, Result}
use Rattle.deploy_json.specs.Checking.{Reading}
use Rattle.deploy_json.specs.declared.fault.ReadFault.{ReadFault}
use Rattle.deploy_json.specs.declared.fault.ReadFault.TheVariants as faults
use Rattle.deploy_json.specs.Reading.{Tells}
use Rattle.deploy_report.specs.Counting.{counts_read}

pub tells_counts : (read : Result Reading ReadFault) (fault : ReadFault) → Tells read fault → Tells (counts_read read) fault
tells_counts read faults.Json is = ap counts_read is
tells_counts read (faults.Shape pointer kind) is = ap counts_read is
tells_counts read (faults.Syntax pointer line column kind) is = ap counts_read is
tells_counts read (faults.Check pointer line column kind) is = ap counts_read is
tells_counts read faults.NoMemory is = tt
