use Rattle.std.proofs.Common.{length, arith}
use Rattle.slee_disk.proofs.Nothing.{untold_torn}
use Rattle.slee_disk.proofs.host_disk.HostDiskDisk.write_at.Goals as goal

pub returns-in-Ok-clause-changes : goal.returns-in-Ok-clause-changes
returns-in-Ok-clause-changes g c = untold_torn c.args.side c.args.at (length c.args.bytes.now) c.args.self.now.faults c.args.self.now.faults _ (omega arith) (λ failed. absurd cc)

pub returns-in-Err-clause-changes : goal.returns-in-Err-clause-changes
returns-in-Err-clause-changes g c = untold_torn c.args.side c.args.at (length c.args.bytes.now) c.args.self.now.faults c.fault.new.self.faults _ c.fault.ensures.later (λ failed. c.fault.ensures.rose)
