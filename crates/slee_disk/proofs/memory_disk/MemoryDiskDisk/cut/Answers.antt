use Rattle.slee_disk.proofs.Recording.{cut_cut}
use Rattle.slee_disk.proofs.memory_disk.MemoryDiskDisk.cut.Goals as goal

pub returns-clause-cut : goal.returns-clause-cut
returns-clause-cut c = cut_cut _ _ _ _ _ c.record.ensures.recorded
