use Rattle.std.proofs.Common.{rules}
use Rattle.slee_disk.specs.MemoryDisk.{seen_of}
use Rattle.slee_disk.proofs.Images.{image_is_left}
use Rattle.slee_disk.proofs.memory_disk.MemoryDisk.image.Goals as goal

pub returns-clause-possible : goal.returns-clause-possible
returns-clause-possible c t le = image_is_left c.args.self.now c.args.call c.args.part c.args.fill t (seen_of c.in_ok-disk.disk) (search rules) c.requires le
