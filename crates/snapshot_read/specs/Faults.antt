-- Why no rows are read.
use Rattle.slee_value.specs.declared.fault.PartFault.{PartFault}
use Rattle.slee_value.specs.declared.fault.PartFault.TheVariants as parts
use Rattle.snapshot_read.specs.declared.fault.ReadFault.{ReadFault}
use Rattle.snapshot_read.specs.declared.fault.ReadFault.TheVariants as faults

-- the fault for the whole that a part's fault is
abbrev pub fault_of : PartFault → ReadFault
fault_of (parts.Bad left kind) = faults.Bad
fault_of parts.NoMemory = faults.NoMemory
