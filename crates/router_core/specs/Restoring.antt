-- Why no state is restored.
use Rattle.snapshot_read.specs.declared.fault.ReadFault.{ReadFault}
use Rattle.snapshot_read.specs.declared.fault.ReadFault.TheVariants as reads
use Rattle.router_core.specs.declared.fault.StateFault.{StateFault}
use Rattle.router_core.specs.declared.fault.StateFault.TheVariants as faults

-- the fault of the state that a fault of its rows is
abbrev pub fault_of : ReadFault → StateFault
fault_of reads.Bad = faults.Bad
fault_of reads.NoMemory = faults.NoMemory
