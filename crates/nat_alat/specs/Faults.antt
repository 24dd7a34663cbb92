-- The faults of an access, among those of a slot.
use Rattle.ia_program.specs.declared.ending.FaultKind.{FaultKind}
use Rattle.ia_program.specs.declared.ending.FaultKind.TheVariants as kind
use Rattle.nat_alat.specs.declared.fault.MemFault.{MemFault}
use Rattle.nat_alat.specs.declared.fault.MemFault.TheVariants.{Unaligned, BadAddress}

abbrev pub fault_of : MemFault → FaultKind
fault_of Unaligned = kind.Unaligned
fault_of BadAddress = kind.BadAddress
