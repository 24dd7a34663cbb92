use Rattle.asm_reading.proofs.FaultOrderLaws.{name_next}
use Rattle.asm_reading.proofs.laws.name_comes_next.Goals as goal

pub returns : goal.returns
returns c = name_next
