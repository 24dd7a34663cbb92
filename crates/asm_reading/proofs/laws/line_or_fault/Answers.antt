use Rattle.asm_reading.proofs.SomeAnswer.{line_or_fault}
use Rattle.asm_reading.proofs.laws.line_or_fault.Goals as goal

pub returns : goal.returns
returns c = line_or_fault
