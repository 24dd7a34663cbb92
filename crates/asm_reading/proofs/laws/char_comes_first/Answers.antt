use Rattle.asm_reading.proofs.FaultOrderLaws.{char_first}
use Rattle.asm_reading.proofs.laws.char_comes_first.Goals as goal

pub returns : goal.returns
returns c = char_first
