use Rattle.asm_reading.proofs.FaultOrderLaws.{form_last}
use Rattle.asm_reading.proofs.laws.form_comes_last.Goals as goal

pub returns : goal.returns
returns c = form_last
