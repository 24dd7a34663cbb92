use Rattle.asm_reading.proofs.FaultOrderLaws.{before_decides, token_decides}
use Rattle.asm_reading.proofs.laws.the_first_wrong_token_decides.Goals as goal

pub returns-clause-before : goal.returns-clause-before
returns-clause-before c = before_decides

pub returns-clause-after : goal.returns-clause-after
returns-clause-after c = token_decides
