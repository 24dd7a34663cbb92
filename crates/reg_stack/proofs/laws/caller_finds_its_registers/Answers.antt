use Rattle.reg_stack.proofs.Returning.{caller_finds}
use Rattle.reg_stack.proofs.laws.caller_finds_its_registers.Goals as goal

pub returns : goal.returns
returns c = caller_finds
