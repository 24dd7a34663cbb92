use Rattle.std.proofs.Common.{length}
use Rattle.asm_instructions.proofs.instruction.+put_fixed.Given as goal

abbrev pub decreases-put_fixed : goal.decreases-put_fixed
decreases-put_fixed l = length l.fixed.now
