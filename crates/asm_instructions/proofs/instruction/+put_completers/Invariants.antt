use Rattle.std.proofs.Common.{length}
use Rattle.asm_instructions.proofs.instruction.+put_completers.Given as goal

abbrev pub decreases-put_completers : goal.decreases-put_completers
decreases-put_completers l = length l.sets.now
