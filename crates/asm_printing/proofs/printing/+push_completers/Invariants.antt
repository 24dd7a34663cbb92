use Rattle.std.proofs.Common.{length}
use Rattle.asm_printing.proofs.printing.+push_completers.Given as goal

abbrev pub decreases-push_completers : goal.decreases-push_completers
decreases-push_completers l = length l.completers.now
