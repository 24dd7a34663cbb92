use Rattle.std.proofs.Common.{length}
use Rattle.asm_forms.proofs.naming.+has_completers.Given as goal

abbrev pub decreases-has_completers : goal.decreases-has_completers
decreases-has_completers l = length l.sets.now
