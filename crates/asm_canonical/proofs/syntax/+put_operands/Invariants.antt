use Rattle.std.proofs.Common.{length}
use Rattle.asm_canonical.proofs.syntax.+put_operands.Given as goal

abbrev pub decreases-put_operands : goal.decreases-put_operands
decreases-put_operands l = length l.items.now
