use Rattle.std.proofs.Common.{length}
use Rattle.asm_forms.proofs.operands.+take_into.Given as goal

abbrev pub decreases-take_into : goal.decreases-take_into
decreases-take_into l = length l.items.now
