use Rattle.std.proofs.Common.{◌≡◌, ◌++◌}
use Rattle.asm_build.proofs.assembly.rising.Given as goal

abbrev pub invariant-loop-item : goal.invariant-loop-item
invariant-loop-item g l = l.items.items ++ l.item-iterator ≡ l.set.keys
