use Rattle.std.proofs.Common.{◌≡◌, drop}
use Rattle.std.specs.Cmp.Lexicographic.{pointwise}
use Rattle.asm_forms.specs.Items.{accepts}
use Rattle.asm_forms.proofs.items.are_accepted.Given as goal

abbrev pub invariant-loop-at : goal.invariant-loop-at
invariant-loop-at l = pointwise accepts (drop l.at l.items) (drop l.at l.operands) ≡ pointwise accepts l.items l.operands
