use Rattle.std.proofs.Common.{◌≡◌, drop}
use Rattle.insn_rows.specs.Values.{at}
use Rattle.asm_canonical.specs.Canonical.{has_fixed}
use Rattle.asm_canonical.proofs.forms.has_fixed.Given as goal

abbrev pub invariant-loop-said : goal.invariant-loop-said
invariant-loop-said l = has_fixed (drop l.said-index l.fixed) l.opcode (at l.values) ≡ has_fixed l.fixed l.opcode (at l.values)
