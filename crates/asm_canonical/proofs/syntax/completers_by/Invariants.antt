use Rattle.std.proofs.Common.{◌≡◌, take, map}
use Rattle.insn_rows.specs.Values.{at}
use Rattle.asm_canonical.specs.Canonical.{completer_of}
use Rattle.asm_canonical.proofs.syntax.completers_by.Given as goal

abbrev pub invariant-loop-set : goal.invariant-loop-set
invariant-loop-set l = l.completers.items ≡ map (λ s. completer_of s.0 l.opcode (at l.values s.1)) (take l.set-index l.sets)
