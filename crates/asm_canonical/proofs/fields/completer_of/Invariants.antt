use Rattle.std.proofs.Common.{◌≡◌, drop}
use Rattle.std.specs.List.{find}
use Rattle.asm_canonical.specs.Canonical.{is_said}
use Rattle.asm_forms.specs.Completers.{members}
use Rattle.asm_canonical.proofs.fields.completer_of.Given as goal

abbrev pub invariant-loop-completer : goal.invariant-loop-completer
invariant-loop-completer l =
    find (λ c. is_said c.says l.opcode l.value) (drop l.completer-index l.completer-items) ≡ find (λ c. is_said c.says l.opcode l.value)
    (members l.set)
