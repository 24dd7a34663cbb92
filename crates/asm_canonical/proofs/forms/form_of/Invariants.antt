use Rattle.std.proofs.Common.{◌≡◌, drop}
use Rattle.std.specs.List.{find}
use Rattle.asm_forms.specs.Rows.{row_of}
use Rattle.insn_rows.specs.Values.{at}
use Rattle.asm_canonical.specs.Canonical.{forms_of, has_fixed}
use Rattle.asm_canonical.proofs.forms.form_of.Given as goal

abbrev pub invariant-loop-form : goal.invariant-loop-form
invariant-loop-form l =
    find (λ f. has_fixed (row_of f).fixed l.opcode (at l.values)) (drop l.form-index (forms_of l.opcode))
    ≡ find (λ f. has_fixed (row_of f).fixed l.opcode (at l.values)) (forms_of l.opcode)
