use Rattle.std.proofs.Common.{◌≡◌, drop}
use Rattle.std.specs.List.{find}
use Rattle.asm_forms.specs.Spelled.{is_spelled}
use Rattle.asm_matching.proofs.matching.find_form.Given as goal

abbrev pub invariant-loop-form : goal.invariant-loop-form
invariant-loop-form l = find (is_spelled l.operands) (drop l.form-index l.forms) ≡ find (is_spelled l.operands) l.forms
