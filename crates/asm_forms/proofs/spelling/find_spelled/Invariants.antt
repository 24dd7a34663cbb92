use Rattle.std.proofs.Common.{◌≡◌, drop, map}
use Rattle.asm_forms.specs.Naming.{named_forms}
use Rattle.asm_forms.specs.Rows.{seen, row_of}
use Rattle.asm_forms.proofs.RowSpelled.{spelled}
use Rattle.std.specs.List.{find}
use Rattle.asm_forms.specs.Spelled.{is_spelled}
use Rattle.asm_forms.proofs.spelling.find_spelled.Given as goal

abbrev pub invariant-loop-row : goal.invariant-loop-row
invariant-loop-row l = record {
  value : spelled l.name l.operands (map seen (drop l.row-index l.rows)) ≡ find (is_spelled l.operands) (named_forms l.name);
  own : map (λ r. row_of r.form) (map seen (drop l.row-index l.rows)) ≡ map seen (drop l.row-index l.rows);
}
