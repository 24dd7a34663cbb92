use Rattle.std.proofs.Common.{◌≡◌, ◌≤◌, ◌++◌, drop, map}
use Rattle.std.specs.Prelude.{filter}
use Rattle.arrayvec.specs.ArrayVec.{array_vec_len}
use Rattle.asm_forms.specs.Naming.{is_named}
use Rattle.asm_forms.specs.Rows.{seen}
use Rattle.asm_forms.proofs.naming.named_among.Given as goal

abbrev pub invariant-loop-row : goal.invariant-loop-row
invariant-loop-row l = record {
  room : array_vec_len l.named ≤ l.row-index;
  value : l.named.items ++ map (λ r. r.form) (filter (is_named l.name) (map seen (drop l.row-index l.rows))) ≡ map (λ r. r.form)
      (filter (is_named l.name) (map seen l.rows));
}
