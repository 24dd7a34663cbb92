-- When rows are those of a family, whose words have so many bits and are at least so much.
use Rattle.std.specs.Prelude.{ℕ, ◌+◌, ◌^◌, ◌&&◌, nat_le, nat_lt, IsTrue, Bool, List, Option}
use Rattle.std.specs.List.{list_all}
use Rattle.insn_rows.specs.declared.bits.BitField.{BitField}
use Rattle.insn_rows.specs.declared.opcode.Opcode.{Opcode}
use Rattle.insn_rows.specs.declared.row.Row.{Row}
use Rattle.insn_rows.specs.Rows.{operands}
use Rattle.insn_rows.specs.WellMade.{fields, is_table}
use Rattle.insn_rows.specs.Codes.{IsRowIndexOf}

-- The fixed bits come to at least this.
abbrev pub reaches : ℕ → Row → Bool
reaches least r = nat_le least r.fixed

-- The fixed bits and the operands have only the bits below this one.
abbrev pub is_below : ℕ → BitField → Bool
is_below k f = nat_le (f.low + f.width) k

abbrev pub stays_below : ℕ → Row → Bool
stays_below k r = nat_lt r.fixed (2 ^ k) && list_all (is_below k) (fields (operands r))

-- The rows are a table, and the row of each opcode stands where it is said to.
pub record IsFamily (rows : List Row) (row_index : Opcode → Option ℕ) (least width : ℕ) : Type 0 where
  pub table : IsTrue (is_table rows)
  pub reach : IsTrue (list_all (reaches least) rows)
  pub stay : IsTrue (list_all (stays_below width) rows)
  pub row_indexes : (c : Opcode) → IsRowIndexOf rows (row_index c) c
