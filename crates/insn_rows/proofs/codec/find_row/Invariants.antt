use Rattle.std.proofs.Common.{◌≡◌, ℕ, ◌<◌, false, get_or}
use Rattle.insn_rows.specs.Reading.{matches}
use Rattle.insn_rows.specs.declared.row.Row.{Row}
use Rattle.insn_rows.proofs.codec.find_row.Given as goal

abbrev pub invariant-loop-row_index : goal.invariant-loop-row_index
invariant-loop-row_index l = (j : ℕ) (r : Row) → j < l.row_index-index → matches (get_or l.rows (get_or l.row_indexes j 0) r) l.word ≡ false
