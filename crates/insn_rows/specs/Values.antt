-- The values of operands.
use Rattle.std.specs.Prelude.{ℕ, List, slice_index_or}
use Rattle.insn_rows.specs.declared.value.Value.{Value}
use Rattle.insn_rows.specs.declared.value.Value.TheVariants as v

-- The value of an operand, by its number: absent behind the last.
abbrev pub at : List Value → ℕ → Value
at xs n = slice_index_or xs n v.Absent
