-- Which long instructions there are, and their words: those of the rows (volume 3, chapter 4, instruction formats, X1, X2 and
-- X5).
use Rattle.std.specs.Prelude.{◌≡◌, ℕ, List}
use Rattle.ia_insn.specs.declared.insn.Insn.{Insn}
use Rattle.insn_rows.specs.declared.row.Row.{Row}
use Rattle.insn_rows.specs.Codes.{HasRow}
use Rattle.formats_b.specs.PartsX.{low_of, slot_op, HasNumberInRange}
use Rattle.formats_b.specs.declared.family_x.rows.TheConstants.{ROWS}

unfoldable pub rows : List Row
rows = ROWS

-- The instruction with what the X slot holds of its immediate.
abbrev pub slot_part : Insn → Insn
slot_part insn = record { qp = insn.qp; op = slot_op insn.op }

-- The words are those of the instruction, a long one: that of the L slot, and that of the X slot, which a row gives to its
-- part there.
pub record CodeX (insn : Insn) (l word : ℕ) : Type 0 where
  pub code : HasRow rows (slot_part insn) word
  pub low : l ≡ low_of insn.op
  pub within : HasNumberInRange insn.op

-- The instruction is a long one: it has words.
abbrev pub IsListedX : Insn → Type 0
IsListedX insn = (word : ℕ) × CodeX insn (low_of insn.op) word

-- The words of the L slot and the X slot are those of at most one long instruction.
abbrev pub OneLongInstruction : Type 0
OneLongInstruction = (l word : ℕ) (i j : Insn) → CodeX i l word → CodeX j l word → i ≡ j

-- A long instruction has at most one word in the L slot and one in the X slot.
abbrev pub OneLongWord : Type 0
OneLongWord = (i : Insn) (l m v w : ℕ) → CodeX i l v → CodeX i m w → (l ≡ m) × (v ≡ w)
