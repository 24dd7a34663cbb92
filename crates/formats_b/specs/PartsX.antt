-- The parts of a long immediate: what the L slot and what the X slot holds (volume 3, chapter 4, instruction formats, X1, X2
-- and X5).
use Rattle.std.specs.Prelude.{ℕ, ◌+◌, ◌*◌, ◌^◌, ◌<◌}
use Rattle.bundle_bits.specs.Words.{bits}
use Rattle.ia_insn.specs.declared.insn.Op.{Op}
use Rattle.ia_insn.specs.declared.insn.Op.TheVariants.{Movl, Break, Nop}

-- The word of the L slot: 41 bits of the immediate. The number of a break or nop has bit 36 of the X
-- slot on top, then the L slot, then bits 25:6. This order is a choice of this profile: the GNU tools,
-- and as far as known the manual, have the L slot on top and bit 36 below it.
abbrev pub low_of : Op → ℕ
low_of (Movl r1 imm) = bits 22 41 imm
low_of (Break unit imm) = bits 20 41 imm
low_of (Nop unit imm) = bits 20 41 imm
low_of op = 0

-- What the X slot holds of the number of a break or nop: its top bit, and its 20 low bits.
abbrev pub number_part : ℕ → ℕ
number_part n = bits 61 1 n * 2 ^ 20 + bits 0 20 n

-- What the X slot holds of the immediate of a move: i, imm9d, imm5c, ic and imm7b, in the order of the word.
abbrev pub move_part : ℕ → ℕ
move_part n = bits 63 1 n * 2 ^ 22 + bits 7 9 n * 2 ^ 13 + bits 16 5 n * 2 ^ 8 + bits 21 1 n * 2 ^ 7 + bits 0 7 n

-- The operation with this part in place of its immediate.
abbrev pub slot_op : Op → Op
slot_op (Movl r1 imm) = Movl r1 (move_part imm)
slot_op (Break unit imm) = Break unit (number_part imm)
slot_op (Nop unit imm) = Nop unit (number_part imm)
slot_op op = op

-- The way back.
abbrev pub whole_number : ℕ → ℕ → ℕ
whole_number low part = bits 20 1 part * 2 ^ 61 + low * 2 ^ 20 + bits 0 20 part

abbrev pub whole_move : ℕ → ℕ → ℕ
whole_move low part =
    bits 22 1 part * 2 ^ 63 + low * 2 ^ 22 + bits 7 1 part * 2 ^ 21 + bits 8 5 part * 2 ^ 16 + bits 13 9 part * 2 ^ 7 + bits 0 7 part

abbrev pub whole_op : ℕ → Op → Op
whole_op low (Movl r1 part) = Movl r1 (whole_move low part)
whole_op low (Break unit part) = Break unit (whole_number low part)
whole_op low (Nop unit part) = Nop unit (whole_number low part)
whole_op low op = op

-- A long immediate has its bits: 64 of a move, and 62 of a break or nop.
abbrev pub HasNumberInRange : Op → Type 0
HasNumberInRange (Movl r1 imm) = imm < 2 ^ 64
HasNumberInRange (Break unit imm) = imm < 2 ^ 62
HasNumberInRange (Nop unit imm) = imm < 2 ^ 62
HasNumberInRange op = Unit {0}
