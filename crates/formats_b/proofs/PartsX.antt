-- A long immediate and its parts are each other's way back.
use Rattle.std.proofs.Common.{◌≡◌, ℕ, ◌^◌, ◌<◌, ap, refl, arith}
use Rattle.bundle_bits.specs.Words.{bits}
use Rattle.ia_insn.specs.declared.insn.Op.{Op}
use Rattle.ia_insn.specs.declared.insn.Op.TheVariants.{Movl, Break, Nop}
use Rattle.formats_b.specs.PartsX.{number_part, move_part, whole_number, whole_move, low_of, slot_op, whole_op, HasNumberInRange}

number_back : (n : ℕ) → n < 2 ^ 62 → whole_number (bits 20 41 n) (number_part n) ≡ n
number_back n h = omega arith

move_back : (n : ℕ) → n < 2 ^ 64 → whole_move (bits 22 41 n) (move_part n) ≡ n
move_back n h = omega arith

pub whole_back : (x : Op) → HasNumberInRange x → whole_op (low_of x) (slot_op x) ≡ x
whole_back (Movl r1 imm) h = ap (Movl r1) (move_back imm h)
whole_back (Break unit imm) h = ap (Break unit) (number_back imm h)
whole_back (Nop unit imm) h = ap (Nop unit) (number_back imm h)
whole_back x h = refl

-- The part of an immediate has the bits of its field: 23 of a move, and 21 of a break or nop.
abbrev pub IsPart : Op → Type 0
IsPart (Movl r1 part) = part < 2 ^ 23
IsPart (Break unit part) = part < 2 ^ 21
IsPart (Nop unit part) = part < 2 ^ 21
IsPart op = ⊥

number_again : (low p : ℕ) → low < 2 ^ 41 → p < 2 ^ 21 → number_part (whole_number low p) ≡ p
number_again low p l h = omega arith

number_low : (low p : ℕ) → low < 2 ^ 41 → p < 2 ^ 21 → bits 20 41 (whole_number low p) ≡ low
number_low low p l h = omega arith

number_within : (low p : ℕ) → low < 2 ^ 41 → whole_number low p < 2 ^ 62
number_within low p l = omega arith

move_again : (low p : ℕ) → low < 2 ^ 41 → p < 2 ^ 23 → move_part (whole_move low p) ≡ p
move_again low p l h = omega arith

move_low : (low p : ℕ) → low < 2 ^ 41 → p < 2 ^ 23 → bits 22 41 (whole_move low p) ≡ low
move_low low p l h = omega arith

move_within : (low p : ℕ) → low < 2 ^ 41 → whole_move low p < 2 ^ 64
move_within low p l = omega arith

pub slot_again : (low : ℕ) (x : Op) → low < 2 ^ 41 → IsPart x → slot_op (whole_op low x) ≡ x
slot_again low (Movl r1 p) l h = ap (Movl r1) (move_again low p l h)
slot_again low (Break unit p) l h = ap (Break unit) (number_again low p l h)
slot_again low (Nop unit p) l h = ap (Nop unit) (number_again low p l h)
slot_again low x l h = absurd h

pub low_again : (low : ℕ) (x : Op) → low < 2 ^ 41 → IsPart x → low_of (whole_op low x) ≡ low
low_again low (Movl r1 p) l h = move_low low p l h
low_again low (Break unit p) l h = number_low low p l h
low_again low (Nop unit p) l h = number_low low p l h
low_again low x l h = absurd h

pub within_again : (low : ℕ) (x : Op) → low < 2 ^ 41 → IsPart x → HasNumberInRange (whole_op low x)
within_again low (Movl r1 p) l h = move_within low p l
within_again low (Break unit p) l h = number_within low p l
within_again low (Nop unit p) l h = number_within low p l
within_again low x l h = absurd h

pub low_below : (x : Op) → low_of x < 2 ^ 41
low_below (Movl r1 imm) = omega arith
low_below (Break unit imm) = omega arith
low_below (Nop unit imm) = omega arith
low_below x = omega arith
