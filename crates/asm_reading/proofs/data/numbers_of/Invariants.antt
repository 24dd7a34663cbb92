use Rattle.std.proofs.Common.{◌≡◌, ◌-◌, ◌*◌, ◌^◌, ◌++◌, drop, length}
use Rattle.arrayvec.specs.ArrayVec.{array_vec_len}
use Rattle.asm_instructions.specs.Operands.{bytes}
use Rattle.asm_reading.specs.Lines.{numbers_of}
use Rattle.asm_reading.proofs.data.numbers_of.Given as goal

abbrev pub invariant-loop-at : goal.invariant-loop-at
invariant-loop-at l = record {
  room : 2 * array_vec_len l.numbers ≡ l.at;
  value : l.numbers.items ++ numbers_of (2 ^ (8 * bytes l.size)) (drop l.at l.tokens) ≡ numbers_of (2 ^ (8 * bytes l.size)) l.tokens;
}

abbrev pub decreases-loop-at : goal.decreases-loop-at
decreases-loop-at l = length l.initial.tokens - l.at
