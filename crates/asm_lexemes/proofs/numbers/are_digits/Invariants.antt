use Rattle.std.proofs.Common.{◌≡◌, drop}
use Rattle.asm_lexemes.specs.Numbers.{are_digits}
use Rattle.asm_lexemes.proofs.numbers.are_digits.Given as goal

abbrev pub invariant-loop-byte : goal.invariant-loop-byte
invariant-loop-byte l = are_digits l.base (drop l.byte-index l.digits) ≡ are_digits l.base l.digits
