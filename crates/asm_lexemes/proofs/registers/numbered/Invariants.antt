use Rattle.std.proofs.Common.{◌≡◌, ◌<◌, take, drop}
use Rattle.std.specs.Str.Parse.{digits_value}
use Rattle.asm_lexemes.specs.Numbers.{are_digits}
use Rattle.asm_lexemes.proofs.registers.numbered.Given as goal

abbrev pub invariant-loop-byte : goal.invariant-loop-byte
invariant-loop-byte l =
    record {
      small : l.n < l.limit;
      value : l.n ≡ digits_value 10 (take l.byte-index l.digits);
      digits : are_digits 10 (drop l.byte-index l.digits) ≡ are_digits 10 l.digits;
    }
