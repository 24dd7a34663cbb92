use Rattle.std.proofs.Common.{◌≡◌, ◌<◌, ◌^◌, take}
use Rattle.std.specs.Str.Parse.{digits_value}
use Rattle.asm_lexemes.proofs.numbers.numeral.Given as goal

abbrev pub invariant-loop-byte : goal.invariant-loop-byte
invariant-loop-byte l = record { small : l.total < 2 ^ 64; value : l.total ≡ digits_value l.base (take l.byte-index l.digits) }
