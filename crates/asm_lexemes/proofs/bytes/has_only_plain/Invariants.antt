use Rattle.std.proofs.Common.{◌≡◌, drop}
use Rattle.asm_lexemes.specs.Bytes.{has_only_plain}
use Rattle.asm_lexemes.proofs.bytes.has_only_plain.Given as goal

abbrev pub invariant-loop-byte : goal.invariant-loop-byte
invariant-loop-byte l = has_only_plain (drop l.byte-index l.line) ≡ has_only_plain l.line
