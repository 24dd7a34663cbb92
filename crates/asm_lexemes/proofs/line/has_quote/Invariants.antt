use Rattle.std.proofs.Common.{◌≡◌, drop}
use Rattle.asm_lexemes.specs.Lexemes.{has_quote}
use Rattle.asm_lexemes.proofs.line.has_quote.Given as goal

abbrev pub invariant-loop-byte : goal.invariant-loop-byte
invariant-loop-byte l = has_quote (drop l.byte-index l.bytes) ≡ has_quote l.bytes
