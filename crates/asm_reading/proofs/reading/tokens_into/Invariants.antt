use Rattle.std.proofs.Common.{◌≡◌, take}
use Rattle.asm_reading.specs.Lines.{texts, tokens}
use Rattle.asm_reading.proofs.reading.tokens_into.Given as goal

abbrev pub invariant-loop-lexeme : goal.invariant-loop-lexeme
invariant-loop-lexeme l = l.buffer ≡ tokens (texts l.line (take l.lexeme-index l.lexemes))
