use Rattle.std.proofs.Common.{◌≡◌, ◌+◌, drop}
use Rattle.asm_lexemes.specs.Lexemes.{name_run}
use Rattle.asm_lexemes.proofs.line.name_run.Given as goal

abbrev pub invariant-loop-byte : goal.invariant-loop-byte
invariant-loop-byte l = (l.run ≡ l.byte-index) × (name_run (drop l.byte-index l.bytes) + l.run ≡ name_run l.bytes)
