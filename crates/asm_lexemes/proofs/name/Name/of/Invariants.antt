use Rattle.std.proofs.Common.{◌≡◌, take}
use Rattle.asm_lexemes.proofs.name.Name.of.Given as goal

abbrev pub invariant-loop-byte : goal.invariant-loop-byte
invariant-loop-byte l = l.copy.items ≡ take l.byte-index l.bytes
