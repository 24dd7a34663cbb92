use Rattle.std.proofs.Common.{◌≡◌, ◌+◌, ◌++◌, take, vec_len, vec_capacity}
use Rattle.asm_printing.proofs.numerals.put_bytes.Given as goal

abbrev pub invariant-loop-byte : goal.invariant-loop-byte
invariant-loop-byte l =
    (l.out.items ≡ l.initial.out.items ++ take l.byte-index l.bytes)
    × (vec_len l.out ≡ vec_len l.initial.out + l.byte-index)
    × (vec_capacity l.out ≡ vec_capacity l.initial.out)
