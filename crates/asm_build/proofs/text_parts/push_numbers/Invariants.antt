use Rattle.std.proofs.Common.{◌≡◌, ◌++◌, drop}
use Rattle.asm_build.specs.TextParts.{numbers_bytes}
use Rattle.asm_build.proofs.text_parts.push_numbers.Given as goal

abbrev pub invariant-loop-number : goal.invariant-loop-number
invariant-loop-number l =
    l.data.items ++ numbers_bytes l.size (drop l.number-index l.numbers) ≡ l.fn.data.items ++ numbers_bytes l.size l.numbers
