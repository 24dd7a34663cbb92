use Rattle.std.proofs.Common.{◌≡◌, ◌+◌, length, Result}
use Rattle.asm_build.specs.declared.reason.TextError.{TextError}
use Rattle.asm_build.specs.TextReading.{ComesToBy, text_lines}
use Rattle.asm_build.proofs.reading.take_lines.Given as goal

abbrev pub invariant-loop-line : goal.invariant-loop-line
invariant-loop-line g l =
    let reading = g.P.TakesLines.reading in
    (l.count + length l.line-iterator ≡ length (text_lines l.fn.text))
    × ((r : Result _ TextError) → ComesToBy reading l.parts (l.count + 1) l.line-iterator r
    → ComesToBy reading reading.start 1 (text_lines l.fn.text) r)
