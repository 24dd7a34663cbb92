use Rattle.std.proofs.Common.{rules, arith, length, ◌≡◌, ◌⊎◌, ◌+◌, ◌∷◌, Result, Err}
use Rattle.asm_build.specs.declared.reason.TextError.{TextError}
use Rattle.asm_build.specs.declared.reason.TextError.TheVariants as error
use Rattle.asm_build.specs.TextReading.{ComesToBy, text_lines}
use Rattle.asm_build.proofs.TakenLines.{one_more, refused_after}
use Rattle.asm_build.proofs.reading.take_lines.Goals as goal

pub returns-in_err-take_line-clause-err : goal.returns-in_err-take_line-clause-err
returns-in_err-take_line-clause-err g c =
    let reading = g.P.TakesLines.reading in
    let before = c.loop-line.parts in
    let line = c.in-Some.line.now in
    let all = text_lines c.args.text.now in
    let go : (r : Result _ TextError) → ComesToBy reading before (c.loop-line.count + 1) (line ∷ c.next.new.self) r
    → ComesToBy reading reading.start 1 all r = rw c.in-Some.ensures.steps at c.loop-line.invariant.1 in
    let fault : (c.in_err-take_line.field-0.0 ≡ error.Memory) ⊎ ComesToBy reading reading.start 1 all (Err c.in_err-take_line.field-0.0) =
    refused_after reading before reading.start (c.loop-line.count + 1) line c.next.new.self all c.in_err-take_line.field-0.0 go
    c.in_err-take_line.ensures.err in
    search (rules, fault)

pub loop-line-preserved : goal.loop-line-preserved
loop-line-preserved g c =
    let reading = g.P.TakesLines.reading in
    let before = c.loop-line.parts in
    let line = c.in-Some.line.now in
    let all = text_lines c.args.text.now in
    let count : c.loop-line.count + length (line ∷ c.next.new.self) ≡ length all = rw c.in-Some.ensures.steps at c.loop-line.invariant.0 in
    let go : (r : Result _ TextError) → ComesToBy reading before (c.loop-line.count + 1) (line ∷ c.next.new.self) r
    → ComesToBy reading reading.start 1 all r = rw c.in-Some.ensures.steps at c.loop-line.invariant.1 in (
      omega (arith, count),
      λ r rest. go r (one_more reading before c.take_line.new.parts (c.loop-line.count + 1) line c.next.new.self r
          c.in_ok-take_line.ensures.ok rest),
    )
