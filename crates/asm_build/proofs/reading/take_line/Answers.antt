use Rattle.std.proofs.Common.{arith}
use Rattle.asm_build.proofs.TakenLines.{is_taken, is_refused}
use Rattle.asm_build.proofs.reading.take_line.Goals as goal

pub returns-in-Ok-clause-ok : goal.returns-in-Ok-clause-ok
returns-in-Ok-clause-ok g c =
    is_taken g.P.TakesLines.reading c.args.parts.now c.take.new.self c.args.n c.args.line.now c.read_line_into.new.value c.take.result
    (omega (arith, c.if-line-gt-LINE_LIMIT.false)) c.in-Ok.ensures.ok c.take.ensures.ok

pub returns-in-Ok-clause-err : goal.returns-in-Ok-clause-err
returns-in-Ok-clause-err g c =
    is_refused g.P.TakesLines.reading c.args.parts.now c.args.n c.args.line.now c.read_line_into.new.value c.take.result
    (omega (arith, c.if-line-gt-LINE_LIMIT.false)) c.in-Ok.ensures.ok c.take.ensures.err
