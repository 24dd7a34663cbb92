use Rattle.std.proofs.Common.{arith}
use Rattle.bstr.proofs.lemmas.LengthLemmas.{length-lines}
use Rattle.asm_build.specs.TextReading.{program_reading}
use Rattle.asm_build.proofs.TakenLines.{end_reported}
use Rattle.asm_build.proofs.assembly.read.Goals as goal

pub finish-requires : goal.finish-requires
finish-requires c = omega (arith, c.in_ok-count.ensures.count, length-lines c.args.text.now, c.requires)

pub returns-clause-fault : goal.returns-clause-fault
returns-clause-fault c =
    end_reported program_reading c.args.text.now c.take_lines.new.parts c.in_ok-count.count c.finish.result c.in_ok-count.ensures.ok
    c.in_ok-count.ensures.count c.finish.ensures.err
