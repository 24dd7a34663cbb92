use Rattle.std.proofs.Common.{arith}
use Rattle.bstr.proofs.lemmas.LengthLemmas.{length-lines}
use Rattle.asm_build.proofs.TakenLines.{end_reported}
use Rattle.loose_text.specs.LooseReading.{loose_reading}
use Rattle.loose_text.proofs.SoundLines.{all_sound}
use Rattle.loose_text.proofs.reading.read.Goals as goal

pub finish-requires-clause-count : goal.finish-requires-clause-count
finish-requires-clause-count c = omega (arith, c.in_ok-count.ensures.count, length-lines c.args.text.now, c.requires)

pub finish-requires-clause-sound : goal.finish-requires-clause-sound
finish-requires-clause-sound c = all_sound c.args.text.now c.take_lines.new.parts c.in_ok-count.ensures.ok

pub returns-clause-fault : goal.returns-clause-fault
returns-clause-fault c =
    end_reported loose_reading c.args.text.now c.take_lines.new.parts c.in_ok-count.count c.finish.result c.in_ok-count.ensures.ok
    c.in_ok-count.ensures.count c.finish.ensures.err
