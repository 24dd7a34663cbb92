use Rattle.asm_build.proofs.Answering.{answers_value, answers_fault}
use Rattle.loose_text.specs.LooseReading.{ReadsLoose, HasLooseFault}
use Rattle.loose_text.proofs.reading.read_loose.Goals as goal

pub returns-clause-only : goal.returns-clause-only
returns-clause-only c =
    answers_value ReadsLoose HasLooseFault c.one_loose_text.ensures c.no_loose_fault_where_read.ensures c.args.text.now c.read.result
    c.read.ensures.found c.read.ensures.fault

pub returns-clause-only_fault : goal.returns-clause-only_fault
returns-clause-only_fault c =
    answers_fault ReadsLoose HasLooseFault c.one_loose_fault.ensures c.no_loose_fault_where_read.ensures c.args.text.now c.read.result
    c.read.ensures.found c.read.ensures.fault
