use Rattle.asm_build.specs.TextReading.{Reads, HasTextFault}
use Rattle.asm_build.proofs.Answering.{answers_value, answers_fault}
use Rattle.asm_build.proofs.assembly.assemble.Goals as goal

pub returns-clause-only : goal.returns-clause-only
returns-clause-only c =
    answers_value Reads HasTextFault c.one_text_program.ensures c.no_fault_where_read.ensures c.args.text.now c.read.result
    c.read.ensures.found c.read.ensures.fault

pub returns-clause-only_fault : goal.returns-clause-only_fault
returns-clause-only_fault c =
    answers_fault Reads HasTextFault c.one_text_fault.ensures c.no_fault_where_read.ensures c.args.text.now c.read.result
    c.read.ensures.found c.read.ensures.fault
