use Rattle.ia64_top.proofs.OneOutput.{are_one, one_output}
use Rattle.ia64_top.proofs.laws.one_output.Goals as goal

pub returns : goal.returns
returns c =
    one_output (are_one c.one_program.ensures c.one_raw_program.ensures c.one_text_program.ensures c.no_fault_where_spelled.ensures
    c.no_fault_where_raw.ensures c.no_fault_where_read.ensures c.one_fault.ensures c.one_raw_fault.ensures c.one_text_fault.ensures
    c.one_image.ensures c.one_spelling.ensures c.one_verdict.ensures c.one_placed.ensures c.one_placing_fault.ensures
    c.no_fault_where_placed.ensures)
