use Rattle.asm_build.proofs.OneOutcome.{none_where_read}
use Rattle.asm_build.proofs.laws.no_fault_where_read.Goals as goal

pub returns : goal.returns
returns c =
    none_where_read (record {
      value = c.a_line_has_one_answer.ensures.value;
      fault = c.a_line_has_one_answer.ensures.fault;
      either = c.a_line_has_one_answer.ensures.either;
    })
