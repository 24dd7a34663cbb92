use Rattle.asm_build.proofs.OneOutcome.{one_text}
use Rattle.asm_build.proofs.laws.one_text_fault.Goals as goal

pub returns : goal.returns
returns c =
    one_text (record {
      value = c.a_line_has_one_answer.ensures.value;
      fault = c.a_line_has_one_answer.ensures.fault;
      either = c.a_line_has_one_answer.ensures.either;
    })
