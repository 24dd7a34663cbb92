use Rattle.asm_build.proofs.OneOutcome.{one_program}
use Rattle.asm_build.proofs.laws.one_text_program.Goals as goal

pub returns : goal.returns
returns c =
    one_program (record {
      value = c.a_line_has_one_answer.ensures.value;
      fault = c.a_line_has_one_answer.ensures.fault;
      either = c.a_line_has_one_answer.ensures.either;
    })
