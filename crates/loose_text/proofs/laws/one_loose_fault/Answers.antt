use Rattle.loose_text.proofs.OneLoose.{one_fault}
use Rattle.loose_text.proofs.laws.one_loose_fault.Goals as goal

pub returns : goal.returns
returns c =
    one_fault (record {
      value = c.a_line_has_one_answer.ensures.value;
      fault = c.a_line_has_one_answer.ensures.fault;
      either = c.a_line_has_one_answer.ensures.either;
    })
