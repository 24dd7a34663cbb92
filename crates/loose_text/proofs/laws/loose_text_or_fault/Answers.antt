use Rattle.loose_text.proofs.SomeLoose.{loose_or_fault}
use Rattle.loose_text.proofs.laws.loose_text_or_fault.Goals as goal

pub returns : goal.returns
returns c = loose_or_fault c.line_or_fault.ensures
