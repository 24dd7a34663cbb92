use Rattle.asm_build.proofs.SomeOutcome.{text_or_fault}
use Rattle.asm_build.proofs.laws.text_or_fault.Goals as goal

pub returns : goal.returns
returns c = text_or_fault c.line_or_fault.ensures
