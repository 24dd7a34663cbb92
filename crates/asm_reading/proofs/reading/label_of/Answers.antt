use Rattle.asm_reading.proofs.LexemeLists.{label_alone}
use Rattle.asm_reading.proofs.reading.label_of.Goals as goal

pub returns-in-len1-up : goal.returns-in-len1-up
returns-in-len1-up c = label_alone c.args.text.now c.args.line.now c.args.rest.now c.in-len1-up.len_at_least
