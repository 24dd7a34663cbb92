use Rattle.std.proofs.Common.{◌∙◌}
use Rattle.asm_reading.proofs.LexemeLists.{one_lexeme}
use Rattle.asm_reading.proofs.reading.line_of.Goals as goal

pub returns-in-len1 : goal.returns-in-len1
returns-in-len1 c = c.line_without_label.ensures ∙ one_lexeme c.args.line.now c.args.lexemes.now c.in-len1.len_at_least c.in-len1.len_below
