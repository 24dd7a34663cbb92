use Rattle.asm_text.proofs.LinesBack.{line_back, line_short}
use Rattle.asm_text.proofs.laws.printed_slots_are_read_back.Goals as goal

pub returns-clause-back : goal.returns-clause-back
returns-clause-back c = line_back

pub returns-clause-short : goal.returns-clause-short
returns-clause-short c = line_short
