use Rattle.formats_b.proofs.WordsX.{one_insn}
use Rattle.formats_b.proofs.laws.one_instruction_x.Goals as goal

pub returns : goal.returns
returns c = one_insn
