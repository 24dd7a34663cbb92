use Rattle.insn_codec.proofs.Units.{one_instruction}
use Rattle.insn_codec.proofs.laws.one_instruction.Goals as goal

pub returns : goal.returns
returns c =
    one_instruction c.words_are_from.ensures c.words_are_below.ensures c.words_are_below-2.ensures c.one_instruction.ensures
    c.one_instruction-2.ensures c.one_instruction-3.ensures c.one_instruction-4.ensures c.one_instruction-5.ensures
