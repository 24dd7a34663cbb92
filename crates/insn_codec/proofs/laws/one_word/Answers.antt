use Rattle.insn_codec.proofs.Units.{one_word}
use Rattle.insn_codec.proofs.laws.one_word.Goals as goal

pub returns : goal.returns
returns c =
    one_word c.one_word.ensures c.one_word-2.ensures c.one_word-3.ensures c.one_word-4.ensures c.one_word-5.ensures
