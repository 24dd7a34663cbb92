use Rattle.insn_codec.proofs.Spellings.{one_spelling}
use Rattle.insn_codec.proofs.laws.one_spelling.Goals as goal

pub returns : goal.returns
returns c = one_spelling c.one_bytes.ensures c.one_word.ensures c.one_long_word.ensures
