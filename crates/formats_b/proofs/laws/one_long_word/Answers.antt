use Rattle.formats_b.proofs.WordsX.{one_word}
use Rattle.formats_b.proofs.laws.one_long_word.Goals as goal

pub returns : goal.returns
returns c = one_word
