use Rattle.loose_text.proofs.ReadTexts.{read_is_loose}
use Rattle.loose_text.proofs.laws.loose_texts_are_loose.Goals as goal

pub returns : goal.returns
returns c = read_is_loose
