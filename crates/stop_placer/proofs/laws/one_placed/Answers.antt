use Rattle.stop_placer.proofs.PackedTexts.{placed_once}
use Rattle.stop_placer.proofs.laws.one_placed.Goals as goal

pub returns : goal.returns
returns c = placed_once c.one_loose_text.ensures c.loose_texts_are_loose.ensures
