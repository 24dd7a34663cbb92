use Rattle.stop_placer.proofs.PackedTexts.{keeps_where_placed}
use Rattle.stop_placer.proofs.laws.placed_keeps_text.Goals as goal

pub returns : goal.returns
returns c = keeps_where_placed c.loose_texts_are_loose.ensures
