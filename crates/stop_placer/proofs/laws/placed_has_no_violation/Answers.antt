use Rattle.stop_placer.proofs.PackedTexts.{free_where_placed}
use Rattle.stop_placer.proofs.laws.placed_has_no_violation.Goals as goal

pub returns : goal.returns
returns c = free_where_placed c.loose_texts_are_loose.ensures
