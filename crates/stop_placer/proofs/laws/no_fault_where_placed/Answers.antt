use Rattle.stop_placer.proofs.PackedTexts.{none_where_placed}
use Rattle.stop_placer.proofs.laws.no_fault_where_placed.Goals as goal

pub returns : goal.returns
returns c = none_where_placed c.one_loose_text.ensures c.no_loose_fault_where_read.ensures
