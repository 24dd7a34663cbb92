use Rattle.stop_placer.proofs.PackedTexts.{one_fault_placing}
use Rattle.stop_placer.proofs.laws.one_placing_fault.Goals as goal

pub returns : goal.returns
returns c = one_fault_placing c.one_loose_text.ensures c.one_loose_fault.ensures c.no_loose_fault_where_read.ensures
