use Rattle.frame_shapes.proofs.Returns.{return_fault_is}
use Rattle.frame_shapes.proofs.laws.return_fault_is_that.Goals as goal

pub returns : goal.returns
returns c = return_fault_is
