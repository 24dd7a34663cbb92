use Rattle.resource_sets.proofs.SetBits.{has_both}
use Rattle.resource_sets.proofs.sets.ResourceSet.intersection.Goals as goal

pub returns : goal.returns
returns c q = has_both c.args.self.now c.args.other.now q
