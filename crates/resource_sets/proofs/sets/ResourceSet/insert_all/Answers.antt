use Rattle.resource_sets.proofs.SetBits.{has_either}
use Rattle.resource_sets.proofs.sets.ResourceSet.insert_all.Goals as goal

pub returns : goal.returns
returns c q = has_either c.args.self.now c.args.other.now q
