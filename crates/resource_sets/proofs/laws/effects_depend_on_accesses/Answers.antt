use Rattle.resource_sets.proofs.Dependence.{depends}
use Rattle.resource_sets.proofs.laws.effects_depend_on_accesses.Goals as goal

pub returns : goal.returns
returns c = depends
