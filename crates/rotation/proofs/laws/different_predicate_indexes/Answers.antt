use Rattle.rotation.proofs.Indexes.{predicates_apart}
use Rattle.rotation.proofs.laws.different_predicate_indexes.Goals as goal

pub returns : goal.returns
returns c = predicates_apart
