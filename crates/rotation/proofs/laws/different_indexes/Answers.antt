use Rattle.rotation.proofs.Indexes.{apart, rotating_apart}
use Rattle.rotation.proofs.laws.different_indexes.Goals as goal

pub returns-clause-all : goal.returns-clause-all
returns-clause-all c = apart

pub returns-clause-rotating : goal.returns-clause-rotating
returns-clause-rotating c = rotating_apart
