use Rattle.rotation.proofs.Indexes.{within, rotating_within}
use Rattle.rotation.proofs.laws.indexes_within.Goals as goal

pub returns-clause-frame : goal.returns-clause-frame
returns-clause-frame c = within

pub returns-clause-rotating : goal.returns-clause-rotating
returns-clause-rotating c = rotating_within
