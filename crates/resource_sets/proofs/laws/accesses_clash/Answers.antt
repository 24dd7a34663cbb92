use Rattle.resource_sets.proofs.Regularity.{accesses_clash, changes_clash, guards_written}
use Rattle.resource_sets.proofs.laws.accesses_clash.Goals as goal

pub returns-clause-clash : goal.returns-clause-clash
returns-clause-clash c = accesses_clash

pub returns-clause-rule : goal.returns-clause-rule
returns-clause-rule c = changes_clash

pub returns-clause-guards : goal.returns-clause-guards
returns-clause-guards c = guards_written
