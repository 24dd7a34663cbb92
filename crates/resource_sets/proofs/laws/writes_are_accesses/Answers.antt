use Rattle.resource_sets.proofs.Coverage.{covered, cells_inside, spills}
use Rattle.resource_sets.proofs.Apart.{apart}
use Rattle.resource_sets.proofs.AllocWrites.{frame_first, new_frame}
use Rattle.resource_sets.proofs.Locations.{resource_once, predicate_at}
use Rattle.resource_sets.proofs.laws.writes_are_accesses.Goals as goal

pub returns-clause-covered : goal.returns-clause-covered
returns-clause-covered c = covered

pub returns-clause-inside : goal.returns-clause-inside
returns-clause-inside c = cells_inside

pub returns-clause-apart : goal.returns-clause-apart
returns-clause-apart c = apart

pub returns-clause-spills : goal.returns-clause-spills
returns-clause-spills c = spills

pub returns-clause-one : goal.returns-clause-one
returns-clause-one c = resource_once

pub returns-clause-predicate : goal.returns-clause-predicate
returns-clause-predicate c = predicate_at

pub returns-clause-first : goal.returns-clause-first
returns-clause-first c = frame_first

pub returns-clause-frame : goal.returns-clause-frame
returns-clause-frame c = new_frame
