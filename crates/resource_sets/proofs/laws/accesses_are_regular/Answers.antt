use Rattle.resource_sets.proofs.Regularity.{regular, guards, named_accesses, named_or_placed, guarded, alloc_writes, predicates_read, statics_read, listed_has, accesses_listed, in_range, guards_in_range, named_as_found, agree_by}
use Rattle.resource_sets.proofs.laws.accesses_are_regular.Goals as goal

pub returns-clause-regular : goal.returns-clause-regular
returns-clause-regular c = regular

pub returns-clause-guards : goal.returns-clause-guards
returns-clause-guards c = guards

pub returns-clause-named : goal.returns-clause-named
returns-clause-named c = named_accesses

pub returns-clause-placed : goal.returns-clause-placed
returns-clause-placed c = named_or_placed

pub returns-clause-guarded : goal.returns-clause-guarded
returns-clause-guarded c = guarded

pub returns-clause-allocs : goal.returns-clause-allocs
returns-clause-allocs c = alloc_writes

pub returns-clause-predicates : goal.returns-clause-predicates
returns-clause-predicates c = predicates_read

pub returns-clause-statics : goal.returns-clause-statics
returns-clause-statics c = statics_read

pub returns-clause-listed : goal.returns-clause-listed
returns-clause-listed c = listed_has

pub returns-clause-accesses : goal.returns-clause-accesses
returns-clause-accesses c = accesses_listed

pub returns-clause-range : goal.returns-clause-range
returns-clause-range c = in_range

pub returns-clause-guards_range : goal.returns-clause-guards_range
returns-clause-guards_range c = guards_in_range

pub returns-clause-found : goal.returns-clause-found
returns-clause-found c = named_as_found

pub returns-clause-agree : goal.returns-clause-agree
returns-clause-agree c = agree_by
