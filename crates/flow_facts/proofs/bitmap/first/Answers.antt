use Rattle.predicate_rel.proofs.BitLemmas.{lowest_there}
use Rattle.flow_facts.proofs.Words.{none_below}
use Rattle.flow_facts.proofs.bitmap.first.Goals as goal

pub returns-clause-there : goal.returns-clause-there
returns-clause-there c = lowest_there c.args.word c.requires c.ranges.word.fits

pub returns-clause-none_below : goal.returns-clause-none_below
returns-clause-none_below c = none_below c.args.word c.requires c.ranges.word.fits
