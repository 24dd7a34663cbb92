use Rattle.ia_meaning.proofs.laws.groups_end.Goals as goal
use Rattle.ia_meaning.proofs.Inside.{stays_inside}
use Rattle.ia_meaning.proofs.GroupLengths.{seq_group_ends, par_group_ends}
use Rattle.ia_meaning.proofs.GroupEnds.{begun_under_way, advances_under_way, goes_on_under_way, has_few_slots, groups_end}

pub returns-clause-inside : goal.returns-clause-inside
returns-clause-inside c = stays_inside

pub returns-clause-one_by_one : goal.returns-clause-one_by_one
returns-clause-one_by_one c = seq_group_ends

pub returns-clause-all_at_once : goal.returns-clause-all_at_once
returns-clause-all_at_once c = par_group_ends

pub returns-clause-begins : goal.returns-clause-begins
returns-clause-begins c p s program is = begun_under_way p s is

pub returns-clause-advances : goal.returns-clause-advances
returns-clause-advances c = advances_under_way

pub returns-clause-goes_on : goal.returns-clause-goes_on
returns-clause-goes_on c = goes_on_under_way

pub returns-clause-few : goal.returns-clause-few
returns-clause-few c = has_few_slots

pub returns-clause-ends : goal.returns-clause-ends
returns-clause-ends c = groups_end
