use Rattle.std.proofs.Common.{[]}
use Rattle.resource_sets.proofs.Members.{not_in_none}
use Rattle.resource_sets.proofs.AccessSets.{set_of}
use Rattle.resource_sets.proofs.access_sets.AccessSet.empty.Goals as goal

pub returns : goal.returns
returns c = set_of [] _ (λ a d. absurd (not_in_none a d)) c.empty.ensures
