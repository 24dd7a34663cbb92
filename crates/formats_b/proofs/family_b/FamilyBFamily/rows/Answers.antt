use Rattle.std.proofs.Common.{refl}
use Rattle.formats_b.specs.ListedB.{rows}
use Rattle.formats_b.proofs.family_b.FamilyBFamily.rows.Goals as goal

pub returns : goal.returns
unfolding rows
returns c = refl
