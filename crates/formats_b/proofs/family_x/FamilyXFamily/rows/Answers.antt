use Rattle.std.proofs.Common.{refl}
use Rattle.formats_b.specs.ListedX.{rows}
use Rattle.formats_b.proofs.family_x.FamilyXFamily.rows.Goals as goal

pub returns : goal.returns
unfolding rows
returns c = refl
