use Rattle.std.proofs.Common.{refl}
use Rattle.formats_b.specs.ListedF.{rows}
use Rattle.formats_b.proofs.family_f.FamilyFFamily.rows.Goals as goal

pub returns : goal.returns
unfolding rows
returns c = refl
