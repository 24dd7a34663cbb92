use Rattle.std.proofs.Common.{refl}
use Rattle.formats_a.specs.Listed.{rows}
use Rattle.formats_a.proofs.FamilyAFamily.rows.Goals as goal

pub returns : goal.returns
unfolding rows
returns c = refl
