use Rattle.std.proofs.Common.{refl}
use Rattle.formats_m.specs.Listed.{rows}
use Rattle.formats_m.proofs.FamilyMFamily.rows.Goals as goal

pub returns : goal.returns
unfolding rows
returns c = refl
