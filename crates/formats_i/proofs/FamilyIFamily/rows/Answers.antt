use Rattle.std.proofs.Common.{refl}
use Rattle.formats_i.specs.Listed.{rows}
use Rattle.formats_i.proofs.FamilyIFamily.rows.Goals as goal

pub returns : goal.returns
unfolding rows
returns c = refl
