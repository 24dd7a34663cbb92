use Rattle.range_laws.proofs.InRange.{in_range}
use Rattle.range_laws.proofs.laws.listed_iff_in_range.Goals as goal

pub returns : goal.returns
returns c = in_range
