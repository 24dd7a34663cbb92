use Rattle.nat_alat.proofs.AlatLaws.{entered_is_hit}
use Rattle.nat_alat.proofs.laws.entered_is_hit.Goals as goal

pub returns : goal.returns
returns c es e = entered_is_hit es e
