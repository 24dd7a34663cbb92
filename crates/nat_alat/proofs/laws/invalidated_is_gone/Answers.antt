use Rattle.nat_alat.proofs.AlatLaws.{invalidated_is_gone}
use Rattle.nat_alat.proofs.laws.invalidated_is_gone.Goals as goal

pub returns : goal.returns
returns c es key other = invalidated_is_gone es key other
