use Rattle.nat_alat.proofs.AlatLaws.{touched_is_gone}
use Rattle.nat_alat.proofs.laws.touched_is_gone.Goals as goal

pub returns : goal.returns
returns c es address size e = touched_is_gone es address size e
