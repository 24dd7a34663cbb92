use Rattle.nat_alat.proofs.Accesses.{others_stay}
use Rattle.nat_alat.proofs.laws.others_stay.Goals as goal

pub returns : goal.returns
returns c bytes address size value h = others_stay bytes address size value h
