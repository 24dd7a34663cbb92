use Rattle.ia_meaning.proofs.DataAccesses.{stored_is_loaded}
use Rattle.nat_alat.proofs.laws.stored_is_loaded.Goals as goal

pub returns : goal.returns
returns c bytes address size value h = stored_is_loaded bytes address size value h
