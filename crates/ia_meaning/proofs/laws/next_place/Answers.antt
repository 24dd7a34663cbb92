use Rattle.ia_meaning.proofs.Sequences.{next_fits}
use Rattle.ia_meaning.proofs.laws.next_place.Goals as goal

pub returns : goal.returns
returns c = next_fits
