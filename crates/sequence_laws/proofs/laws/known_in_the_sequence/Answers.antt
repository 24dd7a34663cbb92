use Rattle.sequence_laws.proofs.Knowing.{known_in_the_sequence}
use Rattle.sequence_laws.proofs.laws.known_in_the_sequence.Goals as goal

pub returns : goal.returns
returns c sequence p at n known program spread inside is = known_in_the_sequence sequence p at n known program spread inside is
