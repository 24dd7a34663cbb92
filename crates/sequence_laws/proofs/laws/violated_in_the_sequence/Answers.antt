use Rattle.sequence_laws.proofs.InTheSequence.{violated_in_the_sequence}
use Rattle.sequence_laws.proofs.laws.violated_in_the_sequence.Goals as goal

pub returns : goal.returns
returns c sequence p at sequence_stop has_stop program spread stops rules v x =
    violated_in_the_sequence sequence p at sequence_stop has_stop program spread stops rules v x
