use Rattle.sequence_laws.proofs.InTheProgram.{violated_in_the_program}
use Rattle.sequence_laws.proofs.laws.violated_in_the_program.Goals as goal

pub returns : goal.returns
returns c sequence p at sequence_stop has_stop program spread stops u x =
    violated_in_the_program sequence p at sequence_stop has_stop program spread stops u x
