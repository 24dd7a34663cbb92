use Rattle.image_form.proofs.OneToOne.{one_program}
use Rattle.image_form.proofs.laws.one_program.Goals as goal

pub returns : goal.returns
returns c = one_program c.one_bundle.ensures
