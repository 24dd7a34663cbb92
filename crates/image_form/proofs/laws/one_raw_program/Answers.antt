use Rattle.image_form.proofs.OneToOne.{one_raw_program}
use Rattle.image_form.proofs.laws.one_raw_program.Goals as goal

pub returns : goal.returns
returns c = one_raw_program c.one_bundle.ensures
