use Rattle.image_form.proofs.OneToOne.{one_image}
use Rattle.image_form.proofs.laws.one_image.Goals as goal

pub returns : goal.returns
returns c = one_image c.one_spelling.ensures
