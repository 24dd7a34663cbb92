use Rattle.image_form.proofs.Wholes.{image_size}
use Rattle.image_form.proofs.laws.image_size.Goals as goal

pub returns : goal.returns
returns c = image_size
