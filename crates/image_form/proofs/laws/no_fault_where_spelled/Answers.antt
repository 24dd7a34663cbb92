use Rattle.image_form.proofs.OneToOne.{no_image_fault}
use Rattle.image_form.proofs.laws.no_fault_where_spelled.Goals as goal

pub returns : goal.returns
returns c = no_image_fault c.one_bundle.ensures c.one_fault.ensures c.no_fault_where_spelled.ensures
