use Rattle.image_form.proofs.OneToOne.{no_raw_fault}
use Rattle.image_form.proofs.laws.no_fault_where_raw.Goals as goal

pub returns : goal.returns
returns c = no_raw_fault c.one_bundle.ensures c.one_fault.ensures c.no_fault_where_spelled.ensures
