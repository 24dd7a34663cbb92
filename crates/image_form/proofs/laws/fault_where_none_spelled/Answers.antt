use Rattle.image_form.proofs.NotWithout.{fault_where_none_spelled}
use Rattle.image_form.proofs.laws.fault_where_none_spelled.Goals as goal

pub returns : goal.returns
returns c = fault_where_none_spelled c.one_bundle.ensures c.fault_where_none_spelled.ensures
