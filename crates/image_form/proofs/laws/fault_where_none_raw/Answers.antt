use Rattle.image_form.proofs.NotWithout.{fault_where_none_raw}
use Rattle.image_form.proofs.laws.fault_where_none_raw.Goals as goal

pub returns : goal.returns
returns c = fault_where_none_raw c.one_bundle.ensures c.fault_where_none_spelled.ensures
