use Rattle.slot_layouts.proofs.Fillings.{filled_is_bundle}
use Rattle.slot_layouts.proofs.laws.filled_is_bundle.Goals as goal

pub returns : goal.returns
returns c = filled_is_bundle
