use Rattle.slot_layouts.proofs.Families.{place_is_fit}
use Rattle.slot_layouts.proofs.laws.place_is_fit.Goals as goal

pub returns : goal.returns
returns c = place_is_fit
