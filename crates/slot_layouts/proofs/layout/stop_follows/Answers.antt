use Rattle.slot_layouts.proofs.FirstLayouts.{stop_is_one_of}
use Rattle.slot_layouts.proofs.layout.stop_follows.Goals as goal

pub returns : goal.returns
returns c = stop_is_one_of c.args.template.now c.args.slot c.stop_after.result c.stop_after.ensures
