use Rattle.bundling.proofs.Locating.{AreLayouts}
use Rattle.bundling.proofs.Quiet.{runs_short}
use Rattle.bundling.proofs.laws.quiet_is_short.Goals as goal

pub returns : goal.returns
returns c s cs loose are quiet =
    let laws : AreLayouts = record { is_layout = c.laid_out_is_layout.ensures; holds = c.laid_out_bundles.ensures.holds } in
    runs_short laws c.laid_out_bundles.ensures.stops c.stop_test.ensures s cs are quiet
