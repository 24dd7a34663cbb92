use Rattle.bundling.proofs.Locating.{AreLayouts}
use Rattle.bundling.proofs.Fitting.{IsBundling}
use Rattle.bundling.proofs.Programs.{are_program}
use Rattle.bundling.proofs.laws.bundled_is_program.Goals as goal

pub returns : goal.returns
returns c s cs loose are runs =
    let laws : AreLayouts = record { is_layout = c.laid_out_is_layout.ensures; holds = c.laid_out_bundles.ensures.holds } in
    let known : IsBundling s cs =
    record { laws = laws; places = c.place_is_fit.ensures; filled = c.filled_is_bundle.ensures; loose = loose; are = are } in
    are_program s cs known runs
