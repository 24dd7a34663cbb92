use Rattle.bundling.proofs.Locating.{AreLayouts}
use Rattle.bundling.proofs.Targeting.{has_instructions}
use Rattle.bundling.proofs.Leading.{is_spread}
use Rattle.bundling.specs.Bundled.{bundle_of}
use Rattle.bundling.proofs.laws.bundled_is_spread.Goals as goal

layouts : goal.After-laid_out_bundles → AreLayouts
layouts c = record { is_layout = c.laid_out_is_layout.ensures; holds = c.laid_out_bundles.ensures.holds }

pub returns-clause-spread : goal.returns-clause-spread
returns-clause-spread c = is_spread (layouts c)

pub returns-clause-instructions : goal.returns-clause-instructions
returns-clause-instructions c s cs n loose are less = has_instructions (layouts c) s cs (bundle_of cs) n loose are.chunks less
