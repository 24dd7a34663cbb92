use Rattle.trial_maker.proofs.Fitting.{last_fits}
use Rattle.trial_maker.proofs.bundles.last_bundle.Goals as goal

pub mii-requires : goal.mii-requires
mii-requires c = rw (c.always-end.ensures, c.nop.ensures, c.nop-2.ensures) last_fits
