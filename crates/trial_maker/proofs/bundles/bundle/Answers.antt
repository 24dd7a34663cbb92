use Rattle.trial_maker.proofs.Fitting.{sets_fit, changes_fit}
use Rattle.trial_maker.proofs.bundles.bundle.Goals as goal

pub mii-requires : goal.mii-requires
mii-requires c = rw (c.compare.ensures, c.addition.ensures, c.nop.ensures) (sets_fit c.args.number c.args.draws)

pub mii-requires-else-number-eq0 : goal.mii-requires-else-number-eq0
mii-requires-else-number-eq0 c =
    rw (
      c.nop-else-number-eq0.ensures,
      c.operation.ensures,
      c.operation-else-number-eq0.ensures,
      c.of_field.ensures,
      c.of_field-else-number-eq0.ensures,
    ) (changes_fit c.args.draws)
