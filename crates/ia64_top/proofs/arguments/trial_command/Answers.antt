use Rattle.std.proofs.Common.{sym, arith}
use Rattle.ia64_top.specs.declared.limits.TheConstants.{TRIAL_LIMIT}
use Rattle.ia64_top.proofs.Numerals.{numeral_of_number}
use Rattle.ia64_top.proofs.arguments.trial_command.Goals as goal

pub overflow_cast-result : goal.overflow_cast-result
overflow_cast-result c =
    let h = numeral_of_number 1 TRIAL_LIMIT c.args.bundles.now c.in_ok-bundles.bundles (sym c.in_ok-bundles.ensures) in omega (arith, h.1)
