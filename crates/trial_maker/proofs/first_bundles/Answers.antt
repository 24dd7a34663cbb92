use Rattle.std.proofs.Common.{◌≡◌, rules, arith}
use Rattle.trial_maker.specs.Draws.{state_before}
use Rattle.trial_maker.specs.Trials.{first_bundles}
use Rattle.trial_maker.proofs.first_bundles.Goals as goal

pub loop-number-init : goal.loop-number-init
unfolding state_before first_bundles
loop-number-init c = search rules

pub returns : goal.returns
returns c = let all : c.loop-number.number ≡ c.args.count = omega arith in cc
