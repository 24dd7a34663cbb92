use Rattle.std.proofs.Common.{◌≡◌}
use Rattle.trial_maker.specs.Draws.{state_before}
use Rattle.trial_maker.specs.Trials.{first_bundles}
use Rattle.trial_maker.proofs.first_bundles.Given as goal

abbrev pub invariant-loop-number : goal.invariant-loop-number
invariant-loop-number l = record {
  state : l.draws.state ≡ state_before l.fn.seed l.number;
  made : l.made.items ≡ first_bundles l.fn.seed l.number;
}
