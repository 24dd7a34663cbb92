use Rattle.std.proofs.Common.{rules, ◌≡◌, refl}
use Rattle.ia_meaning.specs.State.{zero_state}
use Rattle.ia_meaning.specs.Progress.{begun, groups_further}
use Rattle.ia64_top.proofs.Trying.{trial_of_progress}
use Rattle.ia64_top.proofs.trial.try_accepted.Goals as goal

pub returns : goal.returns
returns c =
    let p = c.args.accepted.now in
    let m = c.run-end.new.self.progress in
    let came : m ≡ groups_further c.args.bundles p (begun (zero_state p)) = search rules in (
      trial_of_progress c.progress_is_run.ensures.run c.args.seed c.args.bundles p m c.run-end.result _ c.requires.made
          c.is_order_independent.ensures.program c.is_order_independent.ensures.free c.is_order_independent.ensures.order_independent came c.run-end.ensures.end (search rules),
      refl,
    )
