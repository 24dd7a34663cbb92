use Rattle.std.proofs.Common.{◌≡◌, ◌-◌, ap, ◌∙◌, arith}
use Rattle.ia64_top.proofs.Sums.{sum_of, one_register_more}
use Rattle.ia64_top.proofs.trial.register_sum.Goals as goal

pub loop-n-preserved : goal.loop-n-preserved
loop-n-preserved c = (
  omega arith,
  omega arith,
  one_register_more c.args.machine.now.progress.state.registers c.loop-n.n c.loop-n.sum _ c.loop-n.invariant.0
      c.loop-n.invariant.2 (grind arith),
)

pub returns : goal.returns
returns c = let all : c.loop-n.n - 8 ≡ 8 = omega arith in c.loop-n.invariant.2 ∙ ap (sum_of c.args.machine.now.progress.state.registers) all
