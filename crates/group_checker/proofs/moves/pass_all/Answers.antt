use Rattle.std.proofs.Common.{◌≡◌, ℕ, ◌<◌, length, subst, arith}
use Rattle.group_checker.specs.Windows.{HasAdvanced}
use Rattle.group_checker.proofs.EarlierSlots.{indexed}
use Rattle.group_checker.proofs.Windowing.{none_advanced, one_advanced}
use Rattle.group_checker.proofs.moves.pass_all.Goals as goal

pub loop-m-init : goal.loop-m-init
loop-m-init c = record { advanced = λ g has_stop j is. none_advanced g j c.args.mask c.args.window.now.items; passed = c.requires }

pub loop-m-preserved : goal.loop-m-preserved
loop-m-preserved c = record {
  advanced = λ g has_stop j is.
      let a = c.index_mut.result.now in
      let adv = c.loop-m.invariant.advanced g has_stop j is in
      let short : c.loop-m.m < length c.loop-m.window.items = omega (arith, adv.same_length) in
      one_advanced g j c.args.mask c.args.window.now.items c.loop-m.window.items c.loop-m.m a _ adv
      (indexed c.loop-m.window.items c.loop-m.m a short c.index_mut.ensures.value)
      (c.pass.ensures.goes_on g has_stop j is);
  passed = c.pass.ensures.passed;
}

pub returns : goal.returns
returns c g has_stop j is =
    let adv = c.loop-m.invariant.advanced g has_stop j is in
    let done : c.loop-m.m ≡ length c.args.window.now.items = omega (arith, adv.same_length) in
    subst (λ (n : ℕ). HasAdvanced g j c.args.mask c.args.window.now.items c.loop-m.window.items n) done adv
