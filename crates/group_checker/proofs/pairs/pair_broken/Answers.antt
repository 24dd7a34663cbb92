use Rattle.std.proofs.Common.{◌≡◌, ◌+◌, length, arith}
use Rattle.group_checker.specs.Findings.{IsSlotRule}
use Rattle.group_checker.proofs.Gaining.{gains_nothing, gains_like}
use Rattle.group_checker.proofs.EarlierSlots.{indexed}
use Rattle.group_checker.proofs.Pairing.{pair_all}
use Rattle.group_checker.proofs.pairs.pair_broken.Goals as goal

pub returns : goal.returns
returns c g has_stop second u =
    let es = c.args.window.now in
    let e = c.index-window-n.result in
    let end : c.args.n + 1 ≡ length es = omega arith in
    pair_all g has_stop es second c.args.slot.now c.args.seconds.now c.args.n e _ _ _ u
    (indexed es c.args.n e c.requires.inside c.index-window-n.is)
    c.nothing-broken.ensures c.clashes.ensures
    (gains_like _ _ (IsSlotRule e c.args.slot.now) (λ v. (c.args.n + 1 ≡ length es) × IsSlotRule e c.args.slot.now v) (λ v h. (end, h))
    (λ v h. h.1) c.slot_rules.ensures)

pub returns-then-n-window : goal.returns-then-n-window
returns-then-n-window c g has_stop second u =
    let es = c.args.window.now in
    let e = c.index-window-n.result in
    pair_all g has_stop es second c.args.slot.now c.args.seconds.now c.args.n e _ _ _ u
    (indexed es c.args.n e c.requires.inside c.index-window-n.is)
    c.nothing-broken.ensures c.clashes.ensures
    (gains_nothing _ (λ v. (c.args.n + 1 ≡ length es) × IsSlotRule e c.args.slot.now v) (λ v h. omega (arith, h.0)))
