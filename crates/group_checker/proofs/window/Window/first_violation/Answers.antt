use Rattle.std.proofs.Common.{◌≡◌, ◌≤◌, List, length, sym, ap, ◌∙◌, subst, arith, below_more}
use Rattle.group_checker.specs.declared.window.EarlierSlot.{EarlierSlot}
use Rattle.group_checker.specs.Windows.{HasWindow}
use Rattle.group_checker.specs.Findings.{IsPairViolated, IsFirstOfPair}
use Rattle.group_checker.proofs.FirstFound.{first_at, none_violates}
use Rattle.group_checker.proofs.window.Window.first_violation.Goals as goal

pub returns-in-Some : goal.returns-in-Some
returns-in-Some c g has_stop u =
    let was : c.deref.result.now ≡ c.args.self.now = c.deref.ensures.value ∙ c.self.view_is in
    let there = subst (λ (es : List EarlierSlot). HasWindow g has_stop es c.args.second c.args.slot.now c.args.masks.now) (sym was) u in
    first_at g has_stop c.args.self.now c.args.second c.loop-n.n c.in-Some.found u.window (c.loop-n.invariant g has_stop u)
    (subst (λ (es : List EarlierSlot). IsFirstOfPair g has_stop es c.loop-n.n c.args.second c.in-Some.found) was
    (c.in-Some.ensures g has_stop there))

pub loop-n-preserved : goal.loop-n-preserved
loop-n-preserved c g has_stop u =
    let was : c.deref.result.now ≡ c.args.self.now = c.deref.ensures.value ∙ c.self.view_is in
    let there = subst (λ (es : List EarlierSlot). HasWindow g has_stop es c.args.second c.args.slot.now c.args.masks.now) (sym was) u in
    below_more _ _ (c.loop-n.invariant g has_stop u)
    (λ x. c.in_default.ensures g has_stop there (subst (λ (es : List EarlierSlot). IsPairViolated g has_stop es c.loop-n.n c.args.second)
    (sym was) x))

pub returns : goal.returns
returns c g has_stop u x =
    let was : c.self.inside.slots.items ≡ c.args.self.now = c.self.view_is in
    let all : length c.args.self.now ≤ c.loop-n.n = omega (arith, c.len-n-end.ensures, ap (length {A = EarlierSlot}) was) in
    none_violates g has_stop c.args.self.now c.args.second u.window (λ k l. c.loop-n.invariant g has_stop u k (omega arith)) x
