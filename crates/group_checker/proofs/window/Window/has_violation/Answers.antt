use Rattle.std.proofs.Common.{◌≡◌, ◌≤◌, List, length, refl, sym, ap, ◌∙◌, subst, arith, below_more}
use Rattle.std.proofs.lemmas.Bool.{true≢false}
use Rattle.group_checker.specs.declared.window.EarlierSlot.{EarlierSlot}
use Rattle.group_checker.specs.Windows.{HasWindow}
use Rattle.group_checker.specs.Findings.{IsPairViolated}
use Rattle.group_checker.proofs.FirstFound.{pair_violates, none_violates}
use Rattle.group_checker.proofs.window.Window.has_violation.Goals as goal

pub returns-then-breaks_rule : goal.returns-then-breaks_rule
returns-then-breaks_rule c g has_stop j u =
    let was : c.deref.result.now ≡ c.args.self.now = c.deref.ensures.value ∙ c.self.view_is in
    let there = subst (λ (es : List EarlierSlot). HasWindow g has_stop es j c.args.slot.now c.args.masks.now) (sym was) u in
    let found =
    subst (λ (es : List EarlierSlot). IsPairViolated g has_stop es c.loop-m.m j) was
    ((c.breaks_rule.ensures g has_stop j there).0 c.if-breaks_rule.true) in
    (λ h. pair_violates g has_stop c.args.self.now j c.loop-m.m found, λ h. refl)

pub loop-m-preserved : goal.loop-m-preserved
loop-m-preserved c g has_stop j u =
    let was : c.deref.result.now ≡ c.args.self.now = c.deref.ensures.value ∙ c.self.view_is in
    let there = subst (λ (es : List EarlierSlot). HasWindow g has_stop es j c.args.slot.now c.args.masks.now) (sym was) u in
    below_more _ _ (c.loop-m.invariant g has_stop j u)
    (λ x. true≢false (sym ((c.breaks_rule.ensures g has_stop j there).1
    (subst (λ (es : List EarlierSlot). IsPairViolated g has_stop es c.loop-m.m j) (sym was) x)) ∙ c.if-breaks_rule.false))

pub returns : goal.returns
returns c g has_stop j u =
    let was : c.self.inside.slots.items ≡ c.args.self.now = c.self.view_is in
    let all : length c.args.self.now ≤ c.loop-m.m = omega (arith, c.len-m-end.ensures, ap (length {A = EarlierSlot}) was) in (
      λ h. absurd cc,
      λ x. absurd (none_violates g has_stop c.args.self.now j u.window
          (λ k l. c.loop-m.invariant g has_stop j u k (omega arith)) x),
    )
