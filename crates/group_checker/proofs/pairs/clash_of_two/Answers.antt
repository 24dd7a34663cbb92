use Rattle.std.proofs.Common.{◌≡◌, ◌∙◌, ap, sym, Some, None, true, ◌&&◌}
use Rattle.std.proofs.lemmas.Bool.{true≢false}
use Rattle.resource_sets.specs.AccessSets.{IsInSet}
use Rattle.resource_sets.specs.declared.clashes.Rule.{Rule}
use Rattle.group_checker.specs.Findings.{may_be_excused, excused_by, Finds}
use Rattle.group_checker.proofs.Gaining.{one_found, sets_found, gains_nothing}
use Rattle.group_checker.proofs.pairs.clash_of_two.Goals as goal

pub returns : goal.returns
returns c =
    one_found c.args.first.now c.args.a.now c.args.b.now c.in-Some.rule c.intersection.result
    (sym c.clash_of.ensures ∙ c.in-Some.is) (sym c.is_excused.ensures ∙ c.if-is_excused.false) c.intersection.ensures _ _ c.add.ensures

pub returns-in_default : goal.returns-in_default
returns-in_default c = gains_nothing _ (Finds c.args.first.now (IsInSet c.args.a.now) (IsInSet c.args.b.now))
    (λ v h. let found = sets_found c.args.first.now c.args.a.now c.args.b.now v h in
    let bad : None ≡ Some v.rule = sym c.in_default.is ∙ c.clash_of.ensures ∙ found.clash in absurd cc)

pub returns-then-is_excused : goal.returns-then-is_excused
returns-then-is_excused c = gains_nothing _ (Finds c.args.first.now (IsInSet c.args.a.now) (IsInSet c.args.b.now))
    (λ v h.
    let found = sets_found c.args.first.now c.args.a.now c.args.b.now v h in
    let same : Some c.in-Some.rule ≡ Some v.rule = sym c.in-Some.is ∙ c.clash_of.ensures ∙ found.clash in
    let rule : c.in-Some.rule ≡ v.rule = cc in
    let holds : (may_be_excused c.in-Some.rule && excused_by c.args.first.now c.args.a.now.guard c.args.b.now.guard) ≡ true =
    sym c.is_excused.ensures ∙ c.if-is_excused.true in
    true≢false (sym holds ∙ ap (λ (r : Rule). may_be_excused r && excused_by c.args.first.now c.args.a.now.guard c.args.b.now.guard) rule
    ∙ found.stays))
