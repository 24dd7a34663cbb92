use Rattle.std.proofs.Common.{◌∙◌, sym}
use Rattle.resource_sets.specs.AccessSets.{IsInSet}
use Rattle.group_checker.proofs.Gaining.{gains_nothing, second_alone, lacks}
use Rattle.group_checker.proofs.pairs.clash_with.Goals as goal

pub returns-then-has : goal.returns-then-has
returns-then-has c = second_alone c.args.first.now (IsInSet c.args.a.now) c.args.b.now c.of.result _ _ c.of.ensures c.clash_of_two.ensures

pub returns-else-has : goal.returns-else-has
returns-else-has c = gains_nothing _ _ (λ v h. lacks c.args.first.now c.args.a.now c.args.b.now v (sym c.has.ensures ∙ c.if-has.false) h)
