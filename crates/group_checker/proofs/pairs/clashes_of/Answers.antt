use Rattle.std.specs.Prelude.{Contains, [], ◌∷◌}
use Rattle.group_checker.proofs.Gaining.{gains_nothing, first_alone, apart_clash}
use Rattle.group_checker.proofs.pairs.clashes_of.Goals as goal

pub returns-then-may_clash_with : goal.returns-then-may_clash_with
returns-then-may_clash_with c =
    first_alone c.args.first.now (Contains c.args.seconds.now) c.args.a.now c.of.result _ _ c.of.ensures c.clashes_with.ensures

pub returns-else-may_clash_with : goal.returns-else-may_clash_with
returns-else-may_clash_with c = gains_nothing _ _
    (λ v h. apart_clash (c.args.a.now ∷ []) c.args.seconds.now h.first h.second v.rule (c.may_clash_with.ensures c.if-may_clash_with.false)
    h.of_first h.of_second h.clash)
