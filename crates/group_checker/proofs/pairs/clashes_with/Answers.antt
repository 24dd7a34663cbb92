use Rattle.std.proofs.Common.{◌∷◌, ◌++◌, [], ◌+◌, ◌∙◌, take, arith, sym, ap, subst, List}
use Rattle.std.specs.Prelude.{Contains}
use Rattle.std.proofs.lemmas.List.{take_all, take_more}
use Rattle.std.proofs.lemmas.List.Elements.{Contains-get_or}
use Rattle.resource_sets.specs.declared.access.Access.{Access}
use Rattle.resource_sets.specs.AccessSets.{IsInSet}
use Rattle.resource_sets.specs.Ranges.{AreInRange}
use Rattle.resource_sets.proofs.Members.{not_in_none}
use Rattle.group_checker.specs.Broken.{Gains}
use Rattle.group_checker.specs.Findings.{Finds}
use Rattle.group_checker.proofs.Gaining.{gains_nothing, lists_joined, parts_joined, second_joined}
use Rattle.group_checker.proofs.pairs.clashes_with.Goals as goal

pub clash_with-requires : goal.clash_with-requires
clash_with-requires c =
    let xs = c.as_slice-named.result.now in
    subst AreInRange (sym c.as_slice-named.ensures.value) c.parts-parts.ensures.within c.index-named-n.result
    (subst (Contains xs) (sym c.index-named-n.is) (Contains-get_or xs c.loop-n.n c.index-named-n.result c.loop-n-test.true))

pub loop-n-init : goal.loop-n-init
loop-n-init c = gains_nothing c.args.broken.now _ (λ v h. not_in_none h.second h.of_second)

pub loop-n-preserved : goal.loop-n-preserved
loop-n-preserved c =
    let xs = c.as_slice-named.result.now in
    second_joined c.args.first.now (IsInSet c.args.a.now) (Contains (take c.loop-n.n xs)) _ (Contains (take (c.loop-n.n + 1) xs)) _ _ _
    (lists_joined (take c.loop-n.n xs) (c.index-named-n.result ∷ []) (take (c.loop-n.n + 1) xs)
    (take_more xs c.loop-n.n c.index-named-n.result c.loop-n-test.true
    ∙ ap (λ (a : Access). take c.loop-n.n xs ++ a ∷ []) (sym c.index-named-n.is))) c.loop-n.invariant c.clash_with.ensures

pub returns : goal.returns
returns c =
    let all = take_all c.loop-n.n c.as_slice-named.result.now (omega arith) ∙ c.as_slice-named.ensures.value in
    second_joined c.args.first.now (IsInSet c.args.a.now) (Contains c.parts-parts.result.now.named.items) _ (Contains c.args.seconds.now) _
    _ _ (parts_joined c.args.seconds.now c.parts-parts.result.now c.parts-parts.ensures)
    (subst (λ (l : List Access). Gains c.args.broken.now c.loop-n.broken (Finds c.args.first.now (IsInSet c.args.a.now) (Contains l))) all
    c.loop-n.invariant) c.clash_of_two.ensures
