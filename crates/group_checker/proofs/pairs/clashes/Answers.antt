use Rattle.std.proofs.Common.{◌∷◌, ◌++◌, [], ◌+◌, ◌∙◌, take, arith, sym, ap, subst, List}
use Rattle.std.specs.Prelude.{Contains}
use Rattle.std.proofs.lemmas.List.{take_all, take_more}
use Rattle.std.proofs.lemmas.List.Elements.{Contains-get_or}
use Rattle.resource_sets.specs.declared.access.Access.{Access}
use Rattle.resource_sets.specs.Ranges.{AreInRange}
use Rattle.resource_sets.proofs.Members.{not_in_none}
use Rattle.group_checker.specs.Broken.{Gains}
use Rattle.group_checker.specs.Findings.{Finds}
use Rattle.group_checker.proofs.Gaining.{gains_nothing, lists_joined, parts_joined, first_joined}
use Rattle.group_checker.proofs.pairs.clashes.Goals as goal

pub clashes_of-requires : goal.clashes_of-requires
clashes_of-requires c =
    let xs = c.as_slice-named.result.now in
    subst AreInRange (sym c.as_slice-named.ensures.value) c.parts-parts.ensures.within c.index-named-n.result
    (subst (Contains xs) (sym c.index-named-n.is) (Contains-get_or xs c.loop-n.n c.index-named-n.result c.loop-n-test.true))

pub loop-n-init : goal.loop-n-init
loop-n-init c = gains_nothing c.args.broken.now _ (λ v h. not_in_none h.first h.of_first)

pub loop-n-preserved : goal.loop-n-preserved
loop-n-preserved c =
    let xs = c.as_slice-named.result.now in
    first_joined c.args.first.now (Contains c.args.seconds.now) (Contains (take c.loop-n.n xs)) _ (Contains (take (c.loop-n.n + 1) xs)) _ _
    _
    (lists_joined (take c.loop-n.n xs) (c.index-named-n.result ∷ []) (take (c.loop-n.n + 1) xs)
    (take_more xs c.loop-n.n c.index-named-n.result c.loop-n-test.true
    ∙ ap (λ (a : Access). take c.loop-n.n xs ++ a ∷ []) (sym c.index-named-n.is))) c.loop-n.invariant c.clashes_of.ensures

pub returns : goal.returns
returns c =
    let all = take_all c.loop-n.n c.as_slice-named.result.now (omega arith) ∙ c.as_slice-named.ensures.value in
    first_joined c.args.first.now (Contains c.args.seconds.now) (Contains c.parts-parts.result.now.named.items) _
    (Contains c.args.first.now.masks) _ _ _ (parts_joined c.args.first.now.masks c.parts-parts.result.now c.parts-parts.ensures)
    (subst (λ (l : List Access). Gains c.args.broken.now c.loop-n.broken
    (Finds c.args.first.now (Contains l) (Contains c.args.seconds.now))) all c.loop-n.invariant) c.clashes_with.ensures
