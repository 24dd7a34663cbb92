use Rattle.std.proofs.Common.{List, [], ◌∷◌, ◌++◌, take, ap, sym, ◌∙◌, subst, append_assoc, arith}
use Rattle.std.specs.Prelude.{Contains}
use Rattle.std.proofs.lemmas.List.{take_all, take_more, append-nil}
use Rattle.std.proofs.lemmas.List.Elements.{Contains-get_or}
use Rattle.resource_sets.specs.declared.access.Access.{Access}
use Rattle.resource_sets.specs.InsnAccesses.{IsSummary}
use Rattle.resource_sets.proofs.masking.Summary.add_all.Goals as goal

pub add-requires : goal.add-requires
add-requires c =
    c.requires _ (subst (Contains c.args.accesses.now) (sym c.index-accesses-n.is)
    (Contains-get_or c.args.accesses.now c.loop-n.n c.index-accesses-n.result c.loop-n-test.true))

pub loop-n-init : goal.loop-n-init
loop-n-init c earlier h = rw (append-nil earlier) h

pub loop-n-preserved : goal.loop-n-preserved
loop-n-preserved c earlier h =
    let xs = c.args.accesses.now in
    let n = c.loop-n.n in
    let a = c.index-accesses-n.result in
    let more = take_more xs n a c.loop-n-test.true ∙ ap (λ (x : Access). take n xs ++ x ∷ []) (sym c.index-accesses-n.is) in
    subst (λ (l : List Access). IsSummary l c.add.new.self) (append_assoc earlier (take n xs) (a ∷ [])
    ∙ ap (λ (l : List Access). earlier ++ l) (sym more))
    (c.add.ensures (earlier ++ take n xs) (c.loop-n.invariant earlier h))

pub returns : goal.returns
returns c earlier h =
    subst (λ (l : List Access). IsSummary (earlier ++ l) c.loop-n.self) (take_all c.loop-n.n c.args.accesses.now (omega arith))
    (c.loop-n.invariant earlier h)
