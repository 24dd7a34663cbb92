use Rattle.group_checker.proofs.EarlierSlots.{some_at}
use Rattle.group_checker.proofs.FirstFound.{pair_tested}
use Rattle.group_checker.proofs.pairs.breaks_rule.Goals as goal

pub returns-then-are_apart : goal.returns-then-are_apart
returns-then-are_apart c g has_stop j u = (λ h. absurd cc, λ x. absurd (c.are_apart.ensures c.if-are_apart.true g has_stop j x.0 u x.1 x.2))

pub returns : goal.returns
returns c g has_stop j u =
    let (e, at) = some_at c.args.window.now c.args.n c.requires.inside in
    pair_tested g has_stop c.args.window.now j c.args.n e c.pair_broken.result c.is_nothing.result at (c.pair_broken.ensures g has_stop j u)
    c.is_nothing.ensures.nothing c.is_nothing.ensures.something
