use Rattle.std.proofs.Common.{get_or}
use Rattle.group_checker.proofs.EarlierSlots.{earlier_at}
use Rattle.group_checker.proofs.FirstFound.{pair_first}
use Rattle.group_checker.proofs.Reporting.{pair_listed}
use Rattle.group_checker.proofs.pairs.first_of_pair.Goals as goal

pub returns-then-are_apart : goal.returns-then-are_apart
returns-then-are_apart c g has_stop u x = c.are_apart.ensures c.if-are_apart.true g has_stop c.args.second x.0 u x.1 x.2

pub returns : goal.returns
returns c g has_stop u =
    let es = c.args.window.now in
    let e = get_or es c.args.n c.index-window-n.result in
    pair_first g has_stop es c.args.second c.args.n _ c.first.result
    (pair_listed g has_stop es c.args.second c.args.n e c.pair_broken.result
    (earlier_at es c.args.n c.index-window-n.result c.requires.inside) (c.pair_broken.ensures g has_stop c.args.second u))
    c.first.ensures
