use Rattle.std.proofs.Common.{arith}
use Rattle.std.proofs.lemmas.Bool.{not-true}
use Rattle.group_checker.proofs.EarlierSlots.{indexed}
use Rattle.group_checker.proofs.Pairing.{apart_pair}
use Rattle.group_checker.proofs.pairs.are_apart.Goals as goal

pub returns-then-n-window : goal.returns-then-n-window
returns-then-n-window c apart g has_stop j v u nth =
    let e = c.index-window-n.result in
    apart_pair g has_stop c.args.window.now j c.args.slot.now c.args.seconds.now c.args.n e v u
    (indexed c.args.window.now c.args.n e c.requires.inside c.index-window-n.is)
    (c.may_clash.ensures c.if-may_clash.false) (λ end rule. absurd (omega (arith, end))) nth

pub returns-else-n-window : goal.returns-else-n-window
returns-else-n-window c apart g has_stop j v u nth =
    let e = c.index-window-n.result in
    apart_pair g has_stop c.args.window.now j c.args.slot.now c.args.seconds.now c.args.n e v u
    (indexed c.args.window.now c.args.n e c.requires.inside c.index-window-n.is)
    (c.may_clash.ensures c.if-may_clash.false) (λ end. c.may_break_slot_rule.ensures (not-true c.may_break_slot_rule.result apart) v) nth
