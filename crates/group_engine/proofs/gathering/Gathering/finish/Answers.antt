use Rattle.std.proofs.Common.{◌≡◌, ◌∙◌, length, rules, sym, ap, arith}
use Rattle.ia_meaning.specs.Writes.{apply}
use Rattle.ia_meaning.specs.WriteOrders.{arranged}
use Rattle.ia_meaning.specs.NumberedRuns.{order}
use Rattle.group_engine.specs.Kept.{branch_inputs_of}
use Rattle.group_engine.proofs.Keeping.{left_in_order}
use Rattle.group_engine.proofs.gathering.Gathering.finish.Goals as goal

pub returns-else-number-ne0-clause-latest : goal.returns-else-number-ne0-clause-latest
returns-else-number-ne0-clause-latest c =
    let old = c.args.self.now in
    let writes = old.kept.writes in
    let kept : c.arrange.new.self.latest ≡ old.kept.latest = search rules in
    let made : c.make.new.registers ≡ apply (arranged (order c.args.number (length writes)) writes)
    (record old.registers { unat = old.in_order.unat }) = search rules in
    kept ∙ c.requires ∙ left_in_order writes old.registers old.in_order.unat c.args.number (omega (arith, c.if-number-ne0.false))
    ∙ ap branch_inputs_of (sym made)
