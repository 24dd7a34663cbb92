use Rattle.std.proofs.Common.{sym, ◌∙◌}
use Rattle.reg_stack.proofs.Places.{bit_set, bit_clear}
use Rattle.reg_stack.proofs.runs.with_nat.Goals as goal

pub returns-then-nat-clause-this : goal.returns-then-nat-clause-this
returns-then-nat-clause-this c = let put = bit_set c.args.nats c.args.bit c.requires in put.this ∙ sym c.if-nat.true

pub returns-then-nat-clause-others : goal.returns-then-nat-clause-others
returns-then-nat-clause-others c = let put = bit_set c.args.nats c.args.bit c.requires in put.others

pub returns-else-nat-clause-this : goal.returns-else-nat-clause-this
returns-else-nat-clause-this c = let put = bit_clear c.args.nats c.args.bit c.requires in put.this ∙ sym c.if-nat.false

pub returns-else-nat-clause-others : goal.returns-else-nat-clause-others
returns-else-nat-clause-others c = let put = bit_clear c.args.nats c.args.bit c.requires in put.others
