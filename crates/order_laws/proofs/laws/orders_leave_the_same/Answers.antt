use Rattle.order_laws.proofs.Orders.{orders, frames}
use Rattle.order_laws.proofs.RunOrders.{group_ordered, next_group_ordered, free_order_independent}
use Rattle.order_laws.proofs.laws.orders_leave_the_same.Goals as goal

pub returns-clause-registers : goal.returns-clause-registers
returns-clause-registers c code ws r f ready = orders code ws r f ready

pub returns-clause-frames : goal.returns-clause-frames
returns-clause-frames c code ws f = frames code ws f

pub returns-clause-group : goal.returns-clause-group
returns-clause-group c = group_ordered

pub returns-clause-next : goal.returns-clause-next
returns-clause-next c = next_group_ordered

pub returns-clause-run : goal.returns-clause-run
returns-clause-run c = free_order_independent
