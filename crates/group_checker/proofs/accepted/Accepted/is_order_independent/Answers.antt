use Rattle.std.proofs.Common.{sym}
use Rattle.ia_program.specs.Programs.{IsProgram}
use Rattle.order_laws.proofs.RunOrders.{free_order_independent}
use Rattle.group_checker.proofs.accepted.Accepted.is_order_independent.Goals as goal

pub returns-clause-free : goal.returns-clause-free
returns-clause-free c = rw (sym c.self.view_is) c.self.invariant

pub returns-clause-order_independent : goal.returns-clause-order_independent
returns-clause-order_independent c =
    let program : IsProgram c.args.self.now = rw (sym c.self.view_is) c.is_program.ensures in
    free_order_independent c.args.self.now program (returns-clause-free c)
