use Rattle.std.proofs.Common.{rules}
use Rattle.ia64_top.proofs.Judging.{accepted_judgement}
use Rattle.ia64_top.proofs.check.check_program.Goals as goal

pub returns-in_ok-from_str-in-Ok : goal.returns-in_ok-from_str-in-Ok
returns-in_ok-from_str-in-Ok c =
    accepted_judgement c.args.program.now c.in-Ok.accepted _ (rw c.in-Ok.is at c.in_ok-accepted.ensures) c.is_order_independent.ensures.program
    c.is_order_independent.ensures.free (search rules)
