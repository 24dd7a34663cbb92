-- A program whose verdict is that it is accepted leaves the same in all orders.
use Rattle.std.proofs.Common.{◌≡◌, subst}
use Rattle.ia_program.specs.Programs.{Program, IsProgram}
use Rattle.ia_meaning.specs.OrderIndependence.{IsOrderIndependent}
use Rattle.order_laws.proofs.RunOrders.{free_order_independent}
use Rattle.group_checker.specs.declared.report.Verdict.{Verdict}
use Rattle.group_checker.specs.declared.report.Verdict.TheVariants.{Accepted}
use Rattle.group_checker.specs.Reports.{IsVerdict}

pub accepted_order_independent : (p : Program) → IsProgram p → (v : Verdict) → IsVerdict p v → v ≡ Accepted p → IsOrderIndependent p
accepted_order_independent p program v h e = let is : IsVerdict p (Accepted p) = subst (IsVerdict p) e h in free_order_independent p program is.1
