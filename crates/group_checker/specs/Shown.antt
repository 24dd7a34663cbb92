-- What contracts see of a report.
use Rattle.std.specs.Prelude.{ℕ, List}
use Rattle.order_laws.specs.declared.violation.Violation.{Violation}

-- How many violations there are, and those that are shown.
pub record Report : Type 0 where
  pub total : ℕ
  pub shown : List Violation
