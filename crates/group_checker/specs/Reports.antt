-- Verdicts and what they report.
use Rattle.std.specs.Prelude.{◌≡◌, ◌≤◌, List, length, take}
use Rattle.ia_program.specs.Programs.{Program}
use Rattle.order_laws.specs.declared.violation.Violation.{Violation}
use Rattle.group_checker.specs.declared.report.TheConstants.{SHOWN_LIMIT}
use Rattle.group_checker.specs.declared.report.Verdict.{Verdict}
use Rattle.group_checker.specs.declared.report.Verdict.TheVariants.{Accepted, Violations}
use Rattle.group_checker.specs.Order.{IsListOf}
use Rattle.order_laws.specs.Violations.{Violates, HasNoViolation}
use Rattle.group_checker.specs.Shown.{Report}

-- The report counts the whole list and shows the first violations, as many as the limit lets.
pub record Shows (r : Report) (all : List Violation) : Type 0 where
  pub total : r.total ≡ length all
  pub shown : r.shown ≡ take SHOWN_LIMIT all

-- The violations of a program, at least one, are counted, and the first of them are shown in order.
pub record IsReport (p : Program) (r : Report) : Type 0 where
  pub all : List Violation
  pub list : IsListOf (Violates p) all
  pub some : 1 ≤ length all
  pub shows : Shows r all

-- A program is accepted, as itself, exactly where it has no violation.
abbrev pub IsVerdict : Program → Verdict → Type 0
IsVerdict p (Accepted q) = (q ≡ p) × HasNoViolation p
IsVerdict p (Violations r) = IsReport p r

-- A program has one verdict.
abbrev pub OneVerdict : Type 0
OneVerdict = (p : Program) (verdict other : Verdict) → IsVerdict p verdict → IsVerdict p other → verdict ≡ other
