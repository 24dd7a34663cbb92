-- What `check` prints and answers, and `run`, `watch`, `trace` and `trial` of a program with violations.
use Rattle.std.specs.Prelude.{◌≡◌, ℕ, List}
use Rattle.ia_program.specs.Programs.{Program, IsProgram}
use Rattle.group_checker.specs.declared.report.Verdict.{Verdict}
use Rattle.group_checker.specs.declared.report.Verdict.TheVariants.{Accepted, Violations}
use Rattle.group_checker.specs.Reports.{IsReport, IsVerdict}
use Rattle.group_checker.specs.Shown.{Report}
use Rattle.ia64_top.specs.declared.status.Status.{Status}
use Rattle.ia64_top.specs.declared.status.Status.TheVariants.{Done, Violated, Refused}
use Rattle.ia64_top.specs.Texts.{verdict_text}
use Rattle.ia64_top.specs.Readings.{InputReading}

-- A check is done where the program is accepted.
abbrev pub verdict_status : Verdict → Status
verdict_status (Accepted p) = Done
verdict_status (Violations report) = Violated

-- The bytes and the status of the verdict on a program.
pub record IsJudgement (p : Program) (bytes : List ℕ) (status : Status) : Type 0 where
  pub program : IsProgram p
  pub verdict : Verdict
  pub exact : IsVerdict p verdict
  pub printed : bytes ≡ verdict_text verdict
  pub tells : status ≡ verdict_status verdict

-- The bytes are the text of a report on the program: how many violations it has, at least one, and a line for each of the
-- first ones. Each violation is two slots of a group that on some walk break a rule.
pub record PrintsClashes (p : Program) (bytes : List ℕ) : Type 0 where
  pub report : Report
  pub exact : IsReport p report
  pub printed : bytes ≡ verdict_text (Violations report)

-- The bytes and the status are those of a verdict with violations.
abbrev pub IsJudgedViolated : Program → List ℕ → Status → Type 0
IsJudgedViolated p bytes status = IsJudgement p bytes status × (status ≡ Violated)

-- What `check` writes and answers of an input that is read in a way.
abbrev pub IsCheckedAs : InputReading → List ℕ → List ℕ → Status → Type 0
IsCheckedAs reading input bytes Done =
    (program : Program) × reading.Gives input program × IsJudgement program bytes Done
IsCheckedAs reading input bytes Violated =
    (program : Program) × reading.Gives input program × IsJudgement program bytes Violated
IsCheckedAs reading input bytes Refused = reading.Refuses input bytes
IsCheckedAs reading input bytes status = ⊥
