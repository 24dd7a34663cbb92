-- What is stated of `check`.
use Rattle.std.proofs.Common.{◌≡◌, ℕ, ◌≤◌, inl, inr, List, [], ◌∷◌, length, refl, sym, subst, arith}
use Rattle.std.specs.Prelude.{◌↔◌, Contains}
use Rattle.ia_program.specs.Programs.{Program, IsProgram}
use Rattle.order_laws.specs.declared.violation.Violation.{Violation}
use Rattle.group_checker.specs.declared.report.Verdict.{Verdict}
use Rattle.group_checker.specs.declared.report.Verdict.TheVariants.{Accepted, Violations}
use Rattle.order_laws.specs.Violations.{HasNoViolation}
use Rattle.group_checker.specs.Reports.{IsReport, IsVerdict}
use Rattle.group_checker.specs.Shown.{Report}
use Rattle.ia64_top.specs.declared.status.Status.{Status}
use Rattle.ia64_top.specs.declared.status.Status.TheVariants.{Done, Violated, Refused}
use Rattle.ia64_top.specs.Judgements.{verdict_status, IsJudgement, IsCheckedAs}
use Rattle.ia64_top.specs.Texts.{verdict_text}
use Rattle.ia64_top.specs.Readings.{InputReading}
use Rattle.ia64_top.proofs.Outputs.{GivesOne, RefusesNone, IsTold, holds_where_told}

some_of : (all : List Violation) → 1 ≤ length all → (v : Violation) × Contains all v
some_of [] l = absurd (omega arith)
some_of (v ∷ vs) l = (v, (0, omega arith, refl))

-- A program with a report isn't free.
not_free : (p : Program) (report : Report) → IsReport p report → ¬ HasNoViolation p
not_free p report r free = let m = some_of r.all r.some in free m.0 (r.list.only m.0 m.1)

-- The verdict tells whether the program is free.
done_of_verdict : (p : Program) (v : Verdict) → IsVerdict p v → ((verdict_status v ≡ Done) ↔ HasNoViolation p)
done_of_verdict p (Accepted q) exact = (λ e. exact.1, λ f. refl)
done_of_verdict p (Violations r) exact = (λ e. cc, λ f. absurd (not_free p r exact f))

violated_of_verdict : (p : Program) (v : Verdict) → IsVerdict p v → ((verdict_status v ≡ Violated) ↔ (¬ HasNoViolation p))
violated_of_verdict p (Accepted q) exact = (λ e. cc, λ n. absurd (n exact.1))
violated_of_verdict p (Violations r) exact = (λ e. not_free p r exact, λ n. refl)

-- The verdict on a program that is accepted, as it is printed and answered.
pub accepted_judgement : (p q : Program) (bytes : List ℕ) → q ≡ p → IsProgram q → HasNoViolation q → bytes ≡ verdict_text (Accepted q)
    → IsJudgement p bytes Done
accepted_judgement p q bytes is program free printed =
    record {
      program = subst IsProgram is program;
      verdict = Accepted q;
      exact = (is, subst HasNoViolation is free);
      printed = printed;
      tells = refl;
    }

pub done_of_judgement : (p : Program) (bytes : List ℕ) (status : Status) → IsJudgement p bytes status → ((status ≡ Done) ↔ HasNoViolation p)
done_of_judgement p bytes status j = subst (λ s. (s ≡ Done) ↔ HasNoViolation p) (sym j.tells) (done_of_verdict p j.verdict j.exact)

pub violated_of_judgement : (p : Program) (bytes : List ℕ) (status : Status) → IsJudgement p bytes status
    → ((status ≡ Violated) ↔ (¬ HasNoViolation p))
violated_of_judgement p bytes status j =
    subst (λ s. (s ≡ Violated) ↔ (¬ HasNoViolation p)) (sym j.tells) (violated_of_verdict p j.verdict j.exact)

-- Each row tells the judgement of the program, or the refusal.
pub told_of_check : (r : InputReading) (input bytes : List ℕ) (status : Status) → IsCheckedAs r input bytes status
    → IsTold r IsJudgement input bytes status
told_of_check r input bytes Done o = inl o
told_of_check r input bytes Violated o = inl o
told_of_check r input bytes Refused o = inr (o, refl)
told_of_check r input bytes status o = absurd o

-- `Done` is the answer exactly where the program has no violation, and `Violated` exactly where it has one.
pub done_where_free : (r : InputReading) → GivesOne r → RefusesNone r → (input bytes : List ℕ) (status : Status)
    → IsCheckedAs r input bytes status
    → (p : Program) → r.Gives input p → ((status ≡ Done) ↔ HasNoViolation p)
done_where_free r one none input bytes status o =
    holds_where_told r IsJudgement (λ p s. (s ≡ Done) ↔ HasNoViolation p) done_of_judgement one none input bytes status
    (told_of_check r input bytes status o)

pub violated_where_not_free : (r : InputReading) → GivesOne r → RefusesNone r → (input bytes : List ℕ) (status : Status)
    → IsCheckedAs r input bytes status
    → (p : Program) → r.Gives input p → ((status ≡ Violated) ↔ (¬ HasNoViolation p))
violated_where_not_free r one none input bytes status o =
    holds_where_told r IsJudgement (λ p s. (s ≡ Violated) ↔ (¬ HasNoViolation p)) violated_of_judgement one none input bytes status
    (told_of_check r input bytes status o)
