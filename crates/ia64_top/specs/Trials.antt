-- What `trial` prints and answers of its program.
use Rattle.std.specs.Prelude.{◌≡◌, ℕ, ◌%◌, ◌^◌, List, ◌∷◌, ◌++◌, length, map, sum_by, Option, Some, None, codes, decimal}
use Rattle.std.specs.List.{range_with_len}
use Rattle.ia_program.specs.declared.ending.End.{End}
use Rattle.ia_program.specs.Programs.{IsProgram}
use Rattle.ia_meaning.specs.declared.state.Cell.{Cell}
use Rattle.ia_meaning.specs.State.{Registers}
use Rattle.ia_meaning.specs.Names.{look}
use Rattle.ia_meaning.specs.StateText.{line, end_text, word_text}
use Rattle.ia_meaning.specs.OrderIndependence.{IsOrderIndependent}
use Rattle.order_laws.specs.Violations.{HasNoViolation}
use Rattle.trial_maker.specs.Trials.{trial_program}
use Rattle.ia64_top.specs.declared.status.Status.{Status}
use Rattle.ia64_top.specs.declared.status.Status.TheVariants.{Done, Violated}
use Rattle.ia64_top.specs.Judgements.{IsJudgement}
use Rattle.ia64_top.specs.Runs.{run_of}

-- The value in a register, where there is one.
abbrev pub value_of : Option Cell → ℕ
value_of None = 0
value_of (Some cell) = cell.value

-- The sum of the values in r8 to r15, modulo 2 to the power of 64.
abbrev pub register_sum : Registers → ℕ
register_sum r = sum_by value_of (map (look r) (range_with_len 8 8)) % 2 ^ 64

-- The seed and the number of bundles, the verdict, the first two lines of the state, and the sum.
abbrev pub trial_text : ℕ → ℕ → End → ℕ → Registers → List ℕ
trial_text seed bundles end groups r =
    line (codes "trial " ++ decimal seed ++ codes " " ++ decimal bundles ++ 10 ∷ codes "accepted")
    ++ line (end_text end) ++ line (codes "groups " ++ decimal groups) ++ line (codes "sum " ++ word_text (register_sum r))

-- The bytes of the trial of a seed: its program has no violations, and so it is order independent and is run, of at most as many
-- groups as it has bundles.
pub record IsTrialOf (seed bundles : ℕ) (bytes : List ℕ) : Type 0 where
  pub program : IsProgram (trial_program seed bundles)
  pub free : HasNoViolation (trial_program seed bundles)
  pub order_independent : IsOrderIndependent (trial_program seed bundles)
  pub printed : let run =
      run_of (trial_program seed bundles) bundles in bytes ≡ trial_text seed bundles run.end (length run.events) run.state.registers

-- What `trial` writes and answers, whatever the input is. However the run ends, the trial is done.
abbrev pub IsTrialOutput : ℕ → ℕ → List ℕ → Status → Type 0
IsTrialOutput seed bundles bytes Done = IsTrialOf seed bundles bytes
IsTrialOutput seed bundles bytes Violated = IsJudgement (trial_program seed bundles) bytes Violated
IsTrialOutput seed bundles bytes status = ⊥
