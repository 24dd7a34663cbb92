-- What is stated of `trial`.
use Rattle.std.proofs.Common.{◌≡◌, ℕ, ◌<◌, List, length, take, refl, sym, ◌∙◌, subst}
use Rattle.std.specs.Prelude.{◌↔◌, Option, Some}
use Rattle.std.specs.Io.KnownBytes.{Appends}
use Rattle.ia_program.specs.declared.ending.End.{End}
use Rattle.ia_program.specs.Programs.{Program, IsProgram}
use Rattle.ia_meaning.specs.State.{State, zero_state}
use Rattle.ia_meaning.specs.Progress.{Progress, begun, groups_further, end_of}
use Rattle.ia_meaning.specs.Runs.{HasRun, ProgressIsRun}
use Rattle.ia_meaning.proofs.GroupEnds.{zero_is_place}
use Rattle.order_laws.specs.Violations.{HasNoViolation}
use Rattle.ia_meaning.specs.OrderIndependence.{IsOrderIndependent}
use Rattle.trial_maker.specs.Trials.{trial_program}
use Rattle.watch_seam.specs.Watchers.{WatchState}
use Rattle.ia64_top.specs.declared.arguments.Command.{Command}
use Rattle.ia64_top.specs.declared.arguments.Command.TheVariants.{Trial}
use Rattle.ia64_top.specs.declared.status.Status.{Status}
use Rattle.ia64_top.specs.declared.status.Status.TheVariants.{Done, Violated}
use Rattle.ia64_top.specs.Arguments.{command_of, IsTrial}
use Rattle.ia64_top.specs.Statuses.{EndsTrial}
use Rattle.ia64_top.specs.Judgements.{IsJudgement, IsJudgedViolated}
use Rattle.ia64_top.specs.Runs.{run_of}
use Rattle.ia64_top.specs.Trials.{trial_text, IsTrialOf, IsTrialOutput}
use Rattle.ia64_top.specs.Output.{IsCommandOutput, GivesTrial, GivesTrialPart}
use Rattle.ia64_top.proofs.Judging.{violated_of_judgement}
use Rattle.ia64_top.proofs.Answering.{same_command}

-- `Done` is the answer exactly where the program has no violation, and `Violated` exactly where it has one.
done_of_trial : (seed bundles : ℕ) (bytes : List ℕ) (status : Status) → IsTrialOutput seed bundles bytes status
    → ((status ≡ Done) ↔ HasNoViolation (trial_program seed bundles))
done_of_trial seed bundles bytes Done o = (λ e. o.free, λ f. refl)
done_of_trial seed bundles bytes Violated o =
    (λ e. cc, λ f. absurd ((violated_of_judgement (trial_program seed bundles) bytes Violated o).0 refl f))
done_of_trial seed bundles bytes status o = absurd o

violated_of_trial : (seed bundles : ℕ) (bytes : List ℕ) (status : Status) → IsTrialOutput seed bundles bytes status
    → ((status ≡ Violated) ↔ (¬ HasNoViolation (trial_program seed bundles)))
violated_of_trial seed bundles bytes Done o = (λ e. cc, λ n. absurd (n o.free))
violated_of_trial seed bundles bytes Violated o = violated_of_judgement (trial_program seed bundles) bytes Violated o
violated_of_trial seed bundles bytes status o = absurd o

ends_of_trial : (seed bundles : ℕ) (bytes : List ℕ) (status : Status) → IsTrialOutput seed bundles bytes status → EndsTrial status
ends_of_trial seed bundles bytes Done o = tt
ends_of_trial seed bundles bytes Violated o = tt
ends_of_trial seed bundles bytes status o = absurd o

-- A verdict with violations on the program.
pub judged_trial : (seed bundles : ℕ) (p : Program) (bytes : List ℕ) (status : Status) → p ≡ trial_program seed bundles
    → IsJudgedViolated p bytes status → IsTrialOutput seed bundles bytes status
judged_trial seed bundles p bytes status made judged =
    let j : IsJudgement (trial_program seed bundles) bytes status = subst (λ q. IsJudgement q bytes status) made judged.0 in
    subst (IsTrialOutput seed bundles bytes) (sym judged.1) (subst (IsJudgement (trial_program seed bundles) bytes) judged.1 j)

pub tried_trial : (seed bundles : ℕ) (bytes : List ℕ) (status : Status) → IsTrialOf seed bundles bytes × (status ≡ Done)
    → IsTrialOutput seed bundles bytes status
tried_trial seed bundles bytes status o = subst (IsTrialOutput seed bundles bytes) (sym o.1) o.0

-- A run under way that has come so far prints the trial.
same_text : (seed bundles : ℕ) (e f : End) (g h : ℕ) (s t : State) → e ≡ f → g ≡ h → s ≡ t
    → trial_text seed bundles e g s.registers ≡ trial_text seed bundles f h t.registers
same_text seed bundles e f g h s t ef gh st = rw (ef, gh, st) refl

pub trial_of_progress : ProgressIsRun → (seed bundles : ℕ) (p : Program) (m : Progress) (e : End) (bytes : List ℕ)
    → p ≡ trial_program seed bundles → IsProgram p → HasNoViolation p → IsOrderIndependent p
    → m ≡ groups_further bundles p (begun (zero_state p)) → e ≡ end_of m → bytes ≡ trial_text seed bundles e m.groups m.state.registers
    → IsTrialOf seed bundles bytes
trial_of_progress run seed bundles p m e bytes made program free order_independent came ends printed =
    let has : HasRun m (run_of p bundles) =
    subst (λ x. HasRun x (run_of p bundles)) (sym came) (run bundles p (zero_state p) program (zero_is_place p program)) in
    let text = printed ∙ same_text seed bundles _ _ _ _ _ _ (ends ∙ has.end) has.groups has.state in
    record {
      program = subst IsProgram made program;
      free = subst HasNoViolation made free;
      order_independent = subst IsOrderIndependent made order_independent;
      printed =
          subst (λ q. bytes ≡ trial_text seed bundles (run_of q bundles).end (length (run_of q bundles).events)
          (run_of q bundles).state.registers) made text;
    }

-- What is told of the arguments and the answer.
pub tried : (arguments : List (List ℕ)) (command : Command) (ws : List WatchState) (input bytes : List ℕ) (status : Status)
    → command_of arguments ≡ Some command → IsCommandOutput command ws input bytes status
    → (seed bundles : ℕ) → command_of arguments ≡ Some (Trial seed bundles)
    → ((status ≡ Done) ↔ HasNoViolation (trial_program seed bundles))
    × ((status ≡ Violated) ↔ (¬ HasNoViolation (trial_program seed bundles)))
tried arguments command ws input bytes status e o seed bundles f =
    let its : IsTrialOutput seed bundles bytes status =
    subst (λ c. IsCommandOutput c ws input bytes status) (same_command arguments command (Trial seed bundles) e f) o in
    (done_of_trial seed bundles bytes status its, violated_of_trial seed bundles bytes status its)

pub gives_trial : (arguments : List (List ℕ)) (command : Command) (ws : List WatchState) (input bytes : List ℕ) (status : Status)
    (old new : Option (List ℕ)) → command_of arguments ≡ Some command → IsCommandOutput command ws input bytes status
    → Appends old new bytes
    → (seed bundles : ℕ) → command_of arguments ≡ Some (Trial seed bundles) → GivesTrial seed bundles old new status
gives_trial arguments command ws input bytes status old new e o appended seed bundles f = (
  bytes,
  subst (λ c. IsCommandOutput c ws input bytes status) (same_command arguments command (Trial seed bundles) e f) o,
  appended,
)

pub gives_trial_part : (arguments : List (List ℕ)) (command : Command) (ws : List WatchState) (input bytes : List ℕ) (status : Status)
    (old new : Option (List ℕ)) → command_of arguments ≡ Some command → IsCommandOutput command ws input bytes status
    → ((count : ℕ) × (count < length bytes) × Appends old new (take count bytes)) → (seed bundles : ℕ)
    → command_of arguments ≡ Some (Trial seed bundles) → GivesTrialPart seed bundles old new
gives_trial_part arguments command ws input bytes status old new e o part seed bundles f =
    (bytes, status, subst (λ c. IsCommandOutput c ws input bytes status) (same_command arguments command (Trial seed bundles) e f) o, part)

-- A command that isn't `trial` tells nothing of one.
pub untried : (arguments : List (List ℕ)) (command : Command) → command_of arguments ≡ Some command → ¬ IsTrial (Some command)
    → (seed bundles : ℕ) → command_of arguments ≡ Some (Trial seed bundles) → ⊥
untried arguments command e other seed bundles f =
    other (subst (λ c. IsTrial (Some c)) (same_command arguments (Trial seed bundles) command f e) tt)

pub ends_trial : (command : Command) (ws : List WatchState) (input bytes : List ℕ) (status : Status) → IsTrial (Some command)
    → IsCommandOutput command ws input bytes status → EndsTrial status
ends_trial (Trial seed bundles) ws input bytes status is o = ends_of_trial seed bundles bytes status o
ends_trial command ws input bytes status is o = absurd is
