-- What is stated of `groups`.
use Rattle.std.proofs.Common.{◌≡◌, ℕ, ◌<◌, ◌≤◌, inl, inr, List, length, Option, Some, refl, sym, ap, ◌∙◌, subst, arith}
use Rattle.std.proofs.Math.Nat.{zero-add}
use Rattle.std.specs.Prelude.{IfNone, IfSome, decimal}
use Rattle.std.specs.Io.KnownBytes.{Appends}
use Rattle.ia_program.specs.declared.ending.End.{End}
use Rattle.ia_program.specs.declared.ending.End.TheVariants as end
use Rattle.ia_program.specs.Programs.{Program, IsProgram}
use Rattle.ia_meaning.specs.State.{zero_state, ZeroIsStart}
use Rattle.ia_meaning.specs.Steps.{Run as WholeRun}
use Rattle.ia_meaning.specs.StateText.{state_text}
use Rattle.ia_meaning.specs.Runs.{run_text}
use Rattle.ia_meaning.specs.NumberedRuns.{numbered_run, numbered_codes, NumberedRunIsParallel}
use Rattle.image_form.specs.Laws.{ImageSize}
use Rattle.order_laws.specs.Violations.{HasNoViolation}
use Rattle.order_laws.specs.OrderLaws.{FreeIsOrderIndependent}
use Rattle.group_engine.specs.Engine.{Engine, begun, after_run}
use Rattle.watch_seam.specs.Watchers.{WatchState}
use Rattle.ia64_top.specs.declared.limits.TheConstants.{INPUT_LIMIT, GROUP_LIMIT}
use Rattle.ia64_top.specs.declared.arguments.Command.{Command}
use Rattle.ia64_top.specs.declared.arguments.Command.TheVariants.{Run, Groups}
use Rattle.ia64_top.specs.declared.status.Status.{Status}
use Rattle.ia64_top.specs.declared.status.Status.TheVariants.{Done, TooLong, Limit, Faulted, Refused}
use Rattle.ia64_top.specs.Arguments.{command_of, run_arguments}
use Rattle.ia64_top.specs.Inputs.{IsReadOf}
use Rattle.ia64_top.specs.Runs.{run_of, numbered_run_of, end_status, state_after, IsRunOf, IsNumberedRunOf, IsNumberedRunAs}
use Rattle.ia64_top.specs.Readings.{InputReading, as_either}
use Rattle.ia64_top.specs.Output.{IsCommandOutput, GivesOutput}
use Rattle.ia64_top.proofs.Numerals.{number_of_numeral}
use Rattle.ia64_top.proofs.Ranges.{in_range}
use Rattle.ia64_top.proofs.Outputs.{GivesOne, RefusesNone, IsTold}
use Rattle.ia64_top.proofs.Running.{run_is}
use Rattle.ia64_top.proofs.Answering.{output_of, TellsOfGroups, groups_beyond, groups_within}

-- The answer of a program.
abbrev pub IsNumberedRunAnswer : (groups number : ℕ) → Program → List ℕ → Status → Type 0
IsNumberedRunAnswer groups number p bytes status = IsNumberedRunOf p groups number bytes status

-- The end of the run tells the row of its status.
by_end : (groups number : ℕ) (r : InputReading) (input : List ℕ) (p : Program) (bytes : List ℕ) (status : Status) (e : End)
    → r.Gives input p → status ≡ end_status e → IsNumberedRunOf p groups number bytes status
    → IsNumberedRunAs groups number r input bytes status
by_end groups number r input p bytes status (end.Break imm place) g is =
    subst (λ s. IsNumberedRunOf p groups number bytes s → IsNumberedRunAs groups number r input bytes s) (sym is) (λ o. (p, g, o))
by_end groups number r input p bytes status (end.Limit place) g is =
    subst (λ s. IsNumberedRunOf p groups number bytes s → IsNumberedRunAs groups number r input bytes s) (sym is) (λ o. (p, g, o))
by_end groups number r input p bytes status (end.Fault kind place) g is =
    subst (λ s. IsNumberedRunOf p groups number bytes s → IsNumberedRunAs groups number r input bytes s) (sym is) (λ o. (p, g, o))

-- The answer of the program that an input is read as is that of the input.
pub numbered_run_is : (groups number : ℕ) (r : InputReading) (input : List ℕ) (p : Program) (bytes : List ℕ) (status : Status)
    → r.Gives input p → IsNumberedRunOf p groups number bytes status → IsNumberedRunAs groups number r input bytes status
numbered_run_is groups number r input p bytes status g o =
    by_end groups number r input p bytes status (numbered_run_of p groups number).end g o.ends o

-- Each row tells the answer of the program, or the refusal.
pub told_of_numbered_run : (groups number : ℕ) (r : InputReading) (input bytes : List ℕ) (status : Status)
    → IsNumberedRunAs groups number r input bytes status → IsTold r (IsNumberedRunAnswer groups number) input bytes status
told_of_numbered_run groups number r input bytes Done o = inl o
told_of_numbered_run groups number r input bytes Limit o = inl o
told_of_numbered_run groups number r input bytes Faulted o = inl o
told_of_numbered_run groups number r input bytes Refused o = inr (o, refl)
told_of_numbered_run groups number r input bytes status o = absurd o

-- The answer to an input that is read as a program is that of the program.
of_program : GivesOne as_either → RefusesNone as_either → (groups number : ℕ) (input bytes : List ℕ) (status : Status)
    → IsTold as_either (IsNumberedRunAnswer groups number) input bytes status
    → (p : Program) → as_either.Gives input p → IsNumberedRunOf p groups number bytes status
of_program one none groups number input bytes status (inl t) p g =
    subst (λ x. IsNumberedRunOf x groups number bytes status) (one input t.0 p t.1 g) t.2
of_program one none groups number input bytes status (inr t) p g = absurd (none input p bytes g t.0)

numbered_run_given : GivesOne as_either → RefusesNone as_either
    → (c : Command) (ws : List WatchState) (input bytes : List ℕ) (status : Status) → IsCommandOutput c ws input bytes status
    → (groups number : ℕ) → c ≡ Groups groups number → (p : Program) → as_either.Gives input p
    → IsNumberedRunOf p groups number bytes status
numbered_run_given one none c ws input bytes status o groups number is =
    of_program one none groups number input bytes status
    (told_of_numbered_run groups number as_either input bytes status (subst (λ k. IsCommandOutput k ws input bytes status) is o))

-- The end of the run tells the status.
abbrev pub TellsEndAtOnce : List (List ℕ) → Status → List ℕ → Type 0
TellsEndAtOnce arguments status = TellsOfGroups arguments (λ groups number p. status ≡ end_status (numbered_run_of p groups number).end)

pub ended_at_once_beyond : ImageSize → (arguments : List (List ℕ)) (left : Option (List ℕ)) → IfSome left (λ l. INPUT_LIMIT < length l)
    → IfSome left (TellsEndAtOnce arguments TooLong)
ended_at_once_beyond size arguments left h =
    groups_beyond size arguments (λ l groups number p. TooLong ≡ end_status (numbered_run_of p groups number).end) left h

pub ended_at_once_within : GivesOne as_either → RefusesNone as_either
    → (arguments : List (List ℕ)) (c : Command) (ws : List WatchState) (left : Option (List ℕ)) (input bytes : List ℕ) (status : Status)
    → command_of arguments ≡ Some c → IfSome left (IsReadOf c input)
    → IsCommandOutput c ws input bytes status → IfSome left (TellsEndAtOnce arguments status)
ended_at_once_within one none arguments c ws left input bytes status e whole o =
    groups_within arguments c (λ l groups number p. status ≡ end_status (numbered_run_of p groups number).end) left input e whole
    (λ groups number is p g. (numbered_run_given one none c ws input bytes status o groups number is p g).ends)

-- A program without violations leaves in the order with a number what it leaves slot by slot.
same_run : FreeIsOrderIndependent → ZeroIsStart → NumberedRunIsParallel → (groups number : ℕ) (p : Program) → IsProgram p → HasNoViolation p
    → numbered_run_of p groups number ≡ run_of p groups
same_run law zero parallel groups number p program free =
    parallel p groups number (zero_state p)
    ∙ law p program free groups (numbered_codes groups number p (zero_state p)) (zero_state p) (zero p program)

run_given : FreeIsOrderIndependent → ZeroIsStart → NumberedRunIsParallel → (groups number : ℕ) (p : Program) (bytes : List ℕ) (status : Status)
    → IsNumberedRunOf p groups number bytes status → HasNoViolation p → IsRunOf state_after p groups bytes status
run_given law zero parallel groups number p bytes status o free =
    let same = same_run law zero parallel groups number p o.program free in
    record {
      program = o.program;
      free = free;
      order_independent = law p o.program free;
      printed = o.printed ∙ ap run_text same;
      ends = o.ends ∙ ap (λ (r : WholeRun). end_status r.end) same;
    }

-- The arguments of a run are a command.
run_command : (groups : ℕ) → 1 ≤ groups → groups ≤ GROUP_LIMIT → command_of (run_arguments groups) ≡ Some (Run groups)
run_command groups some few = rw (number_of_numeral 1 GROUP_LIMIT (decimal groups) groups (omega arith) (some, few, refl)) refl

-- The run in the order with a number gives what `run` gives.
abbrev pub IsSameAsRun : List (List ℕ) → List WatchState → Option (List ℕ) → Option (List ℕ) → Status → List ℕ → Type 0
IsSameAsRun arguments ws old new status input =
    TellsOfGroups arguments (λ groups number p. HasNoViolation p → GivesOutput (run_arguments groups) ws input old new status) input

pub same_as_run_beyond : ImageSize → (arguments : List (List ℕ)) (ws : List WatchState) (left old new : Option (List ℕ))
    → IfSome left (λ l. INPUT_LIMIT < length l) → IfSome left (IsSameAsRun arguments ws old new TooLong)
same_as_run_beyond size arguments ws left old new h =
    groups_beyond size arguments (λ l groups number p. HasNoViolation p → GivesOutput (run_arguments groups) ws l old new TooLong) left h

pub same_as_run_within : FreeIsOrderIndependent → ZeroIsStart → NumberedRunIsParallel → GivesOne as_either → RefusesNone as_either
    → (arguments : List (List ℕ)) (c : Command) (ws : List WatchState) (left old new : Option (List ℕ)) (input bytes : List ℕ)
    (status : Status) → command_of arguments ≡ Some c → IfSome left (IsReadOf c input)
    → length input ≤ INPUT_LIMIT → IsCommandOutput c ws input bytes status → Appends old new bytes
    → IfSome left (IsSameAsRun arguments ws old new status)
same_as_run_within law zero parallel one none arguments c ws left old new input bytes status e whole within o appended =
    groups_within arguments c (λ l groups number p. HasNoViolation p → GivesOutput (run_arguments groups) ws l old new status) left input e
    whole
    (λ groups number is p g free.
    let range = in_range arguments (Groups groups number) (e ∙ ap Some is) in
    let run =
    run_given law zero parallel groups number p bytes status (numbered_run_given one none c ws input bytes status o groups number is p
    g) free in (
      bytes,
      output_of (run_arguments groups) (Run groups) ws input input bytes status (run_command groups range.0 range.1) refl within
          (run_is state_after groups as_either input p bytes status g run),
      appended,
    ))

-- What the engine prints after a run from the start of a program is what is printed of the run.
pub record PrintsRun (p : Program) (groups number : ℕ) (text : List ℕ) (end : End) : Type 0 where
  pub printed : text ≡ run_text (numbered_run_of p groups number)
  pub ended : end ≡ (numbered_run_of p groups number).end

from_start : (p : Program) (groups number : ℕ) (after : Engine) (text : List ℕ) (end : End)
    → after ≡ after_run (numbered_run_of p groups number) (begun p) → end ≡ (numbered_run_of p groups number).end
    → text ≡ state_text end after.groups after.range after.state → PrintsRun p groups number text end
from_start p groups number after text end is ends printed =
    record { printed = printed ∙ rw (is, ends, zero-add (length (numbered_run_of p groups number).events)) refl; ended = ends }

pub prints_run : (p : Program) (groups number : ℕ) (m after : Engine) (text : List ℕ) (end : End) → m ≡ begun p
    → IfNone m.end (after ≡ after_run (numbered_run m.program groups number m.state) m)
    → IfNone m.end (end ≡ (numbered_run m.program groups number m.state).end)
    → text ≡ state_text end after.groups after.range after.state → PrintsRun p groups number text end
prints_run p groups number m after text end starts is ends printed =
    from_start p groups number after text end (subst (λ (m : Engine). IfNone m.end
    (after ≡ after_run (numbered_run m.program groups number m.state) m)) starts is)
    (subst (λ (m : Engine). IfNone m.end (end ≡ (numbered_run m.program groups number m.state).end)) starts ends) printed
