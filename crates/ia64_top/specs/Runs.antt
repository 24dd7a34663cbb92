-- What `run`, `watch`, `trace` and `groups` print and answer, and which watchers stay after `watch`.
use Rattle.std.specs.Prelude.{◌≡◌, ◌⊎◌, ℕ, zero, suc, List, [], ◌++◌, length, drop, flat_map}
use Rattle.ia_program.specs.declared.ending.End.{End}
use Rattle.ia_program.specs.declared.ending.End.TheVariants as end
use Rattle.ia_program.specs.declared.ending.GroupEvent.{GroupEvent}
use Rattle.ia_program.specs.Programs.{Program, IsProgram}
use Rattle.ia_meaning.specs.State.{zero_state}
use Rattle.ia_meaning.specs.Steps.{Run, seq_run}
use Rattle.ia_meaning.specs.ParallelGroups.{par_run}
use Rattle.ia_meaning.specs.NumberedRuns.{numbered_run}
use Rattle.ia_meaning.specs.OrderIndependence.{IsOrderIndependent}
use Rattle.ia_meaning.specs.Runs.{run_text}
use Rattle.order_laws.specs.Violations.{HasNoViolation}
use Rattle.watch_seam.specs.Watchers.{WatchState, line, event_text}
use Rattle.watch_seam.specs.Watching.{numbered, reports, staying, IsCutShort}
use Rattle.ia64_top.specs.declared.status.Status.{Status}
use Rattle.ia64_top.specs.declared.status.Status.TheVariants.{Done, Violated, Words, Refused, TooLong, ReadFault, Limit, Faulted}
use Rattle.ia64_top.specs.Judgements.{IsJudgement}
use Rattle.ia64_top.specs.Readings.{InputReading, as_either}

-- The run of a program from the zero state, of at most n groups.
abbrev pub run_of : Program → ℕ → Run
run_of p = λ groups. seq_run p groups (zero_state p)

-- The run of a program from the zero state, of at most n groups, each all at once and its writes in the order with a
-- number.
abbrev pub numbered_run_of : Program → ℕ → ℕ → Run
numbered_run_of p groups number = numbered_run p groups number (zero_state p)

-- A `break` ends a run that is done.
abbrev pub end_status : End → Status
end_status (end.Break imm place) = Done
end_status (end.Limit place) = Limit
end_status (end.Fault kind place) = Faulted

-- What is printed, given the run of each number of groups and how many groups are asked for.
abbrev pub Printing : Type 0
Printing = (ℕ → Run) → ℕ → List ℕ

-- `run` prints the state after the run.
abbrev pub state_after : Printing
state_after runs groups = run_text (runs groups)

-- `watch` prints what these watchers report of its groups, and then the state, as `run` prints it.
abbrev pub watch_text : List WatchState → Printing
watch_text watchers runs groups = reports (runs groups).events (numbered watchers) ++ run_text (runs groups)

-- What a run of one group more has of groups beside those before: the group, or none where the run has ended.
abbrev pub further_events : (ℕ → Run) → ℕ → List GroupEvent
further_events runs groups = drop (length (runs groups).events) (runs (suc groups)).events

-- At most m groups behind the first n of a run: each as a tracer has it, and the state after it.
abbrev pub traced_groups : (ℕ → Run) → (groups more : ℕ) → List ℕ
traced_groups runs groups zero = []
traced_groups runs groups (suc more) =
    flat_map (λ event. line (event_text event) ++ run_text (runs (suc groups))) (further_events runs groups)
    ++ traced_groups runs (suc groups) more

-- `trace` prints the state after its first number of groups, and then the groups behind them up to its second number, or fewer
-- where the run ends.
abbrev pub trace_text : (first count : ℕ) → Printing
trace_text first count runs groups = run_text (runs first) ++ traced_groups runs first count

-- The bytes and the status of the run of a program, where this is printed. Only a program without violations is
-- run, and so one that is order independent.
pub record IsRunOf (text : Printing) (p : Program) (groups : ℕ) (bytes : List ℕ) (status : Status) : Type 0 where
  pub program : IsProgram p
  pub free : HasNoViolation p
  pub order_independent : IsOrderIndependent p
  pub printed : bytes ≡ text (run_of p) groups
  pub ends : status ≡ end_status (run_of p groups).end

-- The bytes and the status of the run of a program all at once, in the order with a number. Every program is run, whether it
-- has violations or not.
pub record IsNumberedRunOf (p : Program) (groups number : ℕ) (bytes : List ℕ) (status : Status) : Type 0 where
  pub program : IsProgram p
  pub printed : bytes ≡ run_text (numbered_run_of p groups number)
  pub ends : status ≡ end_status (numbered_run_of p groups number).end

-- The run of a program from the zero state, of at most n groups, each all at once and its writes in the order of a code.
abbrev pub ordered_run_of : Program → List (List ℕ) → ℕ → Run
ordered_run_of p codes = λ groups. par_run p groups codes (zero_state p)

-- Whatever the order of the writes in each group, these bytes are what is printed of such runs, and their end tells the status.
abbrev pub IsRunOfEveryOrder : Printing → Program → ℕ → List ℕ → Status → Type 0
IsRunOfEveryOrder text p groups bytes status =
    (codes : List (List ℕ))
    → (bytes ≡ text (ordered_run_of p codes) groups) × (status ≡ end_status (ordered_run_of p codes groups).end)

-- What is written and answered of an input that is read in a way, where n groups of its program are run and this is
-- printed. A program with violations isn't run: it gets the verdict that `check` gives it.
abbrev pub IsRunAs : Printing → ℕ → InputReading → List ℕ → List ℕ → Status → Type 0
IsRunAs text groups reading input bytes Done =
    (program : Program) × reading.Gives input program × IsRunOf text program groups bytes Done
IsRunAs text groups reading input bytes Violated =
    (program : Program) × reading.Gives input program × IsJudgement program bytes Violated
IsRunAs text groups reading input bytes Limit =
    (program : Program) × reading.Gives input program × IsRunOf text program groups bytes Limit
IsRunAs text groups reading input bytes Faulted =
    (program : Program) × reading.Gives input program × IsRunOf text program groups bytes Faulted
IsRunAs text groups reading input bytes Refused = reading.Refuses input bytes
IsRunAs text groups reading input bytes status = ⊥

-- What is written and answered of an input that is read in a way, where n groups of its program are run all at once, in
-- the order with a number. No verdict is made, so a program with violations is run as any other.
abbrev pub IsNumberedRunAs : (groups number : ℕ) → InputReading → List ℕ → List ℕ → Status → Type 0
IsNumberedRunAs groups number reading input bytes Done =
    (program : Program) × reading.Gives input program × IsNumberedRunOf program groups number bytes Done
IsNumberedRunAs groups number reading input bytes Limit =
    (program : Program) × reading.Gives input program × IsNumberedRunOf program groups number bytes Limit
IsNumberedRunAs groups number reading input bytes Faulted =
    (program : Program) × reading.Gives input program × IsNumberedRunOf program groups number bytes Faulted
IsNumberedRunAs groups number reading input bytes Refused = reading.Refuses input bytes
IsNumberedRunAs groups number reading input bytes status = ⊥

-- A call that ends so has run nothing.
abbrev pub RanNothing : Status → Type 0
RanNothing Violated = Unit {0}
RanNothing Words = Unit {0}
RanNothing Refused = Unit {0}
RanNothing TooLong = Unit {0}
RanNothing ReadFault = Unit {0}
RanNothing status = ⊥

-- The input is read as no program that is accepted.
abbrev pub IsNotRun : List ℕ → Type 0
IsNotRun input = (program : Program) → as_either.Gives input program → ¬ HasNoViolation program

-- Of an accepted program the watchers have seen all groups of its run, and those that are full are gone.
abbrev pub HaveWatched : ℕ → List ℕ → (old now : List WatchState) → Type 0
HaveWatched groups input old now =
    (program : Program) → as_either.Gives input program → HasNoViolation program
    → now ≡ staying (run_of program groups).events old

-- Where memory ran out, the watchers are as they were, or where they were in the course of the run of an accepted program.
abbrev pub HaveWatchedPart : ℕ → List ℕ → (old now : List WatchState) → Type 0
HaveWatchedPart groups input old now =
    (now ≡ old)
    ⊎ ((program : Program) × as_either.Gives input program × HasNoViolation program
    × IsCutShort (run_of program groups).events old now)
