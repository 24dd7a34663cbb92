-- What is promised of the orders of writes.
use Rattle.std.proofs.Common.{◌≡◌, ℕ, List, Option, Some, None, refl, sym, ap, ◌∙◌, subst}
use Rattle.std.proofs.lemmas.Option.{IfSome_then}
use Rattle.std.specs.Prelude.{◌+◌, IfSome}
use Rattle.std.specs.Io.KnownBytes.{Appends}
use Rattle.ia_program.specs.Programs.{Program, IsProgram}
use Rattle.ia_meaning.specs.State.{zero_state, ZeroIsStart}
use Rattle.ia_meaning.specs.Steps.{Run as WholeRun}
use Rattle.ia_meaning.specs.OrderIndependence.{IsOrderIndependent}
use Rattle.order_laws.specs.Violations.{HasNoViolation}
use Rattle.order_laws.specs.OrderLaws.{FreeIsOrderIndependent}
use Rattle.stop_placer.specs.Laws.{OnePlaced}
use Rattle.ia64_top.specs.declared.arguments.Command.{Command}
use Rattle.ia64_top.specs.declared.arguments.Command.TheVariants.{Stops, Check, Run, Watch, Trace, Trial}
use Rattle.ia64_top.specs.declared.status.Status.{Status}
use Rattle.ia64_top.specs.declared.status.Status.TheVariants.{Done, TooLong, Limit, Faulted}
use Rattle.ia64_top.specs.Arguments.{command_of, groups_of}
use Rattle.ia64_top.specs.Statuses.{TellsAccepted}
use Rattle.ia64_top.specs.Runs.{Printing, run_of, end_status, state_after, watch_text, trace_text, IsRunOf, ordered_run_of, IsRunOfEveryOrder, IsRunAs}
use Rattle.ia64_top.specs.Readings.{as_loose, as_either}
use Rattle.ia64_top.specs.Output.{IsProgramOf, printing_of, IsCommandOutput, GivesRunOfEveryOrder}
use Rattle.watch_seam.specs.Watchers.{WatchState}
use Rattle.ia64_top.proofs.Outputs.{GivesOne, loose_gives_one}
use Rattle.ia64_top.proofs.Answering.{same_command, run_whole}
use Rattle.ia64_top.proofs.Running.{run_output}
use Rattle.ia64_top.specs.Inputs.{IsReadOf}
use Rattle.ia64_top.proofs.Judging.{done_of_judgement}

-- The program that the input is read as, without violations.
record Accepts (input : List ℕ) (p : Program) : Type 0 where
  gives : as_either.Gives input p
  program : IsProgram p
  free : HasNoViolation p

-- What a run answers of an accepted program.
record RunsAccepted (text : Printing) (groups : ℕ) (input bytes : List ℕ) (status : Status) (p : Program) : Type 0 where
  accepts : Accepts input p
  runs : IsRunOf text p groups bytes status

of_run : (text : Printing) (groups : ℕ) (input bytes : List ℕ) (status : Status) (p : Program) → as_either.Gives input p
    → IsRunOf text p groups bytes status → RunsAccepted text groups input bytes status p
of_run text groups input bytes status p g o = record { accepts = record { gives = g; program = o.program; free = o.free }; runs = o }

-- A state was printed.
abbrev Ran : Status → Type 0
Ran Done = Unit {0}
Ran Limit = Unit {0}
Ran Faulted = Unit {0}
Ran status = ⊥

accepted_run : (text : Printing) (groups : ℕ) (input bytes : List ℕ) (status : Status) → Ran status
    → IsRunAs text groups as_either input bytes status → (p : Program) × RunsAccepted text groups input bytes status p
accepted_run text groups input bytes Done t o = (o.0, of_run text groups input bytes Done o.0 o.1 o.2)
accepted_run text groups input bytes Limit t o = (o.0, of_run text groups input bytes Limit o.0 o.1 o.2)
accepted_run text groups input bytes Faulted t o = (o.0, of_run text groups input bytes Faulted o.0 o.1 o.2)
accepted_run text groups input bytes status t o = absurd t

-- Where a command tells that the program is accepted it is done, or has printed a state.
ran : (status : Status) (c : Command) → TellsAccepted status c → Ran status
ran Done c t = tt
ran Limit c t = tt
ran Faulted c t = tt
ran status c t = absurd t

-- A program that is free is order independent, and what is read is one program.
order_independent_given : FreeIsOrderIndependent → GivesOne as_either → (input : List ℕ) (q : Program) → as_either.Gives input q → IsProgram q → HasNoViolation q
    → (p : Program) → as_either.Gives input p → IsOrderIndependent p
order_independent_given law one input q gives program free p g = subst IsOrderIndependent (one input q p gives g) (law q program free)

order_independent_run : FreeIsOrderIndependent → GivesOne as_either → (text : Printing) (groups : ℕ) (input bytes : List ℕ) (status : Status) → Ran status
    → IsRunAs text groups as_either input bytes status → (p : Program) → as_either.Gives input p → IsOrderIndependent p
order_independent_run law one text groups input bytes status ran o p g =
    let a = accepted_run text groups input bytes status ran o in
    let at = a.1.accepts in
    order_independent_given law one input a.0 at.gives at.program at.free p g

order_independent_program : FreeIsOrderIndependent → GivesOne as_either → OnePlaced
    → (status : Status) (c : Command) (ws : List WatchState) (all input bytes : List ℕ) → TellsAccepted status c → IsReadOf c input all
    → IsCommandOutput c ws input bytes status
    → (p : Program) → IsProgramOf c all p → IsOrderIndependent p
order_independent_program law one placed Done Check ws all input bytes t is o p g =
    let j = o.2 in
    let done = done_of_judgement o.0 bytes Done o.2 in
    order_independent_given law one input o.0 o.1 j.program (done.0 refl) p (subst (λ i. as_either.Gives i p) (sym is) g)
order_independent_program law one placed Done Stops ws all input bytes t is o p g =
    let text = o.2 in
    subst IsOrderIndependent (loose_gives_one placed input o.0 p o.1 (subst (λ i. as_loose.Gives i p) (sym is) g)) (law o.0 text.valid text.free)
order_independent_program law one placed Done (Trial seed bundles) ws all input bytes t is o p g = subst IsOrderIndependent (sym g) o.order_independent
order_independent_program law one placed status (Run groups) ws all input bytes t is o p g =
    order_independent_run law one state_after groups input bytes status (ran status (Run groups) t) o p (subst (λ i. as_either.Gives i p) (sym is) g)
order_independent_program law one placed status (Watch groups) ws all input bytes t is o p g =
    order_independent_run law one (watch_text ws) groups input bytes status (ran status (Watch groups) t) o p
    (subst (λ i. as_either.Gives i p) (sym is) g)
order_independent_program law one placed status (Trace first count) ws all input bytes t is o p g =
    order_independent_run law one (trace_text first count) (first + count) input bytes status (ran status (Trace first count) t) o p
    (subst (λ i. as_either.Gives i p) (sym is) g)
order_independent_program law one placed status c ws all input bytes t is o p g = absurd t

same_run : (text : Printing) (groups : ℕ) (p : Program) (codes : List (List ℕ)) → ((n : ℕ) → ordered_run_of p codes n ≡ run_of p n)
    → (bytes : List ℕ) (status : Status) → IsRunOf text p groups bytes status
    → (bytes ≡ text (ordered_run_of p codes) groups) × (status ≡ end_status (ordered_run_of p codes groups).end)
same_run text groups p codes same bytes status o =
    let all : ordered_run_of p codes ≡ run_of p = λ i n. same n i in
    (o.printed ∙ sym (ap (λ runs. text runs groups) all), o.ends ∙ sym (ap (λ (r : WholeRun). end_status r.end) (same groups)))

each_order : FreeIsOrderIndependent → ZeroIsStart → GivesOne as_either → (text : Printing) (groups : ℕ) (input bytes : List ℕ) (status : Status)
    → Ran status → IsRunAs text groups as_either input bytes status
    → (p : Program) → as_either.Gives input p → IsRunOfEveryOrder text p groups bytes status
each_order law zero one text groups input bytes status ran o p g =
    let a = accepted_run text groups input bytes status ran o in
    let k = a.1 in
    let at = k.accepts in
    subst (λ q. IsRunOfEveryOrder text q groups bytes status) (one input a.0 p at.gives g)
    (λ codes. same_run text groups a.0 codes (λ n. law a.0 at.program at.free n codes (zero_state a.0) (zero a.0 at.program)) bytes status
    k.runs)

-- The command runs this number of groups of what it reads.
each_order_of : FreeIsOrderIndependent → ZeroIsStart → GivesOne as_either
    → (c : Command) (groups : ℕ) (ws : List WatchState) (input bytes : List ℕ) (status : Status) → groups_of c ≡ Some groups
    → TellsAccepted status c → IsCommandOutput c ws input bytes status
    → (p : Program) → as_either.Gives input p → IsRunOfEveryOrder (printing_of c ws) p groups bytes status
each_order_of law zero one c groups ws input bytes status is t o =
    each_order law zero one (printing_of c ws) groups input bytes status (ran status c t) (run_output c ws groups input bytes status is o)

-- The promise, of arguments and an input.
abbrev pub Promises : List (List ℕ) → Status → List ℕ → Type 0
Promises arguments status input =
    (c : Command) → command_of arguments ≡ Some c → TellsAccepted status c → (p : Program) → IsProgramOf c input p → IsOrderIndependent p

abbrev pub RunsInEachOrder : List (List ℕ) → List WatchState → Option (List ℕ) → Option (List ℕ) → Status → List ℕ → Type 0
RunsInEachOrder arguments ws old new status input =
    (c : Command) (groups : ℕ) → command_of arguments ≡ Some c → groups_of c ≡ Some groups → TellsAccepted status c → (p : Program)
    → as_either.Gives input p → GivesRunOfEveryOrder (printing_of c ws) p groups old new status

pub promised : FreeIsOrderIndependent → GivesOne as_either → OnePlaced → (arguments : List (List ℕ)) (c : Command) (ws : List WatchState)
    (left : Option (List ℕ)) (input bytes : List ℕ) (status : Status) → command_of arguments ≡ Some c → IfSome left (IsReadOf c input)
    → IsCommandOutput c ws input bytes status → IfSome left (Promises arguments status)
promised law one placed arguments c ws left input bytes status e whole o =
    IfSome_then left whole (λ l whole d f t p g.
    let is = same_command arguments d c f e in
    order_independent_program law one placed status c ws l input bytes (subst (TellsAccepted status) is t) whole o p
    (subst (λ k. IsProgramOf k l p) is g))

pub run_in_each_order : FreeIsOrderIndependent → ZeroIsStart → GivesOne as_either
    → (arguments : List (List ℕ)) (c : Command) (ws : List WatchState) (left old new : Option (List ℕ)) (input bytes : List ℕ)
    (status : Status) → command_of arguments ≡ Some c → IfSome left (IsReadOf c input)
    → IsCommandOutput c ws input bytes status → Appends old new bytes → IfSome left (RunsInEachOrder arguments ws old new status)
run_in_each_order law zero one arguments c ws left old new input bytes status e whole o appended =
    IfSome_then left whole (λ l whole d groups f runs t p g. (
      bytes,
      appended,
      let is = same_command arguments c d e f in
          let read : input ≡ l = run_whole d groups input l runs (subst (λ k. IsReadOf k input l) is whole) in
          each_order_of law zero one d groups ws input bytes status runs t (subst (λ k. IsCommandOutput k ws input bytes status) is o) p
          (subst (λ i. as_either.Gives i p) (sym read) g),
    ))

-- An input that is too long tells nothing of its program.
pub promised_beyond : (arguments : List (List ℕ)) (left : Option (List ℕ)) → IfSome left (Promises arguments TooLong)
promised_beyond arguments None = tt
promised_beyond arguments (Some l) = λ c f t p g. absurd t

pub runs_beyond : (arguments : List (List ℕ)) (ws : List WatchState) (left old new : Option (List ℕ))
    → IfSome left (RunsInEachOrder arguments ws old new TooLong)
runs_beyond arguments ws None old new = tt
runs_beyond arguments ws (Some l) old new = λ c groups f runs t p g. absurd t
