-- What is stated of `run`, `watch` and `trace`.
use Rattle.std.proofs.Common.{◌≡◌, ℕ, inl, inr, List, refl, sym, ap, ◌∙◌, subst, arith}
use Rattle.std.proofs.lemmas.List.{append-nil}
use Rattle.std.specs.Prelude.{◌↔◌, ◌⊎◌, ◌+◌}
use Rattle.std.proofs.lemmas.Option.{same_Some}
use Rattle.ia_program.specs.Programs.{Program}
use Rattle.ia_program.specs.declared.ending.End.{End}
use Rattle.ia_program.specs.declared.ending.End.TheVariants as end
use Rattle.ia_program.specs.Programs.{IsProgram}
use Rattle.ia_meaning.specs.declared.state.Rse.{Rse}
use Rattle.ia_meaning.specs.State.{State, zero_state}
use Rattle.ia_meaning.specs.Progress.{Progress, begun, groups_further, end_of}
use Rattle.ia_meaning.specs.Runs.{HasRun, ProgressIsRun, run_text}
use Rattle.ia_meaning.specs.StateText.{state_text}
use Rattle.ia_meaning.proofs.GroupEnds.{zero_is_place}
use Rattle.order_laws.specs.Violations.{HasNoViolation}
use Rattle.ia_meaning.specs.OrderIndependence.{IsOrderIndependent}
use Rattle.ia64_top.specs.declared.status.Status.{Status}
use Rattle.ia64_top.specs.declared.status.Status.TheVariants.{Done, Violated, Limit, Faulted, Refused}
use Rattle.ia64_top.specs.Judgements.{IsJudgement, IsJudgedViolated}
use Rattle.ia64_top.specs.Runs.{Printing, run_of, end_status, state_after, watch_text, trace_text, IsRunOf, IsNotRun, HaveWatched, IsRunAs}
use Rattle.watch_seam.specs.Watchers.{WatchState}
use Rattle.watch_seam.specs.Watching.{staying}
use Rattle.ia64_top.specs.Readings.{InputReading, IsRefusal, as_either}
use Rattle.std.specs.Prelude.{Some}
use Rattle.ia64_top.specs.declared.arguments.Command.{Command}
use Rattle.ia64_top.specs.declared.arguments.Command.TheVariants as command
use Rattle.ia64_top.specs.Arguments.{groups_of, Judges}
use Rattle.ia64_top.specs.Output.{printing_of, IsCommandOutput}
use Rattle.ia64_top.proofs.Outputs.{GivesOne, RefusesNone, IsTold, holds_where_told}
use Rattle.ia64_top.proofs.Judging.{violated_of_judgement, done_where_free, violated_where_not_free}

-- What is answered of a program: its run, or its verdict where it has violations.
abbrev pub IsRunAnswer : Printing → ℕ → Program → List ℕ → Status → Type 0
IsRunAnswer text groups p bytes status = IsRunOf text p groups bytes status ⊎ IsJudgedViolated p bytes status

-- An input is read as the program that is accepted of it.
pub accepted_read : (input : List ℕ) (p q : Program) → as_either.Gives input p → q ≡ p → as_either.Gives input q
accepted_read input p q gives same = subst (λ r. as_either.Gives input r) (sym same) gives

-- The end of the run tells the row of its status.
by_end : (text : Printing) (groups : ℕ) (r : InputReading) (input : List ℕ) (p : Program) (bytes : List ℕ) (status : Status) (e : End)
    → r.Gives input p → status ≡ end_status e → IsRunOf text p groups bytes status → IsRunAs text groups r input bytes status
by_end text groups r input p bytes status (end.Break imm place) g is =
    subst (λ s. IsRunOf text p groups bytes s → IsRunAs text groups r input bytes s) (sym is) (λ o. (p, g, o))
by_end text groups r input p bytes status (end.Limit place) g is =
    subst (λ s. IsRunOf text p groups bytes s → IsRunAs text groups r input bytes s) (sym is) (λ o. (p, g, o))
by_end text groups r input p bytes status (end.Fault kind place) g is =
    subst (λ s. IsRunOf text p groups bytes s → IsRunAs text groups r input bytes s) (sym is) (λ o. (p, g, o))

-- The answer of the program that an input is read as is that of the input.
pub run_of_program : (text : Printing) (groups : ℕ) (r : InputReading) (input : List ℕ) (p : Program) (bytes : List ℕ) (status : Status)
    → r.Gives input p → IsRunOf text p groups bytes status ⊎ IsJudgedViolated p bytes status → IsRunAs text groups r input bytes status
run_of_program text groups r input p bytes status g (inl o) = by_end text groups r input p bytes status (run_of p groups).end g o.ends o
run_of_program text groups r input p bytes status g (inr o) =
    subst (λ s. IsJudgement p bytes s → IsRunAs text groups r input bytes s) (sym o.1) (λ j. (p, g, j)) o.0

-- Each row tells the answer of the program, or the refusal.
pub told_of_run : (text : Printing) (groups : ℕ) (r : InputReading) (input bytes : List ℕ) (status : Status)
    → IsRunAs text groups r input bytes status → IsTold r (IsRunAnswer text groups) input bytes status
told_of_run text groups r input bytes Done o = inl (o.0, o.1, inl o.2)
told_of_run text groups r input bytes Violated o = inl (o.0, o.1, inr (o.2, refl))
told_of_run text groups r input bytes Limit o = inl (o.0, o.1, inl o.2)
told_of_run text groups r input bytes Faulted o = inl (o.0, o.1, inl o.2)
told_of_run text groups r input bytes Refused o = inr (o, refl)
told_of_run text groups r input bytes status o = absurd o

-- A run has no violations.
not_violated : (e : End) → end_status e ≡ Violated → ⊥
not_violated (end.Break imm place) is = cc
not_violated (end.Limit place) is = cc
not_violated (end.Fault kind place) is = cc

violated_of_answer : (text : Printing) (groups : ℕ) (p : Program) (bytes : List ℕ) (status : Status)
    → IsRunAnswer text groups p bytes status → ((status ≡ Violated) ↔ (¬ HasNoViolation p))
violated_of_answer text groups p bytes status (inl o) =
    (λ e. absurd (not_violated (run_of p groups).end (sym o.ends ∙ e)), λ n. absurd (n o.free))
violated_of_answer text groups p bytes status (inr o) = violated_of_judgement p bytes status o.0

-- The end of the run tells the status of a program that is free.
end_of_answer : (text : Printing) (groups : ℕ) (p : Program) (bytes : List ℕ) (status : Status) → IsRunAnswer text groups p bytes status
    → HasNoViolation p → status ≡ end_status (run_of p groups).end
end_of_answer text groups p bytes status (inl o) free = o.ends
end_of_answer text groups p bytes status (inr o) free = absurd ((violated_of_judgement p bytes status o.0).0 o.1 free)

status_of_run : (text : Printing) (groups : ℕ) (r : InputReading) → GivesOne r → RefusesNone r → (input bytes : List ℕ) (status : Status)
    → IsRunAs text groups r input bytes status
    → (p : Program) → r.Gives input p → HasNoViolation p → status ≡ end_status (run_of p groups).end
status_of_run text groups r one none input bytes status o =
    holds_where_told r (IsRunAnswer text groups) (λ p s. HasNoViolation p → s ≡ end_status (run_of p groups).end)
    (end_of_answer text groups) one none input bytes status (told_of_run text groups r input bytes status o)

-- `Violated` is the answer exactly where the program has a violation.
run_violated_where_not_free : (text : Printing) (groups : ℕ) (r : InputReading) → GivesOne r → RefusesNone r
    → (input bytes : List ℕ) (status : Status) → IsRunAs text groups r input bytes status
    → (p : Program) → r.Gives input p → ((status ≡ Violated) ↔ (¬ HasNoViolation p))
run_violated_where_not_free text groups r one none input bytes status o =
    holds_where_told r (IsRunAnswer text groups) (λ p s. (s ≡ Violated) ↔ (¬ HasNoViolation p))
    (violated_of_answer text groups) one none input bytes status (told_of_run text groups r input bytes status o)

pub run_is : (text : Printing) (groups : ℕ) (r : InputReading) (input : List ℕ) (p : Program) (bytes : List ℕ) (status : Status)
    → r.Gives input p → IsRunOf text p groups bytes status → IsRunAs text groups r input bytes status
run_is text groups r input p bytes status gives o = run_of_program text groups r input p bytes status gives (inl o)

-- A run under way that has come so far prints the run, and ends as it does.
same_text : (e f : End) (g h : ℕ) (r q : Rse) (s t : State) → e ≡ f → g ≡ h → r ≡ q → s ≡ t → state_text e g r s ≡ state_text f h q t
same_text e f g h r q s t ef gh rq st = rw (ef, gh, rq, st) refl

has_run : ProgressIsRun → (groups : ℕ) (p : Program) (m : Progress) → IsProgram p → m ≡ groups_further groups p (begun (zero_state p))
    → HasRun m (run_of p groups)
has_run run groups p m program came =
    subst (λ x. HasRun x (run_of p groups)) (sym came) (run groups p (zero_state p) program (zero_is_place p program))

pub text_of_progress : ProgressIsRun → (groups : ℕ) (p : Program) (m : Progress) (e : End) → IsProgram p
    → m ≡ groups_further groups p (begun (zero_state p)) → e ≡ end_of m
    → state_text e m.groups m.range m.state ≡ run_text (run_of p groups)
text_of_progress run groups p m e program came ends =
    let has = has_run run groups p m program came in same_text _ _ _ _ _ _ _ _ (ends ∙ has.end) has.groups has.range has.state

pub run_of_progress : ProgressIsRun → (text : Printing) (groups : ℕ) (p : Program) (m : Progress) (e : End) (bytes : List ℕ)
    (status : Status) → IsProgram p → HasNoViolation p → IsOrderIndependent p → m ≡ groups_further groups p (begun (zero_state p)) → e ≡ end_of m
    → bytes ≡ text (run_of p) groups → status ≡ end_status e → IsRunOf text p groups bytes status
run_of_progress run text groups p m e bytes status program free order_independent came ends printed answered =
    let has = has_run run groups p m program came in
    record { program = program; free = free; order_independent = order_independent; printed = printed; ends = answered ∙ ap end_status (ends ∙ has.end) }

-- A trace that shows no group behind the first ones prints the state after these, as `run` does.
none_traced : (groups : ℕ) (p : Program) (bytes : List ℕ) (status : Status) → IsRunOf (trace_text groups 0) p (groups + 0) bytes status
    → IsRunOf state_after p groups bytes status
none_traced groups p bytes status o =
    let same : groups + 0 ≡ groups = omega arith in
    record {
      program = o.program;
      free = o.free;
      order_independent = o.order_independent;
      printed = o.printed ∙ append-nil (run_text (run_of p groups));
      ends = o.ends ∙ ap (λ n. end_status (run_of p n).end) same;
    }

pub run_of_trace : (groups : ℕ) (input bytes : List ℕ) (status : Status)
    → IsRunAs (trace_text groups 0) (groups + 0) as_either input bytes status → IsRunAs state_after groups as_either input bytes status
run_of_trace groups input bytes Done o = (o.0, o.1, none_traced groups o.0 bytes Done o.2)
run_of_trace groups input bytes Limit o = (o.0, o.1, none_traced groups o.0 bytes Limit o.2)
run_of_trace groups input bytes Faulted o = (o.0, o.1, none_traced groups o.0 bytes Faulted o.2)
run_of_trace groups input bytes status o = o

-- Of the program that was read the watchers have seen the run, and no other program is read.
pub have_watched : GivesOne as_either → (groups : ℕ) (input : List ℕ) (p : Program) (old now : List WatchState) → as_either.Gives input p
    → now ≡ staying (run_of p groups).events old → HaveWatched groups input old now
have_watched one groups input p old now gives is q given free =
    subst (λ x. now ≡ staying (run_of x groups).events old) (one input p q gives given) is

-- What is refused, or has violations, is read as no accepted program.
pub refused_not_run : RefusesNone as_either → (input bytes : List ℕ) (status : Status) → IsRefusal as_either input bytes status
    → IsNotRun input
refused_not_run none input bytes status refused p gives free = none input p bytes gives refused.0

pub violated_not_run : GivesOne as_either → (input : List ℕ) (q : Program) (bytes : List ℕ) (status : Status) → as_either.Gives input q
    → IsJudgedViolated q bytes status → IsNotRun input
violated_not_run one input q bytes status gives judged p given free =
    (violated_of_judgement q bytes status judged.0).0 judged.1 (subst HasNoViolation (one input p q given gives) free)

-- A command that runs this many groups answers as a run does.
pub run_output : (c : Command) (ws : List WatchState) (groups : ℕ) (input bytes : List ℕ) (status : Status) → groups_of c ≡ Some groups
    → IsCommandOutput c ws input bytes status
    → IsRunAs (printing_of c ws) groups as_either input bytes status
run_output (command.Run n) ws groups input bytes status runs o =
    subst (λ k. IsRunAs state_after k as_either input bytes status) (same_Some n groups runs) o
run_output (command.Watch n) ws groups input bytes status runs o =
    subst (λ k. IsRunAs (watch_text ws) k as_either input bytes status) (same_Some n groups runs) o
run_output (command.Trace first count) ws groups input bytes status runs o =
    subst (λ k. IsRunAs (trace_text first count) k as_either input bytes status) (same_Some (first + count) groups runs) o
run_output c ws groups input bytes status runs o = cc

-- What is told of the program that a command reads.
pub accepted_of : GivesOne as_either → RefusesNone as_either → (c : Command) (ws : List WatchState) (input bytes : List ℕ) (status : Status)
    → IsCommandOutput c ws input bytes status
    → c ≡ command.Check → (p : Program) → as_either.Gives input p → ((status ≡ Done) ↔ HasNoViolation p)
accepted_of one none c ws input bytes status o is =
    done_where_free as_either one none input bytes status (subst (λ k. IsCommandOutput k ws input bytes status) is o)

pub judged_of : GivesOne as_either → RefusesNone as_either → (c : Command) (ws : List WatchState) (input bytes : List ℕ) (status : Status)
    → IsCommandOutput c ws input bytes status
    → Judges c → (p : Program) → as_either.Gives input p → ((status ≡ Violated) ↔ (¬ HasNoViolation p))
judged_of one none command.Check ws input bytes status o judges = violated_where_not_free as_either one none input bytes status o
judged_of one none (command.Run groups) ws input bytes status o judges =
    run_violated_where_not_free state_after groups as_either one none input bytes status o
judged_of one none (command.Watch groups) ws input bytes status o judges =
    run_violated_where_not_free (watch_text ws) groups as_either one none input bytes status o
judged_of one none (command.Trace first count) ws input bytes status o judges =
    run_violated_where_not_free (trace_text first count) (first + count) as_either one none input bytes status o
judged_of one none c ws input bytes status o judges = absurd judges

pub ended_of : GivesOne as_either → RefusesNone as_either → (c : Command) (ws : List WatchState) (input bytes : List ℕ) (status : Status)
    → IsCommandOutput c ws input bytes status
    → (groups : ℕ) → groups_of c ≡ Some groups → (p : Program) → as_either.Gives input p → HasNoViolation p
    → status ≡ end_status (run_of p groups).end
ended_of one none c ws input bytes status o groups runs =
    status_of_run (printing_of c ws) groups as_either one none input bytes status (run_output c ws groups input bytes status runs o)

-- One number of groups is that of `watch`.
pub of_watch : (P : ℕ → Type 0) (groups : ℕ) (c : Command) → c ≡ command.Watch groups → P groups → (k : ℕ) → c ≡ command.Watch k → P k
of_watch P groups c mine held k its =
    let watch : command.Watch groups ≡ command.Watch k = sym mine ∙ its in
    let same : groups ≡ k = cc in
    subst P same held
