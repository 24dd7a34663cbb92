-- Why an input is refused, what else is answered, and what is printed of violations.
use Rattle.std.proofs.Common.{◌≡◌, inl, inr, ℕ, ◌<◌, List, length, Option, Some, refl, sym, subst}
use Rattle.std.proofs.lemmas.Option.{IfSome_then}
use Rattle.std.specs.Prelude.{◌↔◌, ◌⊎◌, ◌+◌, IfSome, false}
use Rattle.std.specs.Io.KnownBytes.{Appends}
use Rattle.std.proofs.lemmas.Bool.{lt-ltb}
use Rattle.ia_program.specs.Programs.{Program}
use Rattle.image_form.specs.Images.{IsImage, Written}
use Rattle.image_form.specs.declared.version.Version.TheVariants.{Two}
use Rattle.image_form.specs.Laws.{NoFaultWhereSpelled, NoFaultWhereRaw}
use Rattle.asm_build.specs.Listing.{IsListing}
use Rattle.asm_build.specs.Laws.{NoFaultWhereRead}
use Rattle.stop_placer.specs.Laws.{NoFaultWherePlaced}
use Rattle.group_checker.specs.declared.report.Verdict.{Verdict}
use Rattle.group_checker.specs.declared.report.Verdict.TheVariants.{Accepted, Violations}
use Rattle.group_checker.specs.Reports.{IsVerdict}
use Rattle.trial_maker.specs.Trials.{trial_program}
use Rattle.watch_seam.specs.Watchers.{WatchState}
use Rattle.ia64_top.specs.declared.limits.TheConstants.{INPUT_LIMIT}
use Rattle.ia64_top.specs.declared.arguments.Command.{Command}
use Rattle.ia64_top.specs.declared.arguments.Command.TheVariants.{Build, Stops, Show, List as Listing, Wrap, Lift, Check, Run, Watch, Trace, Groups, Trial}
use Rattle.ia64_top.specs.declared.status.Status.{Status}
use Rattle.ia64_top.specs.declared.status.Status.TheVariants.{Done, Violated, Refused, NoMemory, Limit, Faulted}
use Rattle.ia64_top.specs.Arguments.{command_of, IsTrial}
use Rattle.ia64_top.specs.Statuses.{TellsOfProgram}
use Rattle.ia64_top.specs.Inputs.{IsReadOf}
use Rattle.ia64_top.specs.Texts.{verdict_text}
use Rattle.ia64_top.specs.Judgements.{verdict_status, IsJudgement, PrintsClashes, IsCheckedAs}
use Rattle.ia64_top.specs.Runs.{Printing, state_after, watch_text, trace_text, IsRunAs, IsNumberedRunAs}
use Rattle.ia64_top.specs.Trials.{IsTrialOutput}
use Rattle.ia64_top.specs.Readings.{InputReading, as_image, as_bundles, as_text, as_loose, as_either}
use Rattle.ia64_top.specs.Output.{IsCanonical, IsMadeOutput, IsCommandOutput, IsProgramOf, IsUnreadable, is_too_long, GivesClashes}
use Rattle.ia64_top.specs.Stops.{IsPackedText}
use Rattle.ia64_top.proofs.Outputs.{GivesOne, RefusesNone, image_refuses_none, bundles_refuse_none, text_refuses_none, loose_refuses_none, either_refuses_none}
use Rattle.ia64_top.proofs.Answering.{same_command}

-- What is answered to an input that is read in this way: something of its program, or its refusal.
abbrev IsAnsweredAs : InputReading → List ℕ → Status → Type 0
IsAnsweredAs r input status =
    ((p : Program) × r.Gives input p × TellsOfProgram status) ⊎ ((bytes : List ℕ) × r.Refuses input bytes × (status ≡ Refused))

made_so : (r : InputReading) (Makes : Program → List ℕ → Type 0) (input bytes : List ℕ) (status : Status)
    → IsMadeOutput r Makes input bytes status → IsAnsweredAs r input status
made_so r Makes input bytes Done o = inl (o.0, o.1, tt)
made_so r Makes input bytes Refused o = inr (bytes, o, refl)
made_so r Makes input bytes status o = absurd o

checked_so : (r : InputReading) (input bytes : List ℕ) (status : Status) → IsCheckedAs r input bytes status → IsAnsweredAs r input status
checked_so r input bytes Done o = inl (o.0, o.1, tt)
checked_so r input bytes Violated o = inl (o.0, o.1, tt)
checked_so r input bytes Refused o = inr (bytes, o, refl)
checked_so r input bytes status o = absurd o

run_so : (text : Printing) (groups : ℕ) (r : InputReading) (input bytes : List ℕ) (status : Status)
    → IsRunAs text groups r input bytes status → IsAnsweredAs r input status
run_so text groups r input bytes Done o = inl (o.0, o.1, tt)
run_so text groups r input bytes Violated o = inl (o.0, o.1, tt)
run_so text groups r input bytes Limit o = inl (o.0, o.1, tt)
run_so text groups r input bytes Faulted o = inl (o.0, o.1, tt)
run_so text groups r input bytes Refused o = inr (bytes, o, refl)
run_so text groups r input bytes status o = absurd o

numbered_run_so : (groups number : ℕ) (r : InputReading) (input bytes : List ℕ) (status : Status)
    → IsNumberedRunAs groups number r input bytes status → IsAnsweredAs r input status
numbered_run_so groups number r input bytes Done o = inl (o.0, o.1, tt)
numbered_run_so groups number r input bytes Limit o = inl (o.0, o.1, tt)
numbered_run_so groups number r input bytes Faulted o = inl (o.0, o.1, tt)
numbered_run_so groups number r input bytes Refused o = inr (bytes, o, refl)
numbered_run_so groups number r input bytes status o = absurd o

-- What is refused is read as no program, and nothing else is; of a program that is read something is told.
pub record HasCause (Gives : Program → Type 0) (status : Status) : Type 0 where
  pub refused : (status ≡ Refused) ↔ ((p : Program) → ¬ Gives p)
  pub served : (p : Program) → Gives p → TellsOfProgram status

cause_of : (r : InputReading) → RefusesNone r → (input : List ℕ) (status : Status) → IsAnsweredAs r input status
    → HasCause (λ p. r.Gives input p) status
cause_of r none input status (inl a) =
    record { refused = (λ e. absurd (subst TellsOfProgram e a.2), λ n. absurd (n a.0 a.1)); served = λ p g. a.2 }
cause_of r none input status (inr a) =
    record { refused = (λ e p g. none input p a.0 g a.1, λ n. a.2); served = λ p g. absurd (none input p a.0 g a.1) }

-- `trial` reads nothing, and is never refused.
of_trial : (seed bundles : ℕ) (bytes : List ℕ) (status : Status) → IsTrialOutput seed bundles bytes status → TellsOfProgram status
of_trial seed bundles bytes Done o = tt
of_trial seed bundles bytes Violated o = tt
of_trial seed bundles bytes status o = absurd o

cause : NoFaultWhereSpelled → NoFaultWhereRaw → NoFaultWhereRead → NoFaultWherePlaced
    → (c : Command) (ws : List WatchState) (input bytes : List ℕ) (status : Status) → IsCommandOutput c ws input bytes status
    → HasCause (λ p. IsProgramOf c input p) status
cause spelled raw read placed Build ws input bytes status o =
    cause_of as_text (text_refuses_none read) input status (made_so as_text Written input bytes status o)
cause spelled raw read placed Stops ws input bytes status o =
    cause_of as_loose (loose_refuses_none placed) input status (made_so as_loose (IsPackedText input) input bytes status o)
cause spelled raw read placed Show ws input bytes status o =
    cause_of as_image (image_refuses_none spelled) input status (made_so as_image IsCanonical input bytes status o)
cause spelled raw read placed Listing ws input bytes status o =
    cause_of as_image (image_refuses_none spelled) input status (made_so as_image IsListing input bytes status o)
cause spelled raw read placed Wrap ws input bytes status o =
    cause_of as_bundles (bundles_refuse_none raw) input status (made_so as_bundles Written input bytes status o)
cause spelled raw read placed Lift ws input bytes status o =
    cause_of as_image (image_refuses_none spelled) input status (made_so as_image (IsImage Two) input bytes status o)
cause spelled raw read placed Check ws input bytes status o =
    cause_of as_either (either_refuses_none spelled read) input status (checked_so as_either input bytes status o)
cause spelled raw read placed (Run groups) ws input bytes status o =
    cause_of as_either (either_refuses_none spelled read) input status (run_so state_after groups as_either input bytes status o)
cause spelled raw read placed (Watch groups) ws input bytes status o =
    cause_of as_either (either_refuses_none spelled read) input status (run_so (watch_text ws) groups as_either input bytes status o)
cause spelled raw read placed (Trace first count) ws input bytes status o =
    cause_of as_either (either_refuses_none spelled read) input status
    (run_so (trace_text first count) (first + count) as_either input bytes status o)
cause spelled raw read placed (Groups groups number) ws input bytes status o =
    cause_of as_either (either_refuses_none spelled read) input status (numbered_run_so groups number as_either input bytes status o)
cause spelled raw read placed (Trial seed bundles) ws input bytes status o =
    let of = of_trial seed bundles bytes status o in
    record { refused = (λ e. absurd (subst TellsOfProgram e of), λ n. absurd (n (trial_program seed bundles) refl)); served = λ p g. of }

-- What is told of what a command reads is told of all that there is.
of_all : (c : Command) (input l : List ℕ) (status : Status) → IsReadOf c input l → HasCause (λ p. IsProgramOf c input p) status
    → HasCause (λ p. IsProgramOf c l p) status
of_all (Trial seed bundles) input l status is h = h
of_all c input l status is h = subst (λ i. HasCause (λ p. IsProgramOf c i p) status) is h

pub cause_within : NoFaultWhereSpelled → NoFaultWhereRaw → NoFaultWhereRead → NoFaultWherePlaced
    → (arguments : List (List ℕ)) (c : Command) (ws : List WatchState) (left : Option (List ℕ)) (input bytes : List ℕ) (status : Status)
    → command_of arguments ≡ Some c → IfSome left (IsReadOf c input) → IsCommandOutput c ws input bytes status
    → IfSome left (λ l. (d : Command) → command_of arguments ≡ Some d → HasCause (λ p. IsProgramOf d l p) status)
cause_within spelled raw read placed arguments c ws left input bytes status e whole o =
    IfSome_then left whole (λ l whole d f. subst (λ k. HasCause (λ p. IsProgramOf k l p) status) (same_command arguments c d e f)
    (of_all c input l status whole (cause spelled raw read placed c ws input bytes status o)))

pub refused_within : (arguments : List (List ℕ)) (left : Option (List ℕ)) (status : Status)
    → IfSome left (λ l. (d : Command) → command_of arguments ≡ Some d → HasCause (λ p. IsProgramOf d l p) status)
    → IfSome left (λ l. (d : Command) → command_of arguments ≡ Some d → is_too_long d l ≡ false → ((status ≡ Refused) ↔ IsUnreadable d l))
refused_within arguments left status h = IfSome_then left h (λ l h d f short. (h d f).refused)

pub served_within : (arguments : List (List ℕ)) (left : Option (List ℕ)) (status : Status)
    → IfSome left (λ l. (d : Command) → command_of arguments ≡ Some d → HasCause (λ p. IsProgramOf d l p) status)
    → IfSome left (λ l. (d : Command) → command_of arguments ≡ Some d → is_too_long d l ≡ false → (p : Program) → IsProgramOf d l p
    → TellsOfProgram status ⊎ (status ≡ NoMemory))
served_within arguments left status h = IfSome_then left h (λ l h d f short p g. inl ((h d f).served p g))

-- Of an input that is too long nothing is told, nor of one whose arguments are no command.
long_enough : (d : Command) (input : List ℕ) → ¬ IsTrial (Some d) → INPUT_LIMIT < length input → is_too_long d input ≡ false → ⊥
long_enough (Trial seed bundles) input other beyond short = other tt
long_enough d input other beyond short = let long = rw (lt-ltb INPUT_LIMIT (length input) beyond) at short in cc

pub none_beyond : (P : Command → List ℕ → Type 0) (arguments : List (List ℕ)) (c : Command) (left : Option (List ℕ))
    → command_of arguments ≡ Some c → ¬ IsTrial (Some c) → IfSome left (λ l. INPUT_LIMIT < length l)
    → IfSome left (λ l. (d : Command) → command_of arguments ≡ Some d → is_too_long d l ≡ false → P d l)
none_beyond P arguments c left e other beyond =
    IfSome_then left beyond (λ l beyond d f short. absurd (long_enough d l
    (subst (λ k. ¬ IsTrial (Some k)) (same_command arguments c d e f) other) beyond short))

-- A verdict with violations prints clashes alone.
prints : (p : Program) (bytes : List ℕ) (v : Verdict) → IsVerdict p v → bytes ≡ verdict_text v → Violated ≡ verdict_status v
    → PrintsClashes p bytes
prints p bytes (Accepted q) exact printed is = cc
prints p bytes (Violations r) exact printed is = record { report = r; exact = exact; printed = printed }

of_judgement : (p q : Program) (bytes : List ℕ) → q ≡ p → IsJudgement q bytes Violated → PrintsClashes p bytes
of_judgement p q bytes same j = subst (λ x. PrintsClashes x bytes) same (prints q bytes j.verdict j.exact j.printed j.tells)

clashes_of : GivesOne as_either → (c : Command) (ws : List WatchState) (input bytes : List ℕ) (status : Status) → status ≡ Violated
    → IsCommandOutput c ws input bytes status → (p : Program) → IsProgramOf c input p → PrintsClashes p bytes
clashes_of one c ws input bytes status is o p g = violated c (subst (IsCommandOutput c ws input bytes) is o) g
  where
    violated : (k : Command) → IsCommandOutput k ws input bytes Violated → IsProgramOf k input p → PrintsClashes p bytes
    violated Check o g = of_judgement p o.0 bytes (one input o.0 p o.1 g) o.2
    violated (Run groups) o g = of_judgement p o.0 bytes (one input o.0 p o.1 g) o.2
    violated (Watch groups) o g = of_judgement p o.0 bytes (one input o.0 p o.1 g) o.2
    violated (Trace first count) o g = of_judgement p o.0 bytes (one input o.0 p o.1 g) o.2
    violated (Trial seed bundles) o g = of_judgement p (trial_program seed bundles) bytes (sym g) o
    violated k o g = absurd o

-- The program of all that there is is that of what is read.
of_read : (c : Command) (input l : List ℕ) (p : Program) → IsReadOf c input l → IsProgramOf c l p → IsProgramOf c input p
of_read (Trial seed bundles) input l p is g = g
of_read c input l p is g = subst (λ i. IsProgramOf c i p) (sym is) g

pub clashes_within : GivesOne as_either → (arguments : List (List ℕ)) (c : Command) (ws : List WatchState) (left old new : Option (List ℕ))
    (input bytes : List ℕ) (status : Status) → command_of arguments ≡ Some c → IfSome left (IsReadOf c input)
    → IsCommandOutput c ws input bytes status → Appends old new bytes
    → status ≡ Violated → IfSome left (λ l. (d : Command) → command_of arguments ≡ Some d → (p : Program) → IsProgramOf d l p
    → GivesClashes p old new)
clashes_within one arguments c ws left old new input bytes status e whole o appended is =
    IfSome_then left whole (λ l whole d f p g.
    let mine : IsProgramOf c l p = subst (λ k. IsProgramOf k l p) (same_command arguments d c f e) g in
    (bytes, clashes_of one c ws input bytes status is o p (of_read c input l p whole mine), appended))
