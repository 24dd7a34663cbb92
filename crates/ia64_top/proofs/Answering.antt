-- The stated output, where a source tells its bytes.
use Rattle.std.proofs.Common.{◌≡◌, inl, inr, ℕ, ◌+◌, ◌<◌, ◌≤◌, List, [], length, length-drop, take, drop, Option, Some, None, refl, sym, ap, ◌∙◌, subst, arith}
use Rattle.std.proofs.lemmas.Option.{IfSome_then}
use Rattle.std.specs.Prelude.{◌↔◌, IfSome, MatchBool}
use Rattle.std.specs.Io.KnownBytes.{Appends}
use Rattle.std.proofs.KnownBytes.{Appends-nil}
use Rattle.std.proofs.lemmas.Bool.{lt-ltb, le-ltb}
use Rattle.ia64_top.specs.declared.limits.TheConstants.{INPUT_LIMIT}
use Rattle.io_seam.specs.Bytes.{LosesFirst}
use Rattle.ia64_top.specs.declared.arguments.Command.{Command}
use Rattle.ia64_top.specs.declared.arguments.Command.TheVariants as command
use Rattle.ia64_top.specs.declared.arguments.Command.TheVariants.{Check, Run, Watch, Trace, Groups, Trial}
use Rattle.ia64_top.specs.declared.status.Status.{Status}
use Rattle.ia64_top.specs.declared.status.Status.TheVariants.{Words, Done, Violated, Refused, TooLong, Limit, Faulted}
use Rattle.ia64_top.specs.Arguments.{command_of, Judges, groups_of, IsTrial, IsWatch}
use Rattle.ia64_top.specs.Inputs.{IsReadOf}
use Rattle.watch_seam.specs.Watchers.{WatchState}
use Rattle.watch_seam.specs.Watching.{staying}
use Rattle.ia_program.specs.Programs.{Program}
use Rattle.image_form.specs.Images.{Spells}
use Rattle.image_form.specs.Laws.{ImageSize}
use Rattle.order_laws.specs.Violations.{HasNoViolation}
use Rattle.ia64_top.specs.Runs.{Printing, run_of, end_status, watch_text, RanNothing, IsNotRun, HaveWatched, HaveWatchedPart, IsRunAs}
use Rattle.ia64_top.specs.Readings.{as_either}
use Rattle.ia64_top.specs.Output.{IsWithinLimit, IfRead, is_too_long, IsSilent, IsCommandOutput, IsOutput, GivesOutput, GivesPart}

-- The arguments are one command at most.
pub same_command : (arguments : List (List ℕ)) (c d : Command) → command_of arguments ≡ Some c → command_of arguments ≡ Some d → c ≡ d
same_command arguments c d e f = let same : Some c ≡ Some d = sym e ∙ f in cc

-- What a command writes of what it reads is the output for all that there is.
output_within : (command : Command) (ws : List WatchState) (all read bytes : List ℕ) (status : Status) → IsReadOf command read all
    → length read ≤ INPUT_LIMIT → IsCommandOutput command ws read bytes status
    → MatchBool (is_too_long command all) (IsSilent TooLong bytes status) (IsCommandOutput command ws all bytes status)
output_within (Trial seed bundles) ws all read bytes status is within o = o
output_within command ws all read bytes status is within o =
    subst (λ i. MatchBool (is_too_long command i) (IsSilent TooLong bytes status) (IsCommandOutput command ws i bytes status)) is
    (rw (le-ltb INPUT_LIMIT (length read) within) o)

pub output_of : (arguments : List (List ℕ)) (command : Command) (ws : List WatchState) (all read bytes : List ℕ) (status : Status)
    → command_of arguments ≡ Some command → IsReadOf command read all → length read ≤ INPUT_LIMIT
    → IsCommandOutput command ws read bytes status → IsOutput arguments ws all bytes status
output_of arguments command ws all read bytes status e is within o = rw e (output_within command ws all read bytes status is within o)

-- A longer input is too long, where it is read.
beyond_within : (command : Command) (ws : List WatchState) (input : List ℕ) → ¬ IsTrial (Some command) → INPUT_LIMIT < length input
    → MatchBool (is_too_long command input) (IsSilent TooLong [] TooLong) (IsCommandOutput command ws input [] TooLong)
beyond_within (Trial seed bundles) ws input reads beyond = absurd (reads tt)
beyond_within command ws input reads beyond = rw (lt-ltb INPUT_LIMIT (length input) beyond) (refl, refl)

output_beyond : (arguments : List (List ℕ)) (command : Command) (ws : List WatchState) (input : List ℕ)
    → command_of arguments ≡ Some command → ¬ IsTrial (Some command) → INPUT_LIMIT < length input → IsOutput arguments ws input [] TooLong
output_beyond arguments command ws input e reads beyond = rw e (beyond_within command ws input reads beyond)

pub too_long : (arguments : List (List ℕ)) (command : Command) (ws : List WatchState) (left given : Option (List ℕ))
    → command_of arguments ≡ Some command → ¬ IsTrial (Some command) → IfSome left (λ l. INPUT_LIMIT < length l)
    → IfSome left (λ input. GivesOutput arguments ws input given given TooLong)
too_long arguments command ws left given e reads h =
    IfSome_then left h (λ input h. ([], output_beyond arguments command ws input e reads h, Appends-nil given))

-- Where the arguments are no command nothing is written.
pub no_command : (arguments : List (List ℕ)) (ws : List WatchState) (left given : Option (List ℕ)) → command_of arguments ≡ None
    → IfSome left (λ input. GivesOutput arguments ws input given given Words)
no_command arguments ws None given e = tt
no_command arguments ws (Some input) given e = ([], rw e (refl, refl), Appends-nil given)

pub answered : (arguments : List (List ℕ)) (command : Command) (ws : List WatchState) (left given new : Option (List ℕ))
    (input bytes : List ℕ) (status : Status) → command_of arguments ≡ Some command → IfSome left (IsReadOf command input)
    → length input ≤ INPUT_LIMIT → IsCommandOutput command ws input bytes status → Appends given new bytes
    → IfSome left (λ i. GivesOutput arguments ws i given new status)
answered arguments command ws left given new input bytes status e whole within o appended =
    IfSome_then left whole (λ l whole. (bytes, output_of arguments command ws l input bytes status e whole within o, appended))

pub given_in_part : (arguments : List (List ℕ)) (command : Command) (ws : List WatchState) (left given new : Option (List ℕ))
    (input bytes : List ℕ) (status : Status) → command_of arguments ≡ Some command → IfSome left (IsReadOf command input)
    → length input ≤ INPUT_LIMIT → IsCommandOutput command ws input bytes status
    → ((count : ℕ) × (count < length bytes) × Appends given new (take count bytes)) → IfSome left (λ i. GivesPart arguments ws i given new)
given_in_part arguments command ws left given new input bytes status e whole within o part =
    IfSome_then left whole (λ l whole. (bytes, status, output_of arguments command ws l input bytes status e whole within o, part))

-- A slice of what was read is what was read.
pub same_read : (command : Command) (left : Option (List ℕ)) (slice input : List ℕ) → slice ≡ input → IfSome left (IsReadOf command input)
    → IfSome left (IsReadOf command slice)
same_read command left slice input e whole = subst (λ i. IfSome left (IsReadOf command i)) (sym e) whole

short_image : ImageSize → (p : Program) (input : List ℕ) → Spells p input → length input ≤ INPUT_LIMIT
short_image size p input s =
    let n = size p input s in let r = s.1.program.counts in omega (arith, n, r.bundles, r.entries, r.bytes, r.relations)

short_either : ImageSize → (p : Program) (input : List ℕ) → IsWithinLimit input → as_either.Gives input p → length input ≤ INPUT_LIMIT
short_either size p input within (inl image) = short_image size p input image.1
short_either size p input within (inr text) = within text.0

-- A longer input is read as no program.
none_beyond : ImageSize → (P : Program → Type 0) (input : List ℕ) → INPUT_LIMIT < length input → IfRead input P
none_beyond size P input h within p g = absurd (omega (arith, h, short_either size p input within g))

-- What is said of the input that was read whole.
of_whole : (P : Program → Type 0) (l input : List ℕ) → input ≡ l → ((p : Program) → as_either.Gives input p → P p) → IfRead l P
of_whole P l input whole h within p g = h p (subst (λ i. as_either.Gives i p) (sym whole) g)

-- What is accepted.
abbrev AcceptsFree : List (List ℕ) → Status → List ℕ → Type 0
AcceptsFree arguments status input = command_of arguments ≡ Some Check → IfRead input (λ p. (status ≡ Done) ↔ HasNoViolation p)

pub accepted_beyond : ImageSize → (arguments : List (List ℕ)) (left : Option (List ℕ)) → IfSome left (λ l. INPUT_LIMIT < length l)
    → IfSome left (AcceptsFree arguments TooLong)
accepted_beyond size arguments left h =
    IfSome_then left h (λ input h e. none_beyond size (λ p. (TooLong ≡ Done) ↔ HasNoViolation p) input h)

pub accepted_within : (arguments : List (List ℕ)) (command : Command) (left : Option (List ℕ)) (input : List ℕ) (status : Status)
    → command_of arguments ≡ Some command → IfSome left (IsReadOf command input)
    → (command ≡ Check → (p : Program) → as_either.Gives input p → ((status ≡ Done) ↔ HasNoViolation p))
    → IfSome left (AcceptsFree arguments status)
accepted_within arguments command left input status e whole h =
    IfSome_then left whole (λ l whole f. let is = same_command arguments command Check e f in
    of_whole (λ p. (status ≡ Done) ↔ HasNoViolation p) l input (subst (λ k. IsReadOf k input l) is whole) (h is))

-- What has violations.
abbrev JudgesProgram : List (List ℕ) → Status → List ℕ → Type 0
JudgesProgram arguments status input =
    (command : Command) → command_of arguments ≡ Some command → Judges command
    → IfRead input (λ p. (status ≡ Violated) ↔ (¬ HasNoViolation p))

pub judged_beyond : ImageSize → (arguments : List (List ℕ)) (left : Option (List ℕ)) → IfSome left (λ l. INPUT_LIMIT < length l)
    → IfSome left (JudgesProgram arguments TooLong)
judged_beyond size arguments left h =
    IfSome_then left h (λ input h command e judges. none_beyond size (λ p. (TooLong ≡ Violated) ↔ (¬ HasNoViolation p)) input h)

-- What is judged is read whole.
judged_whole : (command : Command) (input l : List ℕ) → Judges command → IsReadOf command input l → input ≡ l
judged_whole Check input l judges is = is
judged_whole (Run groups) input l judges is = is
judged_whole (Watch groups) input l judges is = is
judged_whole (Trace first count) input l judges is = is
judged_whole command input l judges is = absurd judges

pub judged_within : (arguments : List (List ℕ)) (command : Command) (left : Option (List ℕ)) (input : List ℕ) (status : Status)
    → command_of arguments ≡ Some command → IfSome left (IsReadOf command input)
    → (Judges command → (p : Program) → as_either.Gives input p → ((status ≡ Violated) ↔ (¬ HasNoViolation p)))
    → IfSome left (JudgesProgram arguments status)
judged_within arguments command left input status e whole h =
    IfSome_then left whole (λ l whole other f judges.
    let mine : Judges command = subst Judges (same_command arguments other command f e) judges in
    of_whole (λ p. (status ≡ Violated) ↔ (¬ HasNoViolation p)) l input (judged_whole command input l mine whole) (h mine))

-- What is run: the end of the run tells the status.
abbrev TellsEnd : List (List ℕ) → Status → List ℕ → Type 0
TellsEnd arguments status input =
    (command : Command) (groups : ℕ) → command_of arguments ≡ Some command → groups_of command ≡ Some groups
    → IfRead input (λ p. HasNoViolation p → status ≡ end_status (run_of p groups).end)

pub ended_beyond : ImageSize → (arguments : List (List ℕ)) (left : Option (List ℕ)) → IfSome left (λ l. INPUT_LIMIT < length l)
    → IfSome left (TellsEnd arguments TooLong)
ended_beyond size arguments left h =
    IfSome_then left h (λ input h command groups e runs. none_beyond size
    (λ p. HasNoViolation p → TooLong ≡ end_status (run_of p groups).end) input h)

-- What is run is read whole.
pub run_whole : (command : Command) (groups : ℕ) (input l : List ℕ) → groups_of command ≡ Some groups → IsReadOf command input l → input ≡ l
run_whole (Run n) groups input l runs read = read
run_whole (Watch n) groups input l runs read = read
run_whole (Trace first count) groups input l runs read = read
run_whole command groups input l runs read = cc

pub ended_within : (arguments : List (List ℕ)) (command : Command) (left : Option (List ℕ)) (input : List ℕ) (status : Status)
    → command_of arguments ≡ Some command → IfSome left (IsReadOf command input)
    → ((groups : ℕ) → groups_of command ≡ Some groups → (p : Program) → as_either.Gives input p → HasNoViolation p
    → status ≡ end_status (run_of p groups).end) → IfSome left (TellsEnd arguments status)
ended_within arguments command left input status e whole h =
    IfSome_then left whole (λ l whole other groups f runs.
    let mine : groups_of command ≡ Some groups = subst (λ k. groups_of k ≡ Some groups) (same_command arguments other command f e) runs in
    of_whole (λ p. HasNoViolation p → status ≡ end_status (run_of p groups).end) l input (run_whole command groups input l mine whole)
    (h groups mine))

-- What the watchers of `watch` have seen.
abbrev WatchesProgram : List (List ℕ) → (old now : List WatchState) → List ℕ → Type 0
WatchesProgram arguments old now input =
    (groups : ℕ) → command_of arguments ≡ Some (Watch groups) → IfRead input
    (λ p. HasNoViolation p → now ≡ staying (run_of p groups).events old)

pub watched_beyond : ImageSize → (arguments : List (List ℕ)) (left : Option (List ℕ)) (old now : List WatchState)
    → IfSome left (λ l. INPUT_LIMIT < length l) → IfSome left (WatchesProgram arguments old now)
watched_beyond size arguments left old now h =
    IfSome_then left h (λ input h groups e. none_beyond size (λ p. HasNoViolation p → now ≡ staying (run_of p groups).events old) input h)

pub watched_within : (arguments : List (List ℕ)) (command : Command) (left : Option (List ℕ)) (old now : List WatchState) (input : List ℕ)
    → command_of arguments ≡ Some command → IfSome left (IsReadOf command input)
    → ((groups : ℕ) → command ≡ Watch groups → HaveWatched groups input old now) → IfSome left (WatchesProgram arguments old now)
watched_within arguments command left old now input e whole h =
    IfSome_then left whole (λ l whole groups f.
    let is = same_command arguments command (Watch groups) e f in
    of_whole (λ p. HasNoViolation p → now ≡ staying (run_of p groups).events old) l input (subst (λ k. IsReadOf k input l) is whole)
    (h groups is))

pub cut_within : (arguments : List (List ℕ)) (command : Command) (left : Option (List ℕ)) (old now : List WatchState) (input : List ℕ)
    → command_of arguments ≡ Some command → IfSome left (IsReadOf command input)
    → ((groups : ℕ) → command ≡ Watch groups → HaveWatchedPart groups input old now)
    → IfSome left (λ l. (groups : ℕ) → command_of arguments ≡ Some (Watch groups) → HaveWatchedPart groups l old now)
cut_within arguments command left old now input e whole h =
    IfSome_then left whole (λ l whole groups f.
    let is = same_command arguments command (Watch groups) e f in
    let read : input ≡ l = subst (λ k. IsReadOf k input l) is whole in
    subst (λ i. HaveWatchedPart groups i old now) read (h groups is))

-- What is told of the program that `groups` reads.
abbrev pub TellsOfGroups : List (List ℕ) → (ℕ → ℕ → Program → Type 0) → List ℕ → Type 0
TellsOfGroups arguments Tells input =
    (groups number : ℕ) → command_of arguments ≡ Some (Groups groups number) → IfRead input (Tells groups number)

pub groups_beyond : ImageSize → (arguments : List (List ℕ)) (Tells : List ℕ → ℕ → ℕ → Program → Type 0) (left : Option (List ℕ))
    → IfSome left (λ l. INPUT_LIMIT < length l) → IfSome left (λ l. TellsOfGroups arguments (Tells l) l)
groups_beyond size arguments Tells left h = IfSome_then left h (λ l h groups number e. none_beyond size (Tells l groups number) l h)

pub groups_within : (arguments : List (List ℕ)) (command : Command) (Tells : List ℕ → ℕ → ℕ → Program → Type 0) (left : Option (List ℕ))
    (input : List ℕ) → command_of arguments ≡ Some command → IfSome left (IsReadOf command input)
    → ((groups number : ℕ) → command ≡ Groups groups number → (p : Program) → as_either.Gives input p → Tells input groups number p)
    → IfSome left (λ l. TellsOfGroups arguments (Tells l) l)
groups_within arguments command Tells left input e whole h =
    IfSome_then left whole (λ l whole groups number f.
    let is = same_command arguments command (Groups groups number) e f in
    let read : input ≡ l = subst (λ k. IsReadOf k input l) is whole in
    of_whole (Tells l groups number) l input read (subst (λ i. (p : Program) → as_either.Gives input p → Tells i groups number p) read
    (h groups number is)))

-- Where no accepted program was read nothing was run.
ran_nothing : (text : Printing) (groups : ℕ) (input bytes : List ℕ) (status : Status) → IsRunAs text groups as_either input bytes status
    → IsNotRun input → RanNothing status
ran_nothing text groups input bytes Done o none = absurd (none o.0 o.1 (o.2).free)
ran_nothing text groups input bytes Violated o none = tt
ran_nothing text groups input bytes Limit o none = absurd (none o.0 o.1 (o.2).free)
ran_nothing text groups input bytes Faulted o none = absurd (none o.0 o.1 (o.2).free)
ran_nothing text groups input bytes Refused o none = tt
ran_nothing text groups input bytes status o none = absurd o

-- A list that stays as it was under every command but `watch`, and where nothing was run, stays so where no accepted program was
-- read.
pub not_run_within : {L : Type 0} (command : Command) (left : Option (List ℕ)) (ws : List WatchState) (old now : L) (input bytes : List ℕ)
    (status : Status) → IfSome left (IsReadOf command input) → IsCommandOutput command ws input bytes status
    → (¬ IsWatch (Some command) → now ≡ old) → (RanNothing status → now ≡ old) → IfSome left (λ l. IsNotRun l → now ≡ old)
not_run_within command None ws old now input bytes status whole o other not_run = tt
not_run_within (Watch groups) (Some l) ws old now input bytes status whole o other not_run =
    λ none. not_run (ran_nothing (watch_text ws) groups input bytes status o (λ p g. none p (subst (λ i. as_either.Gives i p) whole g)))
not_run_within command (Some l) ws old now input bytes status whole o other not_run = λ none. other (λ watch. watch)

-- More bytes than the limit were there where more were taken.
pub beyond : (P : Type 0) (left new : Option (List ℕ)) → P → IfSome left (λ l. P ↔ LosesFirst (INPUT_LIMIT + 1) l new)
    → IfSome left (λ l. INPUT_LIMIT < length l)
beyond P left new p h = IfSome_then left h (λ l h. let t = (h.0 p).0 in omega arith)

-- A source that is as it was lost no byte.
pub untouched : (P : Type 0) (left : Option (List ℕ)) → ¬ P → IfSome left (λ l. P ↔ LosesFirst (INPUT_LIMIT + 1) l left)
untouched P None other = tt
untouched P (Some l) other = (
  λ p. absurd (other p),
  λ loses. let e : l ≡ drop (INPUT_LIMIT + 1) l = cc in
      absurd (omega (arith, loses.0, ap length e, length-drop (INPUT_LIMIT + 1) l)),
)

-- What a command answers to an input within the limit is never that it is too long.
not_too_long : (command : Command) (ws : List WatchState) (input bytes : List ℕ) → IsCommandOutput command ws input bytes TooLong → ⊥
not_too_long command.Build ws input bytes o = o
not_too_long command.Stops ws input bytes o = o
not_too_long command.Show ws input bytes o = o
not_too_long command.List ws input bytes o = o
not_too_long command.Wrap ws input bytes o = o
not_too_long command.Lift ws input bytes o = o
not_too_long Check ws input bytes o = o
not_too_long (Run groups) ws input bytes o = o
not_too_long (Watch groups) ws input bytes o = o
not_too_long (Trace first count) ws input bytes o = o
not_too_long (Groups groups number) ws input bytes o = o
not_too_long (Trial seed bundles) ws input bytes o = o

pub read_whole : (P : Type 0) (command : Command) (ws : List WatchState) (left new : Option (List ℕ)) (input bytes : List ℕ)
    (status : Status) → ¬ P → IfSome left (λ l. P ↔ LosesFirst (INPUT_LIMIT + 1) l new) → IsCommandOutput command ws input bytes status
    → IfSome left (λ l. (status ≡ TooLong) ↔ LosesFirst (INPUT_LIMIT + 1) l new)
read_whole P command ws left new input bytes status whole loses o =
    IfSome_then left loses (λ l loses. (
      λ e. absurd (not_too_long command ws input bytes
          (subst (IsCommandOutput command ws input bytes) e o)),
      λ gone. absurd (whole (loses.1 gone)),
    ))
