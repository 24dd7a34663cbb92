-- The stated output is what the arguments, the watchers and the input give. A table of a command has a row for each status: here stand
-- those of commands that make something of a program, and in `Judgements`, `Runs` and `Trials` those of the others.
use Rattle.std.specs.Prelude.{◌≡◌, ℕ, ◌+◌, ◌<◌, ◌≤◌, nat_lt, Bool, false, List, [], length, take, Option, Some, MatchOption, MatchBool}
use Rattle.std.specs.Io.KnownBytes.{Appends}
use Rattle.ia64_top.specs.declared.limits.TheConstants.{INPUT_LIMIT}
use Rattle.ia64_top.specs.declared.arguments.Command.{Command}
use Rattle.ia64_top.specs.declared.arguments.Command.TheVariants as command
use Rattle.ia64_top.specs.declared.status.Status.{Status}
use Rattle.ia64_top.specs.declared.status.Status.TheVariants.{Done, Words, Refused, TooLong}
use Rattle.ia_program.specs.Programs.{Program}
use Rattle.image_form.specs.Images.{IsImage, Written, BeginsAsImage}
use Rattle.image_form.specs.declared.version.Version.TheVariants.{Two}
use Rattle.asm_build.specs.CanonicalText.{canonical_text}
use Rattle.asm_build.specs.Listing.{IsListing}
use Rattle.ia64_top.specs.Arguments.{command_of}
use Rattle.ia64_top.specs.Judgements.{IsCheckedAs, PrintsClashes}
use Rattle.trial_maker.specs.Trials.{trial_program}
use Rattle.watch_seam.specs.Watchers.{WatchState}
use Rattle.ia64_top.specs.Stops.{IsPackedText}
use Rattle.ia64_top.specs.Runs.{Printing, state_after, watch_text, trace_text, IsRunAs, IsNumberedRunAs, IsRunOfEveryOrder}
use Rattle.ia64_top.specs.Trials.{IsTrialOutput}
use Rattle.ia64_top.specs.Readings.{InputReading, as_image, as_bundles, as_text, as_loose, as_either}

-- An input that isn't too long. An image is never longer than the limit.
abbrev pub IsWithinLimit : List ℕ → Type 0
IsWithinLimit input = ¬ BeginsAsImage input → length input ≤ INPUT_LIMIT

-- What is said of the program that an input is read as, an image or a text, where it isn't too long.
abbrev pub IfRead : List ℕ → (Program → Type 0) → Type 0
IfRead input Says = IsWithinLimit input → (program : Program) → as_either.Gives input program → Says program

-- What a command writes and answers that makes something of the program that its input is read as: a row for
-- each status, with where it comes.
abbrev pub IsMadeOutput : InputReading → (Program → List ℕ → Type 0) → List ℕ → List ℕ → Status → Type 0
IsMadeOutput reading Makes input bytes Done = (program : Program) × reading.Gives input program × Makes program bytes
IsMadeOutput reading Makes input bytes Refused = reading.Refuses input bytes
IsMadeOutput reading Makes input bytes status = ⊥

-- The text is the canonical one of the program, reads as the program, and isn't too long to be an input.
pub record IsCanonical (program : Program) (text : List ℕ) : Type 0 where
  pub canonical : text ≡ canonical_text program
  pub back : as_text.Gives text program
  pub short : length text ≤ INPUT_LIMIT

-- The program that a command works on: the one that its input is read as in the way of the command, and the stated one of
-- `trial`.
abbrev pub IsProgramOf : Command → List ℕ → Program → Type 0
IsProgramOf command.Build input program = as_text.Gives input program
IsProgramOf command.Stops input program = as_loose.Gives input program
IsProgramOf command.Show input program = as_image.Gives input program
IsProgramOf command.List input program = as_image.Gives input program
IsProgramOf command.Wrap input program = as_bundles.Gives input program
IsProgramOf command.Lift input program = as_image.Gives input program
IsProgramOf (command.Trial seed bundles) input program = program ≡ trial_program seed bundles
IsProgramOf command input program = as_either.Gives input program

-- The input is read as no program in the way of the command.
abbrev pub IsUnreadable : Command → List ℕ → Type 0
IsUnreadable command input = (program : Program) → ¬ IsProgramOf command input program

-- A status that prints nothing.
abbrev pub IsSilent : Status → List ℕ → Status → Type 0
IsSilent status bytes answer = (bytes ≡ []) × (answer ≡ status)

-- What is printed where a command runs something: `watch` has the reports of the watchers before the state, and `trace` the
-- states before it and the groups between them.
abbrev pub printing_of : Command → List WatchState → Printing
printing_of (command.Watch groups) watchers = watch_text watchers
printing_of (command.Trace first count) watchers = trace_text first count
printing_of command watchers = state_after

-- `build` and `wrap` make the image of a program, `stops` the text of the program into which a loose text is packed, `show` its
-- canonical text, `list` its listing, and `lift` its image of version 2. `check`, `run`, `watch`, `trace` and `groups` take an
-- image or a text, and `trial` takes no input.
abbrev pub IsCommandOutput : Command → List WatchState → List ℕ → List ℕ → Status → Type 0
IsCommandOutput command.Build watchers input bytes status =
    IsMadeOutput as_text Written input bytes status
IsCommandOutput command.Stops watchers input bytes status =
    IsMadeOutput as_loose (IsPackedText input) input bytes status
IsCommandOutput command.Show watchers input bytes status =
    IsMadeOutput as_image IsCanonical input bytes status
IsCommandOutput command.List watchers input bytes status =
    IsMadeOutput as_image IsListing input bytes status
IsCommandOutput command.Wrap watchers input bytes status =
    IsMadeOutput as_bundles Written input bytes status
IsCommandOutput command.Lift watchers input bytes status =
    IsMadeOutput as_image (IsImage Two) input bytes status
IsCommandOutput command.Check watchers input bytes status = IsCheckedAs as_either input bytes status
IsCommandOutput (command.Run groups) watchers input bytes status =
    IsRunAs (printing_of (command.Run groups) watchers) groups as_either input bytes status
IsCommandOutput (command.Watch groups) watchers input bytes status =
    IsRunAs (printing_of (command.Watch groups) watchers) groups as_either input bytes status
IsCommandOutput (command.Trace first count) watchers input bytes status =
    IsRunAs (printing_of (command.Trace first count) watchers) (first + count) as_either input bytes status
IsCommandOutput (command.Groups groups number) watchers input bytes status =
    IsNumberedRunAs groups number as_either input bytes status
IsCommandOutput (command.Trial seed bundles) watchers input bytes status =
    IsTrialOutput seed bundles bytes status

-- No input is too long for `trial`.
abbrev pub is_too_long : Command → List ℕ → Bool
is_too_long (command.Trial seed bundles) input = false
is_too_long command input = nat_lt INPUT_LIMIT (length input)

-- What is said of the command that the arguments are.
abbrev pub IfCommand : List (List ℕ) → (Command → Type 0) → Type 0
IfCommand arguments Says = (command : Command) → command_of arguments ≡ Some command → Says command

-- What is said of the two numbers of `trial`, where the arguments are this command.
abbrev pub IfTrial : List (List ℕ) → (ℕ → ℕ → Type 0) → Type 0
IfTrial arguments Says = (seed bundles : ℕ) → command_of arguments ≡ Some (command.Trial seed bundles) → Says seed bundles

-- The bytes that are written and the status that is answered, for these arguments, these watchers and this input.
abbrev pub IsOutput : List (List ℕ) → List WatchState → List ℕ → List ℕ → Status → Type 0
IsOutput arguments watchers input bytes status = MatchOption (command_of arguments) (IsSilent Words bytes status)
    (λ command. MatchBool (is_too_long command input) (IsSilent TooLong bytes status)
    (IsCommandOutput command watchers input bytes status))

-- For arguments, watchers and an input there is at most one output, with one status.
abbrev pub OneOutput : Type 0
OneOutput =
    (arguments : List (List ℕ)) (watchers : List WatchState) (input bytes others : List ℕ) (status other : Status)
    → IsOutput arguments watchers input bytes status → IsOutput arguments watchers input others other → (others ≡ bytes) × (other ≡ status)

-- The sink got the bytes of the output of this status.
abbrev pub GivesOutput : List (List ℕ) → List WatchState → List ℕ → Option (List ℕ) → Option (List ℕ) → Status → Type 0
GivesOutput arguments watchers input old new status =
    (bytes : List ℕ) × IsOutput arguments watchers input bytes status × Appends old new bytes

-- The sink got the text of violations of the program.
abbrev pub GivesClashes : Program → Option (List ℕ) → Option (List ℕ) → Type 0
GivesClashes program old new = (bytes : List ℕ) × PrintsClashes program bytes × Appends old new bytes

-- The sink got the bytes of a trial of this status, whatever the input is.
abbrev pub GivesTrial : ℕ → ℕ → Option (List ℕ) → Option (List ℕ) → Status → Type 0
GivesTrial seed bundles old new status =
    (bytes : List ℕ) × IsTrialOutput seed bundles bytes status × Appends old new bytes

-- The sink got a proper prefix of the bytes of a trial.
abbrev pub GivesTrialPart : ℕ → ℕ → Option (List ℕ) → Option (List ℕ) → Type 0
GivesTrialPart seed bundles old new =
    (bytes : List ℕ) × (status : Status) × IsTrialOutput seed bundles bytes status
    × ((count : ℕ) × (count < length bytes) × Appends old new (take count bytes))

-- The sink got a proper prefix of the bytes of some output.
abbrev pub GivesPart : List (List ℕ) → List WatchState → List ℕ → Option (List ℕ) → Option (List ℕ) → Type 0
GivesPart arguments watchers input old new =
    (bytes : List ℕ) × (status : Status) × IsOutput arguments watchers input bytes status
    × ((count : ℕ) × (count < length bytes) × Appends old new (take count bytes))

-- The sink got what is printed of the runs of a program, which is that of every order of the writes in their groups.
abbrev pub GivesRunOfEveryOrder : Printing → Program → ℕ → Option (List ℕ) → Option (List ℕ) → Status → Type 0
GivesRunOfEveryOrder text program groups old new status =
    (bytes : List ℕ) × Appends old new bytes × IsRunOfEveryOrder text program groups bytes status
