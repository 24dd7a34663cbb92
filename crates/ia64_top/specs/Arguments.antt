-- The table of arguments: which list of arguments is which command.
use Rattle.std.specs.Prelude.{ℕ, ◌+◌, ◌-◌, ◌^◌, ◌≤◌, ⊤, List, [], ◌∷◌, Option, Some, None, option_map, if◌then◌else◌, codes, bytes_eq, decimal}
use Rattle.ia64_top.specs.declared.limits.TheConstants.{GROUP_LIMIT, TRACE_LIMIT, TRIAL_LIMIT}
use Rattle.ia64_top.specs.declared.arguments.Command.{Command}
use Rattle.ia64_top.specs.declared.arguments.Command.TheVariants.{Build, Stops, Show, List as Listing, Wrap, Lift, Check, Run, Watch, Trace, Groups, Trial}
use Rattle.ia64_top.specs.Numbers.{number_between}

-- A run has at least one group, and at most the limit; the same holds of the groups that a trace shows, and of the bundles of a
-- trial.
abbrev pub HasNumbersInRange : Command → Type 0
HasNumbersInRange (Run groups) = (1 ≤ groups) × (groups ≤ GROUP_LIMIT)
HasNumbersInRange (Watch groups) = (1 ≤ groups) × (groups ≤ GROUP_LIMIT)
HasNumbersInRange (Trace first count) = (first ≤ GROUP_LIMIT) × (1 ≤ count) × (count ≤ TRACE_LIMIT)
HasNumbersInRange (Groups groups number) = (1 ≤ groups) × (groups ≤ GROUP_LIMIT)
HasNumbersInRange (Trial seed bundles) = (1 ≤ bundles) × (bundles ≤ TRIAL_LIMIT)
HasNumbersInRange command = ⊤

-- `check`, `run`, `watch` and `trace` judge the program that the input is read as, and run it only where it is accepted.
abbrev pub Judges : Command → Type 0
Judges Check = ⊤
Judges (Run groups) = ⊤
Judges (Watch groups) = ⊤
Judges (Trace first count) = ⊤
Judges command = ⊥

-- How many groups `run`, `watch` and `trace` run at most.
abbrev pub groups_of : Command → Option ℕ
groups_of (Run groups) = Some groups
groups_of (Watch groups) = Some groups
groups_of (Trace first count) = Some (first + count)
groups_of command = None

-- The command is `watch`, which watchers see.
abbrev pub IsWatch : Option Command → Type 0
IsWatch (Some (Watch groups)) = ⊤
IsWatch command = ⊥

-- The command is `trial`, which reads no input.
abbrev pub IsTrial : Option Command → Type 0
IsTrial (Some (Trial seed bundles)) = ⊤
IsTrial command = ⊥

-- The trace of a number of groups behind another number of them, where both arguments are numbers.
abbrev pub trace_command : Option ℕ → Option ℕ → Option Command
trace_command (Some first) (Some count) = Some (Trace first count)
trace_command first count = None

-- A number of groups at once, in the order with a number, where both arguments are numbers.
abbrev pub groups_command : Option ℕ → Option ℕ → Option Command
groups_command (Some groups) (Some number) = Some (Groups groups number)
groups_command groups number = None

-- A trial of a seed and a number of bundles, where both arguments are numbers.
abbrev pub trial_command : Option ℕ → Option ℕ → Option Command
trial_command (Some seed) (Some bundles) = Some (Trial seed bundles)
trial_command seed bundles = None

-- The command that the arguments are, where they are one. `build`, `stops`, `show`, `list`, `wrap`, `lift` and `check` stand alone.
-- `run` and `watch` have a number of groups, and `trace` a number of groups and how many are traced behind them. `groups` has a number
-- of groups and the number of an order, of 64 bits, and `trial` a seed of 64 bits and a number of bundles. Upper and lower case differ.
abbrev pub command_of : List (List ℕ) → Option Command
command_of (argument ∷ []) =
    if bytes_eq argument (codes "build") then Some Build
    else if bytes_eq argument (codes "stops") then Some Stops
    else if bytes_eq argument (codes "show") then Some Show
    else if bytes_eq argument (codes "list") then Some Listing
    else if bytes_eq argument (codes "wrap") then Some Wrap
    else if bytes_eq argument (codes "lift") then Some Lift
    else if bytes_eq argument (codes "check") then Some Check else None
command_of (argument ∷ groups ∷ []) =
    if bytes_eq argument (codes "run") then option_map Run (number_between 1 GROUP_LIMIT groups)
    else if bytes_eq argument (codes "watch") then option_map Watch (number_between 1 GROUP_LIMIT groups) else None
command_of (argument ∷ first ∷ second ∷ []) =
    if bytes_eq argument (codes "trace")
    then trace_command (number_between 0 GROUP_LIMIT first) (number_between 1 TRACE_LIMIT second)
    else if bytes_eq argument (codes "groups")
    then groups_command (number_between 1 GROUP_LIMIT first) (number_between 0 (2 ^ 64 - 1) second)
    else if bytes_eq argument (codes "trial")
    then trial_command (number_between 0 (2 ^ 64 - 1) first) (number_between 1 TRIAL_LIMIT second) else None
command_of arguments = None

-- The arguments of a run of this number of groups.
abbrev pub run_arguments : ℕ → List (List ℕ)
run_arguments groups = codes "run" ∷ decimal groups ∷ []
