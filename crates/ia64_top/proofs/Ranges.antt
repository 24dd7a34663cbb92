-- The numbers of a command are in range.
use Rattle.std.proofs.Common.{◌≡◌, ℕ, Bool, true, false, List, [], ◌∷◌, Option, Some, None, refl, subst, ◌^◌, ◌-◌}
use Rattle.std.specs.Prelude.{if◌then◌else◌, codes, bytes_eq, option_map, IfSome}
use Rattle.ia64_top.specs.declared.limits.TheConstants.{GROUP_LIMIT, TRACE_LIMIT, TRIAL_LIMIT}
use Rattle.ia64_top.specs.declared.arguments.Command.{Command}
use Rattle.ia64_top.specs.declared.arguments.Command.TheVariants.{Build, Stops, Show, List as Listing, Wrap, Lift, Check, Run, Watch}
use Rattle.ia64_top.specs.Numbers.{number_between}
use Rattle.ia64_top.specs.Arguments.{trace_command, groups_command, trial_command, command_of, HasNumbersInRange}
use Rattle.ia64_top.proofs.Numerals.{IsNumeralOf, numeral_of_number}

-- What a number that was found in a range is.
abbrev IsFound : ℕ → ℕ → List ℕ → Option ℕ → Type 0
IsFound least most argument found = IfSome found (IsNumeralOf least most argument)

found_is : (least most : ℕ) (argument : List ℕ) (found : Option ℕ) → number_between least most argument ≡ found
    → IsFound least most argument found
found_is least most argument None e = tt
found_is least most argument (Some n) e = numeral_of_number least most argument n e

abbrev InRange : Option Command → Type 0
InRange found = IfSome found HasNumbersInRange

-- No argument alone has a number.
argument_alone : (a b c d e f g : Bool) → InRange (if a then Some Build else if b then Some Stops else if c then Some
    Show else if d then Some Listing else if e then Some Wrap else if f then Some Lift else if g then Some Check else None)
argument_alone true b c d e f g = tt
argument_alone false true c d e f g = tt
argument_alone false false true d e f g = tt
argument_alone false false false true e f g = tt
argument_alone false false false false true f g = tt
argument_alone false false false false false true g = tt
argument_alone false false false false false false true = tt
argument_alone false false false false false false false = tt

run_of : (groups : List ℕ) (found : Option ℕ) → IsFound 1 GROUP_LIMIT groups found → InRange (option_map Run found)
run_of groups None is = tt
run_of groups (Some n) is = (is.0, is.1)

watch_of : (groups : List ℕ) (found : Option ℕ) → IsFound 1 GROUP_LIMIT groups found → InRange (option_map Watch found)
watch_of groups None is = tt
watch_of groups (Some n) is = (is.0, is.1)

run_if : (run watch : Bool) (groups : List ℕ)
    → InRange (if run then option_map Run (number_between 1 GROUP_LIMIT groups) else if watch then option_map Watch
    (number_between 1 GROUP_LIMIT groups) else None)
run_if true watch groups = run_of groups (number_between 1 GROUP_LIMIT groups) (found_is 1 GROUP_LIMIT groups _ refl)
run_if false true groups = watch_of groups (number_between 1 GROUP_LIMIT groups) (found_is 1 GROUP_LIMIT groups _ refl)
run_if false false groups = tt

trace_of : (before traced : List ℕ) (first count : Option ℕ) → IsFound 0 GROUP_LIMIT before first → IsFound 1 TRACE_LIMIT traced count
    → InRange (trace_command first count)
trace_of before traced None count is are = tt
trace_of before traced (Some n) None is are = tt
trace_of before traced (Some n) (Some k) is are = (is.1, are.0, are.1)

groups_of : (groups : List ℕ) (found number : Option ℕ) → IsFound 1 GROUP_LIMIT groups found → InRange (groups_command found number)
groups_of groups None number is = tt
groups_of groups (Some n) None is = tt
groups_of groups (Some n) (Some k) is = (is.0, is.1)

trial_of : (bundles : List ℕ) (seed found : Option ℕ) → IsFound 1 TRIAL_LIMIT bundles found → InRange (trial_command seed found)
trial_of bundles None found is = tt
trial_of bundles (Some s) None is = tt
trial_of bundles (Some s) (Some n) is = (is.0, is.1)

two_numbers : (trace groups trial : Bool) (first second : List ℕ)
    → InRange (if trace then trace_command (number_between 0 GROUP_LIMIT first)
    (number_between 1 TRACE_LIMIT second) else if groups then groups_command (number_between 1 GROUP_LIMIT first)
    (number_between 0 (2 ^ 64 - 1) second) else if trial then trial_command (number_between 0 (2 ^ 64 - 1) first)
    (number_between 1 TRIAL_LIMIT second) else None)
two_numbers true groups trial first second =
    trace_of first second (number_between 0 GROUP_LIMIT first) (number_between 1 TRACE_LIMIT second) (found_is 0 GROUP_LIMIT first _ refl)
    (found_is 1 TRACE_LIMIT second _ refl)
two_numbers false true trial first second =
    groups_of first (number_between 1 GROUP_LIMIT first) (number_between 0 (2 ^ 64 - 1) second) (found_is 1 GROUP_LIMIT first _ refl)
two_numbers false false true first second =
    trial_of second (number_between 0 (2 ^ 64 - 1) first) (number_between 1 TRIAL_LIMIT second) (found_is 1 TRIAL_LIMIT second _ refl)
two_numbers false false false first second = tt

arguments_in_range : (arguments : List (List ℕ)) → InRange (command_of arguments)
arguments_in_range [] = tt
arguments_in_range (argument ∷ []) =
    argument_alone (bytes_eq argument (codes "build")) (bytes_eq argument (codes "stops")) (bytes_eq argument (codes "show"))
    (bytes_eq argument (codes "list")) (bytes_eq argument (codes "wrap")) (bytes_eq argument (codes "lift"))
    (bytes_eq argument (codes "check"))
arguments_in_range (argument ∷ groups ∷ []) = run_if (bytes_eq argument (codes "run")) (bytes_eq argument (codes "watch")) groups
arguments_in_range (argument ∷ first ∷ second ∷ []) =
    two_numbers (bytes_eq argument (codes "trace")) (bytes_eq argument (codes "groups")) (bytes_eq argument (codes "trial")) first second
arguments_in_range (argument ∷ first ∷ second ∷ other ∷ arguments) = tt

pub in_range : (arguments : List (List ℕ)) (command : Command) → command_of arguments ≡ Some command → HasNumbersInRange command
in_range arguments command is = subst InRange is (arguments_in_range arguments)
