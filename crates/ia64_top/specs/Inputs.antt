-- What a command reads.
use Rattle.std.specs.Prelude.{◌≡◌, ℕ, List, []}
use Rattle.ia64_top.specs.declared.arguments.Command.{Command}
use Rattle.ia64_top.specs.declared.arguments.Command.TheVariants as command

-- The bytes are what a command reads of all that there are: nothing for `trial`, and else all.
abbrev pub IsReadOf : Command → List ℕ → List ℕ → Type 0
IsReadOf (command.Trial seed bundles) bytes all = bytes ≡ []
IsReadOf command bytes all = bytes ≡ all
