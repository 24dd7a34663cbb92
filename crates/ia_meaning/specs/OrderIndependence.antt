-- What the order of the writes in a group doesn't change (volume 1, chapter 3, instruction groups and instruction
-- dependencies).
use Rattle.std.specs.Prelude.{◌≡◌, ℕ, List}
use Rattle.ia_program.specs.Programs.{Program}
use Rattle.ia_meaning.specs.State.{State, IsStart}
use Rattle.ia_meaning.specs.Steps.{seq_run}
use Rattle.ia_meaning.specs.ParallelGroups.{par_run}

-- From every start state, for every number of groups and every order of the writes in each, groups all at once leave what
-- slots one by one leave: the state, the end of the run, the groups as events and the frame changes.
abbrev pub IsOrderIndependent : Program → Type 0
IsOrderIndependent p = (n : ℕ) (codes : List (List ℕ)) (s : State) → IsStart p s → par_run p n codes s ≡ seq_run p n s
