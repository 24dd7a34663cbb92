-- The writes of a group may be made in any order where its program has no violation (volume 1, chapter 3, instruction groups
-- and instruction dependencies).
use Rattle.std.specs.Prelude.{◌≡◌, ◌≢◌, ◌⊎◌, ℕ, ◌<◌, List, [], ◌∷◌, length}
use Rattle.std.specs.List.{AllByRecursion as Each}
use Rattle.ia_program.specs.Programs.{Program, IsProgram}
use Rattle.ia_meaning.specs.State.{Registers, State, IsStart}
use Rattle.ia_meaning.specs.declared.write.Write.{Write}
use Rattle.ia_meaning.specs.declared.write.Write.TheVariants.{SetCell}
use Rattle.ia_meaning.specs.Writes.{apply, frame_changes}
use Rattle.ia_meaning.specs.Steps.{seq_group, seq_run}
use Rattle.ia_meaning.specs.WriteOrders.{arranged}
use Rattle.ia_meaning.specs.ParallelGroups.{par_group}
use Rattle.ia_meaning.specs.OrderIndependence.{IsOrderIndependent}
use Rattle.resource_sets.specs.AccessLaws.{TheFrame, location}
use Rattle.flow_facts.specs.Walks.{Walk}
use Rattle.order_laws.specs.Violations.{HasNoViolation}
use Rattle.order_laws.specs.Traces.{IsKnown}

-- Two writes go to two locations, or are one write twice, and not of the frame.
abbrev pub FitsBeside : Write → Write → Type 0
FitsBeside v w = (location v ≢ location w) ⊎ ((location v ≢ TheFrame) × (v ≡ w))

abbrev pub FitTogether : List Write → Type 0
FitTogether [] = Unit {0}
FitTogether (w ∷ ws) = Each (FitsBeside w) ws × FitTogether ws

-- A cell that is written is below a count.
abbrev pub IsCellBelow : ℕ → Write → Type 0
IsCellBelow n (SetCell c x) = c < n
IsCellBelow n w = Unit {0}

abbrev pub IsNoFrame : Write → Type 0
IsNoFrame w = location w ≢ TheFrame

-- No cell is written past the end, or no frame is written.
abbrev pub IsReady : Registers → List Write → Type 0
IsReady r ws = Each (IsCellBelow (length r.cells)) ws ⊎ Each IsNoFrame ws

-- Writes that fit together leave the same in every order.
abbrev pub OrdersLeaveTheSame : Type 0
OrdersLeaveTheSame =
    (code : List ℕ) (ws : List Write) (r : Registers) → FitTogether ws → IsReady r ws → apply (arranged code ws) r ≡ apply ws r

-- Writes that fit together change the same frames in every order.
abbrev pub OrdersChangeFramesTheSame : Type 0
OrdersChangeFramesTheSame = (code : List ℕ) (ws : List Write) → FitTogether ws → frame_changes (arranged code ws) ≡ frame_changes ws

-- A group of a program without a violation, all at once and in any order, leaves what its slots leave one by one, from each
-- state to which a walk leads whose facts are true there.
abbrev pub GroupIsOrdered : Type 0
GroupIsOrdered =
    (p : Program) (code : List ℕ) (s : State) (w : Walk) → IsProgram p → HasNoViolation p → IsKnown p s w
    → par_group p code s ≡ seq_group p s

-- The next group of each run from a start state, all at once and in any order, leaves what its slots leave one by one.
abbrev pub NextGroupIsOrdered : Type 0
NextGroupIsOrdered =
    (n : ℕ) (p : Program) (code : List ℕ) (s : State) → IsProgram p → HasNoViolation p → IsStart p s
    → par_group p code (seq_run p n s).state ≡ seq_group p (seq_run p n s).state

-- A program without a violation is order independent.
abbrev pub FreeIsOrderIndependent : Type 0
FreeIsOrderIndependent = (p : Program) → IsProgram p → HasNoViolation p → IsOrderIndependent p
