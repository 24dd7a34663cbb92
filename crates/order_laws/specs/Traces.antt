-- The walk of a sequential run, and what is known on it (volume 1, chapter 3, instruction sequencing and predication).
use Rattle.std.specs.Prelude.{◌≡◌, ℕ, zero, suc, Bool, false, if◌then◌else◌, List, [], ◌∷◌, Option, None, Some}
use Rattle.ia_insn.specs.declared.insn.Insn.{Insn}
use Rattle.ia_program.specs.declared.ending.End.{End}
use Rattle.ia_program.specs.declared.ending.How.{How}
use Rattle.ia_program.specs.declared.ending.How.TheVariants as how
use Rattle.ia_program.specs.declared.place.Place.{Place}
use Rattle.ia_program.specs.Places.{insn_at}
use Rattle.ia_program.specs.Programs.{Program, IsProgram}
use Rattle.ia_meaning.specs.State.{State, IsState, IsStart}
use Rattle.ia_meaning.specs.Actions.{insn_action, is_indirect}
use Rattle.ia_meaning.specs.Steps.{Step, seq_step, seq_run}
use Rattle.predicate_rel.specs.Pairs.{FactRows, pairs_of}
use Rattle.predicate_rel.specs.Truth.{AreNeverBothOne}
use Rattle.flow_facts.specs.Walks.{Walk, begins, goes_on, EndsAt, facts_on, earlier_in_group, Known, known_at, IsSolution}
use Rattle.predicate_rel.specs.Steps.{edge_by}

-- The slot is an indirect branch, a return or an indirect call, and it is taken.
abbrev pub is_landing : Option Insn → Option How → Bool
is_landing None h = false
is_landing (Some insn) None = false
is_landing (Some insn) (Some how.Falls) = false
is_landing (Some insn) (Some how.Taken) = is_indirect (insn_action insn)
is_landing (Some insn) (Some how.Ends) = false

-- The walk after a step from a state: it goes on along the edge of the step, and where an indirect branch is taken it
-- begins anew.
abbrev pub walk_after : Program → State → Walk → Step → Walk
walk_after p s w step =
    if is_landing (insn_at p.bundles s.place) step.how then begins step.state.place.bundle
    else goes_on w (edge_by step.how) step.state.place

-- A run under way: its state, the walk since its start or since an indirect branch was last taken, and its end, where it
-- came.
pub record Trace : Type 0 where
  pub state : State
  pub walk : Walk
  pub end : Option End

abbrev pub trace_begun : State → Trace
trace_begun s = record { state = s; walk = begins s.place.bundle; end = None }

abbrev pub trace_by : Program → Trace → Step → Option End → Trace
trace_by p t step None = record { state = step.state; walk = walk_after p t.state t.walk step; end = None }
trace_by p t step (Some e) = record { state = step.state; walk = t.walk; end = Some e }

abbrev pub trace_unless : Option End → Program → Trace → Trace
trace_unless (Some e) p t = t
trace_unless None p t = let step = seq_step p t.state in trace_by p t step step.end

-- One step further. After an end nothing changes.
unfoldable pub trace_on : Program → Trace → Trace
trace_on p t = trace_unless t.end p t

-- n steps further, or up to an end.
abbrev pub trace_further : ℕ → Program → Trace → Trace
trace_further zero p t = t
trace_further (suc n) p t = trace_further n p (trace_on p t)

-- n steps after a state.
abbrev pub traced : ℕ → Program → State → Trace
traced n p s = trace_further n p (trace_begun s)

-- The state is one of the program, the walk is one of the program to its place, and the predicates of no pair that is
-- known on it are both 1.
pub record IsKnown (p : Program) (s : State) (w : Walk) : Type 0 where
  pub state : IsState p s
  pub ends : EndsAt p s.place w
  pub apart : AreNeverBothOne (facts_on p w) s.registers

-- All along each run from a start state, what its walk knows is true of the state.
abbrev pub KnownOnRuns : Type 0
KnownOnRuns =
    (n : ℕ) (p : Program) (s : State) → IsProgram p → IsStart p s → IsKnown p (traced n p s).state (traced n p s).walk

-- A step keeps what the walk knows true of the state.
abbrev pub StepsKnown : Type 0
StepsKnown =
    (p : Program) (s : State) (w : Walk) → IsProgram p → IsKnown p s w → (seq_step p s).end ≡ None
    → IsKnown p (seq_step p s).state (walk_after p s w (seq_step p s))

-- The places of a group after one more, which may be its last.
abbrev pub group_after : Option How → Place → List Place → List Place
group_after None place earlier = place ∷ earlier
group_after (Some h) place earlier = []

-- The walk's group is that of the run: a step that ends no group adds its place, and after one that does none is left.
abbrev pub WalksGroup : Type 0
WalksGroup =
    (p : Program) (s : State) (w : Walk) → IsProgram p → IsKnown p s w → (seq_step p s).end ≡ None
    → earlier_in_group p (walk_after p s w (seq_step p s)) ≡ group_after (seq_step p s).how s.place (earlier_in_group p w)

-- Each sequential run of groups comes to where some number of steps comes.
abbrev pub RunIsTraced : Type 0
RunIsTraced = (n : ℕ) (p : Program) (s : State) → (k : ℕ) × ((traced k p s).state ≡ (seq_run p n s).state)

-- A state of a sequential run from a start state is one of the program.
abbrev pub RunsKeepState : Type 0
RunsKeepState = (n : ℕ) (p : Program) (s : State) → IsProgram p → IsStart p s → IsState p (seq_run p n s).state

-- A walk leads to it on which what is known is true.
abbrev pub RunsAreKnown : Type 0
RunsAreKnown = (n : ℕ) (p : Program) (s : State) → IsProgram p → IsStart p s → (w : Walk) × IsKnown p (seq_run p n s).state w

-- What is known at each place on all walks to it is true whenever a run comes there.
pub record IsTrueAt (table : List Known) (s : State) : Type 0 where
  pub rows : FactRows
  pub known : known_at table s.place ≡ Some rows
  pub apart : AreNeverBothOne (pairs_of rows) s.registers

abbrev pub SolutionIsTrue : Type 0
SolutionIsTrue =
    (n : ℕ) (p : Program) (s : State) (table : List Known) → IsProgram p → IsStart p s → IsSolution p table
    → IsTrueAt table (traced n p s).state
