-- Which edge a sequential step follows, and what stays known of the predicates along it (volume 1, chapter 3, instruction
-- sequencing and predication).
use Rattle.std.specs.Prelude.{◌≡◌, ◌⊎◌, Option, Some, None, IsSomeAnd, IsTrue}
use Rattle.ia_insn.specs.declared.insn.Insn.{Insn}
use Rattle.ia_program.specs.declared.ending.How.{How}
use Rattle.ia_program.specs.declared.ending.How.TheVariants as how
use Rattle.ia_program.specs.Places.{insn_at}
use Rattle.ia_program.specs.Programs.{Program, IsProgram}
use Rattle.ia_meaning.specs.State.{State, IsState, IsStart}
use Rattle.ia_meaning.specs.Actions.{insn_action, is_indirect}
use Rattle.ia_meaning.specs.Steps.{seq_step}
use Rattle.predicate_rel.specs.declared.edge.Edge.{Edge}
use Rattle.predicate_rel.specs.declared.edge.Edge.TheVariants.{Falls, Taken}
use Rattle.predicate_rel.specs.Pairs.{Pairs}
use Rattle.predicate_rel.specs.Truth.{AreNeverBothOne}
use Rattle.predicate_rel.specs.Edges.{HasEdge, pairs_past}

-- The sort of edge that a step follows, by how it ends its group. Where a branch's target is also the next place there are
-- two edges: a slot that falls through follows `Falls`, and a branch that is taken follows `Taken`.
abbrev pub edge_by : Option How → Edge
edge_by (Some how.Taken) = Taken
edge_by h = Falls

-- The step follows an edge of the program, of this sort.
abbrev pub FollowsEdge : Program → State → Type 0
FollowsEdge p s = HasEdge p s.place (edge_by (seq_step p s).how) (seq_step p s).state.place

-- An indirect branch, a return or an indirect call.
abbrev pub IsIndirect : Insn → Type 0
IsIndirect insn = IsTrue (is_indirect (insn_action insn))

-- The slot is an indirect branch that is taken, and it leaves a state from which a run may start.
pub record LandsOnEntry (p : Program) (s : State) : Type 0 where
  pub indirect : IsSomeAnd (insn_at p.bundles s.place) IsIndirect
  pub taken : (seq_step p s).how ≡ Some how.Taken
  pub start : IsStart p (seq_step p s).state

-- A step that doesn't end the run follows the edge of its sort, or is an indirect branch that lands on an entry.
abbrev pub GoesAlong : Type 0
GoesAlong =
    (p : Program) (s : State) → IsProgram p → IsState p s → (seq_step p s).end ≡ None → FollowsEdge p s ⊎ LandsOnEntry p s

-- Along the edge that a step follows, what is known stays true: where the predicates of no pair were both 1, those of no
-- pair that is known past the slot are.
abbrev pub KeepsFacts : Type 0
KeepsFacts =
    (p : Program) (s : State) (f : Pairs) → IsProgram p → IsState p s → (seq_step p s).end ≡ None → FollowsEdge p s
    → AreNeverBothOne f s.registers → AreNeverBothOne (pairs_past p s.place (edge_by (seq_step p s).how) f) (seq_step p s).state.registers
