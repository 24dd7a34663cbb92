-- A group of the engine as far as its slots are gathered.
use Rattle.std.specs.Prelude.{◌≡◌, ◌≤◌, ◌<◌, ◌^◌, ℕ, suc, ◌+◌, Bool, true, false, if◌then◌else◌, List, [], ◌∷◌, length, Option, Some, None, IsSome}
use Rattle.ia_insn.specs.declared.insn.Insn.{Insn}
use Rattle.ia_program.specs.declared.ending.End.{End}
use Rattle.ia_program.specs.Places.{IsPlaceOf}
use Rattle.ia_program.specs.Programs.{Program, IsProgram}
use Rattle.ia_meaning.specs.declared.action.Action.{Action}
use Rattle.ia_meaning.specs.declared.state.FrameShape.{FrameShape}
use Rattle.ia_meaning.specs.State.{Registers, Memory, State}
use Rattle.ia_meaning.specs.Names.{holds}
use Rattle.ia_meaning.specs.Actions.{is_branch}
use Rattle.ia_meaning.specs.ActionRanges.{HasActionRanges}
use Rattle.ia_meaning.specs.Outcomes.{Outcome}
use Rattle.ia_meaning.specs.ParallelGroups.{Gathered, GatheredGroup, now_of, frame_ahead, after_frame, gathered_within}
use Rattle.ia_meaning.specs.Writes.{apply, frame_changes}
use Rattle.ia_meaning.specs.Effects.{Site, site, act, skip, effect}
use Rattle.ia_meaning.specs.Views.{view}
use Rattle.slot_effects.specs.declared.slot_effect.SlotEffect.{SlotEffect}
use Rattle.slot_effects.specs.Changes.{MayMake}
use Rattle.slot_effects.specs.Outcomes.{outcome_of_effect}
use Rattle.slot_table.specs.declared.slot.Slot.{Slot}
use Rattle.slot_table.specs.Slots.{slot_at}
use Rattle.group_engine.specs.declared.in_order.InOrder.{InOrder}
use Rattle.group_engine.specs.declared.gathering.Gathering.{Gathering}
use Rattle.group_engine.specs.declared.limits.TheConstants.{SLOT_WRITE_LIMIT, WRITE_LIMIT}
use Rattle.group_engine.specs.Kept.{branch_inputs_of}
use Rattle.group_engine.specs.Views.{seen_by}

-- The change of the frame of an `alloc` in first place, where this is one.
abbrev pub changes_of : Bool → FrameShape → List (ℕ × ℕ)
changes_of false f = []
changes_of true f = (f.base, f.base + f.sof) ∷ []

-- The memory, as the meaning has it.
abbrev pub memory_of : InOrder → Memory
memory_of t = record { bytes = t.data; alat = t.alat }

-- The group so far.
abbrev pub gathered_of : Gathering → Gathered
gathered_of g = record {
  base = g.registers;
  frames = changes_of g.frame_ahead g.registers.frame;
  writes = g.kept.writes;
  memory = memory_of g.in_order;
  unat = g.in_order.unat;
  place = g.place;
}

-- The state between two groups.
abbrev pub state_of : Gathering → State
state_of g = record { registers = g.registers; memory = memory_of g.in_order; place = g.place }

-- What is gathered, with the write of a frame that comes first made before all other writes.
abbrev pub with_frame_ahead : Gathered → Gathered
with_frame_ahead g =
    record g { base = apply (frame_ahead g.writes) g.base; frames = frame_changes (frame_ahead g.writes); writes = after_frame g.writes }

-- What the slot of an instruction does where its group has come this far, by what it sees: the effect is one of the registers
-- of the start, with this previous function state.
pub record IsEffectOf (p : Program) (g : Gathered) (insn : Insn) (e : SlotEffect) (pfs : ℕ) : Type 0 where
  pub value : outcome_of_effect (record g.base { pfs = pfs }) g.memory e
      ≡ effect (site p g.place.bundle) insn (view insn (now_of g) g.base) g.memory g.unat
  pub may : MayMake (record g.base { pfs = pfs }) g.memory e.change

-- This slot comes next in a group.
pub record ComesNext (p : Program) (g : Gathered) (slot : Slot) : Type 0 where
  pub at : slot_at p.bundles g.place ≡ Some slot
  pub bundle : g.place.bundle < 2 ^ 31
  pub ranges : HasActionRanges slot.action

-- Whether the qualifying predicate of a slot is 1, as the slot sees it: a branch as earlier slots wrote it, and all others as
-- it stood at the group's start.
abbrev pub is_executed : Slot → Gathered → Bool
is_executed slot g = holds (seen_by g.base (if is_branch slot.action then branch_inputs_of (now_of g) else branch_inputs_of g.base)) slot.qp

-- What an action does that is executed or not.
abbrev pub done : Bool → Site → Action → Registers → Memory → ℕ → Outcome
done executed s f r m unat = if executed then act s f r m unat else skip s f r m

-- The rest of a group, of at most `most` slots. `begins` says whether the group begins there.
unfoldable pub rest_of : ℕ → Program → Bool → Gathered → GatheredGroup
rest_of most p begins g = gathered_within most p begins g

-- A group is over, with this gathered and this end of the run.
pub record HasGathered (group : GatheredGroup) (so_far : Gathered) (last : Option End) : Type 0 where
  pub all : group.all ≡ so_far
  pub end : group.end ≡ last
  pub over : IsSome group.how

-- A group comes to what the rest of it comes to.
pub record HasRestOf (group rest : GatheredGroup) : Type 0 where
  pub all : group.all ≡ rest.all
  pub end : group.end ≡ rest.end
  pub how : group.how ≡ rest.how

-- A slot of a group may be gathered, the group's first one or not.
pub record MayGather (p : Program) (begins : Bool) (g : Gathering) : Type 0 where
  pub program : IsProgram p
  pub place : IsPlaceOf p.bundles g.place
  pub running : g.end ≡ None
  pub latest : g.kept.latest ≡ branch_inputs_of (now_of (gathered_of g))
  pub first : begins ≡ true → (g.kept.writes ≡ []) × (g.frame_ahead ≡ false)
  pub room : length g.kept.writes + SLOT_WRITE_LIMIT ≤ WRITE_LIMIT

-- One slot of a group is gathered, the group's first one or not, and the group is then over or not.
pub record IsGathered (p : Program) (begins : Bool) (old new : Gathering) (over : Bool) : Type 0 where
  pub ends : over ≡ true → (most : ℕ) → HasGathered (rest_of (suc most) p begins (gathered_of old)) (gathered_of new) new.end
  pub goes_on : over ≡ false → (most : ℕ) → HasRestOf (rest_of (suc most) p begins (gathered_of old))
      (rest_of most p false (gathered_of new))
  pub running : over ≡ false → new.end ≡ None
  pub place : IsPlaceOf p.bundles new.place
  pub latest : new.kept.latest ≡ branch_inputs_of (now_of (gathered_of new))
  pub few : length new.kept.writes ≤ length old.kept.writes + SLOT_WRITE_LIMIT
