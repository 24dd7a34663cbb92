-- How far a run of the machine has come.
use Rattle.std.specs.Prelude.{◌≡◌, ℕ, ◌<◌, ◌^◌, Option}
use Rattle.ia_program.specs.Programs.{Program}
use Rattle.ia_program.specs.declared.place.Place.{Place}
use Rattle.ia_program.specs.Places.{place_at}
use Rattle.ia_meaning.specs.State.{State}
use Rattle.ia_meaning.specs.Writes.{frame_changes}
use Rattle.ia_meaning.specs.Outcomes.{Outcome}
use Rattle.ia_meaning.specs.Effects.{site, guarded}
use Rattle.ia_meaning.specs.ActionRanges.{HasActionRanges}
use Rattle.ia_meaning.specs.Sequence.{next_of, is_stopped}
use Rattle.ia_meaning.specs.Steps.{Step, settled, step_by, registers_after, seq_step}
use Rattle.ia_meaning.specs.ResidentRange.{range_of}
use Rattle.ia_meaning.specs.Progress.{Progress}
use Rattle.machine_state.specs.Contents.{Contents}
use Rattle.emulator.specs.declared.code.CodeSlot.{CodeSlot}
use Rattle.emulator.specs.declared.run.Run.{Run}
use Rattle.emulator.specs.Works.{action_of, HasTarget}
use Rattle.emulator.specs.Codes.{numbered}

-- The state of a machine that stands at a place.
abbrev pub state_at : Contents → Place → State
state_at c place = record { registers = c.registers; memory = c.memory; place = place }

abbrev pub state_of : Run → State
state_of r = state_at r.state (place_at r.number)

abbrev pub progress_of : Run → Progress
progress_of r =
    record { state = state_of r; end = r.end; groups = r.groups; first = place_at r.first; slots = r.slots; range = r.state.range }

-- The step of an outcome with this next place.
abbrev pub settled_step : Program → State → Option Place → Outcome → Step
settled_step p s next o = let settled = settled next s.memory o.next o in step_by p s settled settled.next

-- A run that has come to a place by an outcome, with `slots` slots of the group before it.
abbrev pub arrived : Progress → Outcome → Place → ℕ → Progress
arrived m o place slots = record m {
  state = record { registers = registers_after o m.state.registers; memory = o.memory; place = place };
  slots = slots;
  range = range_of m.range (frame_changes o.writes);
}

-- At the place of a state stands the slot of an instruction of the program.
pub record IsHere (p : Program) (s : State) (slot : CodeSlot) : Type 0 where
  pub bundle : s.place.bundle < 2 ^ 30
  pub ranges : HasActionRanges (action_of slot.work)
  pub target : HasTarget s.place.bundle slot.work
  pub next : numbered slot.next ≡ next_of p.bundles s.place
  pub stop : slot.stop ≡ is_stopped p.bundles s.place
  pub step : seq_step p s ≡ settled_step p s (next_of p.bundles s.place)
      (guarded (site p s.place.bundle) slot.qp (action_of slot.work) s.registers s.memory s.registers.unat)
