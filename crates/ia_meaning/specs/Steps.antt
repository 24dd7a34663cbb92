-- Running slot by slot: a step, a group and a run (volume 1, chapter 3, instruction sequencing).
use Rattle.std.specs.Prelude.{ℕ, zero, suc, ◌+◌, ◌*◌, ◌/◌, ◌%◌, ◌^◌, Bool, if◌then◌else◌, List, [], ◌∷◌, ◌++◌, Option, Some, None}
use Rattle.ia_insn.specs.declared.insn.Insn.{Insn}
use Rattle.ia_program.specs.declared.limits.TheConstants.{RUN_LIMIT}
use Rattle.ia_program.specs.declared.place.Place.{Place}
use Rattle.ia_program.specs.declared.ending.End.{End}
use Rattle.ia_program.specs.declared.ending.End.TheVariants as end
use Rattle.ia_program.specs.declared.ending.How.{How}
use Rattle.ia_program.specs.declared.ending.How.TheVariants as how
use Rattle.ia_program.specs.declared.ending.GroupEvent.{GroupEvent}
use Rattle.ia_program.specs.declared.ending.FaultKind.TheVariants.{FellOff}
use Rattle.ia_program.specs.Places.{insn_at}
use Rattle.ia_program.specs.Programs.{Program}
use Rattle.ia_meaning.specs.declared.next.Next.{Next}
use Rattle.ia_meaning.specs.declared.next.Next.TheVariants.{Falls, Goes, Breaks, Faults}
use Rattle.ia_meaning.specs.State.{Registers, Memory, State}
use Rattle.ia_meaning.specs.Writes.{apply, frame_changes}
use Rattle.ia_meaning.specs.Outcomes.{Outcome, faults}
use Rattle.ia_meaning.specs.Effects.{site, effect}
use Rattle.ia_meaning.specs.Sequence.{first_of, next_of, is_stopped}

-- A slot without a next place that falls through is a fault, which takes its whole effect away. It is looked for last.
abbrev pub settled : Option Place → Memory → Next → Outcome → Outcome
settled None m Falls o = faults FellOff m
settled next m way o = o

-- What the instruction at a place does, by the state itself.
abbrev pub outcome_of : Program → State → Insn → Outcome
outcome_of p s insn =
    let o = effect (site p s.place.bundle) insn s.registers s.memory s.registers.unat
    in settled (next_of p.bundles s.place) s.memory o.next o

-- The number with this bit as given.
abbrev pub with_bit : ℕ → ℕ → Bool → ℕ
with_bit n k b = n % 2 ^ k + (if b then 2 ^ k else 0) + 2 ^ (k + 1) * (n / 2 ^ (k + 1))

-- UNAT after a spill.
abbrev pub spilled : Option (ℕ × Bool) → Registers → Registers
spilled None r = r
spilled (Some b) r = record r { unat = with_bit r.unat b.0 b.1 }

-- The spill comes first, then the writes in order.
abbrev pub registers_after : Outcome → Registers → Registers
registers_after o r = apply o.writes (spilled o.spills r)

-- What a step leaves: the state, how the group ends, where it does, the end of the run, where there is one, and the frame
-- changes.
pub record Step : Type 0 where
  pub state : State
  pub how : Option How
  pub end : Option End
  pub frames : List (ℕ × ℕ)

-- The group goes on, or ends at a stop.
abbrev pub how_falling : Bool → Option How
how_falling stopped = if stopped then Some how.Falls else None

-- The place after a slot that falls through; where there is none it ended the run.
abbrev pub place_after : Place → Option Place → Place
place_after place None = place
place_after place (Some next) = next

abbrev pub step_by : Program → State → Outcome → Next → Step
step_by p s o Falls = record {
  state = record { registers = registers_after o s.registers; memory = o.memory; place = place_after s.place (next_of p.bundles s.place) };
  how = how_falling (is_stopped p.bundles s.place);
  end = None;
  frames = frame_changes o.writes;
}
step_by p s o (Goes bundle) = record {
  state = record { registers = registers_after o s.registers; memory = o.memory; place = first_of bundle };
  how = Some how.Taken;
  end = None;
  frames = frame_changes o.writes;
}
step_by p s o (Breaks imm) = record { state = s; how = Some how.Ends; end = Some (end.Break imm s.place); frames = [] }
step_by p s o (Faults kind) = record { state = s; how = Some how.Ends; end = Some (end.Fault kind s.place); frames = [] }

abbrev pub step_of : Program → State → Option Insn → Step
step_of p s (Some insn) = let o = outcome_of p s insn in step_by p s o o.next
step_of p s None = record { state = s; how = None; end = None; frames = [] }

-- One sequential step. A place that the program doesn't have, which no run reaches, leaves all as it is.
unfoldable pub seq_step : Program → State → Step
seq_step p s = step_of p s (insn_at p.bundles s.place)

-- What a group leaves: the state, its last place, how many slots were reached, how it ended, the end of the run and the
-- frame changes.
pub record Group : Type 0 where
  pub state : State
  pub last : Place
  pub slots : ℕ
  pub how : Option How
  pub end : Option End
  pub frames : List (ℕ × ℕ)

-- The group so far, and the rest of it.
abbrev pub and_then : Step → Group → Group
and_then step rest = record rest { slots = suc rest.slots; frames = step.frames ++ rest.frames }

abbrev pub group_by : Program → State → Step → Option How → Group → Group
group_by p s step (Some how) rest =
    record { state = step.state; last = s.place; slots = 1; how = Some how; end = step.end; frames = step.frames }
group_by p s step None rest = and_then step rest

-- A group of at most `most` slots. One that isn't over by then has no ending.
abbrev pub group_within : ℕ → Program → State → Group
group_within zero p s = record { state = s; last = s.place; slots = 0; how = None; end = None; frames = [] }
group_within (suc most) p s =
    let step = seq_step p s in group_by p s step step.how (group_within most p step.state)

-- One sequential group. A program's has at most RUN_LIMIT slots (`groups_end`).
abbrev pub seq_group : Program → State → Group
seq_group p s = group_within RUN_LIMIT p s

-- How a group ended, as an event. One without an ending, which no program has, counts as one that falls.
abbrev pub how_of : Option How → How
how_of None = how.Falls
how_of (Some h) = h

abbrev pub event_of : ℕ → Place → Group → GroupEvent
event_of number first group = record { number = number; first = first; last = group.last; slots = group.slots; how = how_of group.how }

-- What a run leaves: the state, its end, its groups in order and the frame changes.
pub record Run : Type 0 where
  pub state : State
  pub end : End
  pub events : List GroupEvent
  pub frames : List (ℕ × ℕ)

abbrev pub run_by : Group → GroupEvent → Option End → Run → Run
run_by group event (Some e) rest = record { state = group.state; end = e; events = event ∷ []; frames = group.frames }
run_by group event None rest = record rest { events = event ∷ rest.events; frames = group.frames ++ rest.frames }

-- A run of n groups, or of fewer up to an end; the first group has this number. What a group leaves may depend on its number.
abbrev pub run_from : (ℕ → State → Group) → ℕ → ℕ → State → Run
run_from group number zero s = record { state = s; end = end.Limit s.place; events = []; frames = [] }
run_from group number (suc n) s =
    let g = group number s
    in run_by g (event_of number s.place g) g.end (run_from group (suc number) n g.state)

-- One sequential run of at most n groups.
abbrev pub seq_run : Program → ℕ → State → Run
seq_run p n s = run_from (λ number s. seq_group p s) 1 n s
