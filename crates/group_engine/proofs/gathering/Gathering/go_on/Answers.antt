use Rattle.group_engine.specs.Groups.{gathered_of}
use Rattle.group_engine.proofs.SlotSteps.{TakesIn, does_next, run_over, falls_through, takes_branch, fell_off, ends_run, has_fault}
use Rattle.group_engine.proofs.gathering.Gathering.go_on.Goals as goal
use Rattle.group_engine.proofs.gathering.Gathering.go_on.Goals.{in-Falls+in-Some, in-Goes}

pub returns-in-None : goal.returns-in-None
returns-in-None c =
    let p = c.args.table.now in
    let g = gathered_of c.args.self.now in
    let does = does_next p g c.args.slot.now c.args.effect.now c.args.pfs c.requires.slot c.requires.does in
    run_over p c.args.begins c.fault.result c.args.self.now c.fault.new.self _ c.requires.gathers c.fault.ensures.over c.fault.ensures.value
    (fell_off p c.args.begins c.allocates_first-first.result g g c.args.slot.now c.args.effect.now c.args.pfs does
    c.allocates_first-first.ensures c.in-Falls.is c.in-None.is)

pub returns-in-Breaks : goal.returns-in-Breaks
returns-in-Breaks c =
    let p = c.args.table.now in
    let g = gathered_of c.args.self.now in
    let does = does_next p g c.args.slot.now c.args.effect.now c.args.pfs c.requires.slot c.requires.does in
    run_over p c.args.begins c.end_run.result c.args.self.now c.end_run.new.self _ c.requires.gathers c.end_run.ensures.over
    c.end_run.ensures.value
    (ends_run p c.args.begins c.allocates_first-first.result g g c.args.slot.now c.args.effect.now c.args.pfs does
    c.allocates_first-first.ensures c.in-Breaks.imm c.in-Breaks.is)

pub returns-in-Faults : goal.returns-in-Faults
returns-in-Faults c =
    let p = c.args.table.now in
    let g = gathered_of c.args.self.now in
    let does = does_next p g c.args.slot.now c.args.effect.now c.args.pfs c.requires.slot c.requires.does in
    run_over p c.args.begins c.fault-in-Faults.result c.args.self.now c.fault-in-Faults.new.self _ c.requires.gathers
    c.fault-in-Faults.ensures.over c.fault-in-Faults.ensures.value
    (has_fault p c.args.begins c.allocates_first-first.result g g c.args.slot.now c.args.effect.now c.args.pfs does
    c.allocates_first-first.ensures c.in-Faults.kind c.in-Faults.is)

pub take_in_first-requires-clause-may : goal.take_in_first-requires-clause-may
take_in_first-requires-clause-may c =
    let does =
    does_next c.args.table.now (gathered_of c.args.self.now) c.args.slot.now c.args.effect.now c.args.pfs c.requires.slot
    c.requires.does in
    does.does.may

pub returns : goal.returns
returns c =
    let p = c.args.table.now in
    let old = c.args.self.now in
    let new = c.take_in_first.new.self in
    let slot = c.args.slot.now in
    let e = c.args.effect.now in
    let does = does_next p (gathered_of old) slot e c.args.pfs c.requires.slot c.requires.does in
    let made = c.take_in_first.ensures in
    let took : TakesIn c.allocates_first-first.result old new e c.args.pfs c.match-effect.over.0 =
    record { value = made.value; latest = made.latest; place = made.place; few = made.few; end = made.end } in
    elim c.match-effect.branch [
      | in-Falls+in-Some w ↦ rw w.over-is
          (falls_through p c.args.begins c.allocates_first-first.result old new slot e c.args.pfs w.in-Some.next c.requires.gathers
          c.requires.slot does c.allocates_first-first.ensures
          (rw w.over-is at took) w.in-Falls.is w.in-Some.is)
      | in-Goes w ↦ rw w.over-is
          (takes_branch p c.args.begins c.allocates_first-first.result old new slot e c.args.pfs w.in-Goes.bundle c.requires.gathers does
          c.allocates_first-first.ensures
          (rw w.over-is at took) w.in-Goes.is)
    ]
