use Rattle.std.proofs.Common.{◌-◌, sym, ◌∙◌, inl, inr, arith}
use Rattle.emulator.specs.Progress.{progress_of}
use Rattle.emulator.proofs.CodeSlots.{number_below}
use Rattle.emulator.proofs.Groups.{none_of, some_of, is_over, is_within, over_groups, within_groups, no_further}
use Rattle.emulator.proofs.run.Run.run_groups.Goals as goal
use Rattle.emulator.proofs.run.Run.run_groups.Goals.{then-left-eq0-via-then-left-eq0, then-left-eq0-via-else-left-eq0+then-is_some}

pub place_numbered-requires : goal.place_numbered-requires
place_numbered-requires c = number_below c.args.code.now c.loop-how.self.number c.requires.program c.loop-how.invariant.under_way.place

pub returns-then-left-eq0-clause-value : goal.returns-then-left-eq0-clause-value
returns-then-left-eq0-clause-value c =
    let p = c.args.code.now in
    let now = progress_of c.loop-how.self in
    let next = progress_of c.advance.new.self in
    let over = is_over p now next c.in-Some.how c.loop-how.invariant.running c.in-Some.ensures.value (sym c.in-Some.ensures.how) in
    let rest = over_groups p now next c.loop-how.left c.loop-how.invariant.some over.group ∙ c.loop-how.invariant.rest in
    sym
    (no_further (c.loop-how.left - 1) p next
    (elim c.then-left-eq0.branch [
      | then-left-eq0-via-then-left-eq0 w ↦ inl w.if-left-eq0.true
      | then-left-eq0-via-else-left-eq0+then-is_some w ↦ inr (some_of c.advance.new.self.end (sym w.if-is_some.ensures))
    ]))
    ∙ rest

pub returns-then-left-eq0-clause-event : goal.returns-then-left-eq0-clause-event
returns-then-left-eq0-clause-event c one =
    let over =
    is_over c.args.code.now (progress_of c.loop-how.self) (progress_of c.advance.new.self) c.in-Some.how c.loop-how.invariant.running
    c.in-Some.ensures.value (sym c.in-Some.ensures.how) in
    rw (c.place_numbered.ensures, c.place_at.ensures) (over.event ∙ c.loop-how.invariant.event one)

pub loop-how-preserved-in-Some : goal.loop-how-preserved-in-Some
loop-how-preserved-in-Some c =
    let p = c.args.code.now in
    let now = progress_of c.loop-how.self in
    let next = progress_of c.advance.new.self in
    let left = c.loop-how.left in
    let over = is_over p now next c.in-Some.how c.loop-how.invariant.running c.in-Some.ensures.value (sym c.in-Some.ensures.how) in
    record {
      some = omega (arith, c.loop-how.invariant.some, c.if-left-eq0.false);
      most = omega (arith, c.loop-how.invariant.most);
      rest = over_groups p now next left c.loop-how.invariant.some over.group ∙ c.loop-how.invariant.rest;
      event = λ one. absurd (omega (arith, c.loop-how.invariant.some, c.loop-how.invariant.most, c.if-left-eq0.false, one));
      running = none_of c.advance.new.self.end (sym c.if-is_some.ensures);
      under_way = c.in-Some.ensures.under_way;
      room = over.room left c.loop-how.invariant.some c.loop-how.invariant.room;
    }

pub loop-how-smaller : goal.loop-how-smaller
loop-how-smaller c =
    let within =
    is_within c.args.code.now (progress_of c.loop-how.self) (progress_of c.advance.new.self) c.requires.program
    c.loop-how.invariant.under_way c.loop-how.invariant.running c.in_default.ensures.value (sym c.in_default.ensures.how) in
    omega (arith, within.few, within.slots, c.loop-how.invariant.some)

pub loop-how-preserved : goal.loop-how-preserved
loop-how-preserved c =
    let p = c.args.code.now in
    let now = progress_of c.loop-how.self in
    let next = progress_of c.advance.new.self in
    let left = c.loop-how.left in
    let within =
    is_within p now next c.requires.program c.loop-how.invariant.under_way c.loop-how.invariant.running c.in_default.ensures.value
    (sym c.in_default.ensures.how) in
    record {
      some = c.loop-how.invariant.some;
      most = c.loop-how.invariant.most;
      rest = within_groups p now next left c.loop-how.invariant.some within.group ∙ c.loop-how.invariant.rest;
      event = λ one. within.event ∙ c.loop-how.invariant.event one;
      running = c.in_default.ensures.goes_on;
      under_way = c.in_default.ensures.under_way;
      room = within.room left c.loop-how.invariant.room;
    }
