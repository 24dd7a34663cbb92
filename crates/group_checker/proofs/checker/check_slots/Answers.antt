use Rattle.std.proofs.Common.{◌≡◌, ◌<◌, ◌*◌, Some, length, sym, ap, ◌∙◌, arith}
use Rattle.ia_program.specs.Places.{place_number}
use Rattle.ia_meaning.specs.Sequence.{first_of, next_of, is_stopped}
use Rattle.ia_meaning.proofs.Inside.{first_is_place}
use Rattle.slot_table.proofs.SlotLaws.{not_place}
use Rattle.flow_facts.specs.Graphs.{over_program}
use Rattle.group_checker.specs.declared.report.TheConstants.{SHOWN_LIMIT}
use Rattle.group_checker.specs.declared.window.EarlierSlot.{EarlierSlot}
use Rattle.group_checker.specs.Shown.{Report}
use Rattle.group_checker.specs.Progress.{IsEarlier, place_bound, second_bound}
use Rattle.order_laws.proofs.Falling.{next_place}
use Rattle.group_checker.proofs.Slots.{slot_next, under_way}
use Rattle.group_checker.proofs.Windowing.{first_window}
use Rattle.group_checker.proofs.Reporting.{none_reported, bounded, next_reported, all_reported, number_small, number_next, shown_short}
use Rattle.group_checker.proofs.checker.check_slots.Goals as goal

pub unreachable-requires : goal.unreachable-requires
unreachable-requires c = not_place c.args.table.now.bundles c.slots.second (sym c.in_default.ensures) c.slots.invariant.place

pub slots-init : goal.slots-init
slots-init c =
    let p = c.args.table.now in
    let r = c.empty-report.result in
    record {
      place = first_is_place p.bundles 0 (omega (arith, c.requires.program.counts.some));
      window = rw c.new-window.ensures (first_window (over_program p) (is_stopped p.bundles));
      reports =
          bounded p r (IsEarlier (first_of 0)) 0 _ (omega arith) (none_reported p r (ap (λ (q : Report). q.total) c.empty-report.ensures)
          (ap (λ (q : Report). q.shown) c.empty-report.ensures));
    }

pub check_second-requires-clause-place : goal.check_second-requires-clause-place
check_second-requires-clause-place c = number_small c.args.table.now c.slots.second c.requires.program c.slots.invariant.place

pub check_second-requires-clause-window : goal.check_second-requires-clause-window
check_second-requires-clause-window c = rw c.earlier_slots.ensures c.slots.invariant.window.size

pub check_second-requires-clause-total : goal.check_second-requires-clause-total
check_second-requires-clause-total c = omega (arith, c.slots.invariant.reports.shows.total, c.slots.invariant.reports.small)

pub check_second-requires-clause-shown : goal.check_second-requires-clause-shown
check_second-requires-clause-shown c = shown_short SHOWN_LIMIT _ _ c.slots.invariant.reports.shows.shown

pub slots-smaller : goal.slots-smaller
slots-smaller c =
    let p = c.args.table.now in
    let j = c.slots.second in
    let follows : next_of p.bundles j ≡ Some c.in-Some-next.after =
    sym (slot_next p j c.in-Some.slot.now (sym c.in-Some.ensures)) ∙ c.in-Some-next.is in
    let small : place_number j < place_bound = number_small p j c.requires.program c.slots.invariant.place in
    let up : place_number j < place_number c.in-Some-next.after = number_next p j c.in-Some-next.after c.slots.invariant.place follows in
    omega arith

pub slots-preserved : goal.slots-preserved
slots-preserved c =
    let p = c.args.table.now in
    let j = c.slots.second in
    let s = c.in-Some.slot.now in
    let at = sym c.in-Some.ensures in
    let next = c.in-Some-next.after in
    let follows : next_of p.bundles j ≡ Some next = sym (slot_next p j s at) ∙ c.in-Some-next.is in
    let small : place_number j < place_bound = number_small p j c.requires.program c.slots.invariant.place in
    let up : place_number j < place_number next = number_next p j next c.slots.invariant.place follows in
    record {
      place = next_place (over_program p) j next follows;
      window = c.in_ok-move_on.ensures (over_program p) (is_stopped p.bundles) next
          (rw c.at-in-slots.ensures (c.requires.facts j))
          (under_way p j s at c.slots.window c.accesses_for-seconds.result c.accesses_for-seconds.ensures c.slots.invariant.window) follows;
      reports =
          next_reported p c.check_second.new.report j next _ (second_bound * place_number next) follows
          (omega (arith, c.slots.invariant.window.size, ap (length {A = EarlierSlot}) c.earlier_slots.ensures))
          (c.in_ok-check_second.ensures p (under_way p j s at c.earlier_slots.result.now c.accesses_for-seconds.result
          c.accesses_for-seconds.ensures (rw c.earlier_slots.ensures c.slots.invariant.window)) c.slots.invariant.reports);
    }

pub returns-in_default-next : goal.returns-in_default-next
returns-in_default-next c =
    let p = c.args.table.now in
    let j = c.slots.second in
    let s = c.in-Some.slot.now in
    let at = sym c.in-Some.ensures in
    all_reported p c.check_second.new.report j _ (sym (slot_next p j s at) ∙ c.in_default-next.is)
    (c.in_ok-check_second.ensures p (under_way p j s at c.earlier_slots.result.now c.accesses_for-seconds.result c.accesses_for-seconds.ensures
    (rw c.earlier_slots.ensures c.slots.invariant.window)) c.slots.invariant.reports)
