use Rattle.std.proofs.Common.{◌≡◌, ◌<◌, Some, None, sym, ◌∙◌, arith}
use Rattle.ia_program.specs.Places.{place_number}
use Rattle.ia_meaning.specs.Sequence.{next_of}
use Rattle.slot_table.proofs.SlotLaws.{not_place}
use Rattle.flow_facts.specs.Graphs.{over_program}
use Rattle.group_checker.specs.Progress.{place_bound}
use Rattle.order_laws.proofs.Falling.{next_place}
use Rattle.group_checker.proofs.Reporting.{number_small, number_next}
use Rattle.group_checker.proofs.Slots.{slot_next}
use Rattle.stop_placer.specs.Placing.{without_stop}
use Rattle.stop_placer.proofs.Cuts.{cut_none, cut_window, none_next, some_left, first_of_all}
use Rattle.stop_placer.proofs.SequenceWindows.{described_under_way}
use Rattle.stop_placer.proofs.reasons.first_without.Goals as goal

pub slots-init : goal.slots-init
slots-init c = record {
  place = c.requires.cut.is;
  window = rw c.new-window.ensures (cut_window c.args.table.now c.args.behind c.args.out c.requires.cut);
  none = cut_none c.args.table.now c.args.behind c.args.out c.requires.program c.requires.cut;
}

pub unreachable-requires : goal.unreachable-requires
unreachable-requires c = not_place c.args.table.now.bundles c.slots.second (sym c.in_default.ensures) c.slots.invariant.place

pub returns-in-Some-first_violation : goal.returns-in-Some-first_violation
returns-in-Some-first_violation c =
    let p = c.args.table.now in
    let out = c.args.out in
    let j = c.slots.second in
    let u =
    described_under_way (over_program p) (without_stop p out) c.slots.window j c.slot_without-slot.result c.accesses_for-masks.result
    (c.slot_without-slot.ensures.describes p (sym c.in-Some.ensures)) c.accesses_for-masks.ensures c.slots.invariant.window in
    first_of_all p out j c.in-Some-first_violation.violation c.slots.invariant.none
    (c.in-Some-first_violation.ensures (over_program p) (without_stop p out) u)

pub unreachable-requires-in_default-next : goal.unreachable-requires-in_default-next
unreachable-requires-in_default-next c =
    let p = c.args.table.now in
    let out = c.args.out in
    let j = c.slots.second in
    let u =
    described_under_way (over_program p) (without_stop p out) c.slots.window j c.slot_without-slot.result c.accesses_for-masks.result
    (c.slot_without-slot.ensures.describes p (sym c.in-Some.ensures)) c.accesses_for-masks.ensures c.slots.invariant.window in
    let last : next_of p.bundles j ≡ None =
    sym (slot_next p j c.in-Some.there.now (sym c.in-Some.ensures)) ∙ sym c.slot_without-slot.ensures.next ∙ c.in_default-next.is in
    some_left p out j c.requires.cut.violated.0 c.requires.cut.violated.1 c.slots.invariant.none
    (c.in_default-first_violation.ensures (over_program p) (without_stop p out) u) last

pub slots-preserved : goal.slots-preserved
slots-preserved c =
    let p = c.args.table.now in
    let out = c.args.out in
    let j = c.slots.second in
    let next = c.in-Some-next.next in
    let u =
    described_under_way (over_program p) (without_stop p out) c.slots.window j c.slot_without-slot.result c.accesses_for-masks.result
    (c.slot_without-slot.ensures.describes p (sym c.in-Some.ensures)) c.accesses_for-masks.ensures c.slots.invariant.window in
    let follows : next_of p.bundles j ≡ Some next =
    sym (slot_next p j c.in-Some.there.now (sym c.in-Some.ensures)) ∙ sym c.slot_without-slot.ensures.next ∙ c.in-Some-next.is in
    record {
      place = next_place (over_program p) j next follows;
      window = c.in_ok-move_on.ensures (over_program p) (without_stop p out) next (rw c.at-in-slots.ensures (c.requires.facts j)) u follows;
      none =
          none_next p out j next c.slots.invariant.none (c.in_default-first_violation.ensures (over_program p) (without_stop p out) u)
          follows;
    }

pub slots-smaller : goal.slots-smaller
slots-smaller c =
    let p = c.args.table.now in
    let j = c.slots.second in
    let next = c.in-Some-next.next in
    let follows : next_of p.bundles j ≡ Some next =
    sym (slot_next p j c.in-Some.there.now (sym c.in-Some.ensures)) ∙ sym c.slot_without-slot.ensures.next ∙ c.in-Some-next.is in
    let small : place_number j < place_bound = number_small p j c.requires.program c.slots.invariant.place in
    let up : place_number j < place_number next = number_next p j next c.slots.invariant.place follows in
    omega arith
