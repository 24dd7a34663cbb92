use Rattle.std.proofs.Common.{◌≡◌, ◌<◌, None, Some, List, get_or, sym, ap, ◌∙◌, subst, arith}
use Rattle.std.specs.Prelude.{slice_get}
use Rattle.std.proofs.lemmas.Option.{slice_get-get_or}
use Rattle.ia_program.specs.Places.{place_number, IsBefore}
use Rattle.ia_meaning.specs.Sequence.{first_of, next_of}
use Rattle.ia_meaning.proofs.Inside.{first_is_place}
use Rattle.slot_table.specs.Slots.{slot_at}
use Rattle.slot_table.proofs.SlotLaws.{not_place}
use Rattle.flow_facts.specs.Graphs.{over_program}
use Rattle.group_checker.specs.Progress.{place_bound}
use Rattle.order_laws.proofs.Falling.{next_place}
use Rattle.group_checker.proofs.Reporting.{number_small, number_next}
use Rattle.group_checker.proofs.Slots.{slot_describes, slot_next}
use Rattle.stop_placer.specs.declared.packed.StopWhy.{StopWhy}
use Rattle.stop_placer.specs.Caused.{place_in, IsDue, NamesAt}
use Rattle.stop_placer.proofs.Naming.{NamesAmong, names_none, names_at, names_next, names_all, due_at, last_first, last_next, from_first, from_next}
use Rattle.stop_placer.proofs.reasons.named.Goals as goal

pub places-init : goal.places-init
places-init c =
    let p = c.args.table.now in
    let is = first_is_place p.bundles 0 (omega (arith, c.requires.program.counts.some)) in
    record {
      place = is;
      last = last_first p c.args.places.now c.args.causes.now c.requires.caused;
      from = from_first p is;
      names =
          subst (λ (l : List StopWhy). NamesAmong p (place_in c.args.places.now) c.args.causes.now l (λ q. IsBefore q (first_of 0)))
          (sym c.new-stops.ensures.items) (names_none p (place_in c.args.places.now) c.args.causes.now);
    }

pub unreachable-requires : goal.unreachable-requires
unreachable-requires c =
    not_place c.args.table.now.bundles c.places.place (sym c.in_default.ensures) c.places.invariant.place

pub name_at-requires-clause-due : goal.name_at-requires-clause-due
name_at-requires-clause-due c =
    let p = c.args.table.now in
    let n = c.last_at-n.result in
    let gap = get_or c.args.causes.now n None in
    let got : slice_get c.args.causes.now n ≡ Some gap =
    slice_get-get_or c.args.causes.now n None (omega (arith, c.last_at-n.ensures.inside, c.requires.caused.same_length)) in
    due_at p c.args.places.now c.args.causes.now n c.places.behind c.places.place gap c.requires.caused c.last_at-n.ensures
    c.places.invariant.place c.places.invariant.from got

pub returns-in_default-next : goal.returns-in_default-next
returns-in_default-next c =
    let p = c.args.table.now in
    let j = c.places.place in
    let n = c.last_at-n.result in
    let gap = get_or c.args.causes.now n None in
    let got : slice_get c.args.causes.now n ≡ Some gap =
    slice_get-get_or c.args.causes.now n None (omega (arith, c.last_at-n.ensures.inside, c.requires.caused.same_length)) in
    let at : slot_at p.bundles j ≡ Some c.in-Some.slot.now = sym c.in-Some.ensures in
    let last : next_of p.bundles j ≡ None = sym (slot_next p j c.in-Some.slot.now at) ∙ c.in_default-next.is in
    let named = c.in_ok-name_at.ensures in
    names_all p (place_in c.args.places.now) c.args.causes.now c.name_at.new.stops.items j
    (names_at p c.args.places.now c.args.causes.now n j gap c.places.stops.items c.name_at.new.stops.items c.places.invariant.names
    c.requires.caused c.last_at-n.ensures c.places.invariant.place got named) last

pub places-smaller : goal.places-smaller
places-smaller c =
    let p = c.args.table.now in
    let j = c.places.place in
    let next = c.in-Some-next.next in
    let at : slot_at p.bundles j ≡ Some c.in-Some.slot.now = sym c.in-Some.ensures in
    let follows : next_of p.bundles j ≡ Some next = sym (slot_next p j c.in-Some.slot.now at) ∙ c.in-Some-next.is in
    let small : place_number j < place_bound = number_small p j c.requires.program c.places.invariant.place in
    let up : place_number j < place_number next = number_next p j next c.places.invariant.place follows in
    omega arith

pub places-preserved : goal.places-preserved
places-preserved c =
    let p = c.args.table.now in
    let j = c.places.place in
    let n = c.last_at-n.result in
    let next = c.in-Some-next.next in
    let gap = get_or c.args.causes.now n None in
    let got : slice_get c.args.causes.now n ≡ Some gap =
    slice_get-get_or c.args.causes.now n None (omega (arith, c.last_at-n.ensures.inside, c.requires.caused.same_length)) in
    let at : slot_at p.bundles j ≡ Some c.in-Some.slot.now = sym c.in-Some.ensures in
    let follows : next_of p.bundles j ≡ Some next = sym (slot_next p j c.in-Some.slot.now at) ∙ c.in-Some-next.is in
    let named = c.in_ok-name_at.ensures in
    let stop = slot_describes p j c.in-Some.slot.now at in
    record {
      place = next_place (over_program p) j next follows;
      last = last_next p c.args.places.now c.args.causes.now n j next c.requires.caused c.last_at-n.ensures follows;
      from =
          rw c.behind_stop-behind.ensures (from_next p c.places.behind j next c.in-Some.slot.now.stop c.places.invariant.place
          c.places.invariant.from follows stop.stop);
      names = names_next p (place_in c.args.places.now) c.args.causes.now c.name_at.new.stops.items j next
          (names_at p c.args.places.now c.args.causes.now n j gap c.places.stops.items c.name_at.new.stops.items c.places.invariant.names
          c.requires.caused c.last_at-n.ensures c.places.invariant.place got named) follows;
    }
