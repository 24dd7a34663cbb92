use Rattle.std.proofs.Common.{length, arith, sym, None, Some}
use Rattle.std.proofs.lemmas.Bool.{ne_eqb}
use Rattle.ia_program.specs.Places.{place_at}
use Rattle.predicate_rel.specs.Pairs.{pairs_of}
use Rattle.slot_table.proofs.SlotLaws.{slot_edges, not_place}
use Rattle.flow_facts.proofs.Numbering.{number_below}
use Rattle.flow_facts.proofs.Passing.{passed_none, passed_same, passed_changed, comes_along, come_by_slot, edge_number}
use Rattle.flow_facts.proofs.fixpoint.pass.Goals as goal

pub returns-in_default-clause-passed : goal.returns-in_default-clause-passed
returns-in_default-clause-passed c before may =
    passed_none c.args.slots.now (place_at c.args.from) c.args.edge _ c.args.table.now c.args.dirty.now may.witnessed
    (λ to edge. not_place c.args.slots.now.bundles (place_at c.args.from) (sym c.in_default.ensures) edge.inside)

pub returns-in_default-edge_end-clause-passed : goal.returns-in_default-edge_end-clause-passed
returns-in_default-edge_end-clause-passed c before may =
    passed_none c.args.slots.now (place_at c.args.from) c.args.edge _ c.args.table.now c.args.dirty.now may.witnessed
    (slot_edges c.args.slots.now (place_at c.args.from) c.in-Some.slot.now c.args.edge None c.is_program.ensures (sym c.in-Some.ensures)
    c.in_default-edge_end.ensures)

pub join-lost-requires-clause-to : goal.join-lost-requires-clause-to
join-lost-requires-clause-to c =
    let edge =
    slot_edges c.args.slots.now (place_at c.args.from) c.in-Some.slot.now c.args.edge (Some c.in-Some-edge_end.to) c.is_program.ensures
    (sym c.in-Some.ensures) c.in-Some-edge_end.ensures in
    omega (
      arith,
      c.place_number-to.ensures,
      number_below c.args.slots.now (length c.args.table.now) c.in-Some-edge_end.to c.requires.table
          edge.lands,
    )

pub returns-then-lost-ne0-clause-passed : goal.returns-then-lost-ne0-clause-passed
returns-then-lost-ne0-clause-passed c before may =
    let edge =
    slot_edges c.args.slots.now (place_at c.args.from) c.in-Some.slot.now c.args.edge (Some c.in-Some-edge_end.to) c.is_program.ensures
    (sym c.in-Some.ensures) c.in-Some-edge_end.ensures in
    let there =
    edge_number c.args.slots.now (place_at c.args.from) c.args.edge c.in-Some-edge_end.to c.place_number-to.result edge
    c.place_number-to.ensures in
    let by =
    c.join-lost.ensures before may.known (come_by_slot c.args.slots.now (place_at c.args.from) c.args.edge c.in-Some-edge_end.to
    c.place_number-to.result c.in-Some.slot.now c.args.table.now c.args.changed (Some before)
    (sym c.in-Some.ensures) there.0 (may.come c.in-Some-edge_end.to edge)) in
    let came =
    comes_along c.args.slots.now (place_at c.args.from) c.args.edge c.in-Some-edge_end.to c.place_number-to.result c.in-Some.slot.now
    c.args.table.now c.join-lost.new.table (pairs_of before) (sym c.in-Some.ensures) edge c.place_number-to.ensures by.joined in
    rw c.insert.ensures (passed_changed c.args.slots.now (place_at c.args.from) c.args.edge c.place_number-to.result c.join-lost.result _ _
    _ c.args.dirty.now c.requires.dirty may.witnessed (may.witnessed.at (place_at c.args.from) before may.known) came by.changed
    (rw (ne_eqb c.join-lost.result 0 c.if-lost-ne0.true) at by.less))

pub returns-else-lost-ne0-clause-passed : goal.returns-else-lost-ne0-clause-passed
returns-else-lost-ne0-clause-passed c before may =
    let edge =
    slot_edges c.args.slots.now (place_at c.args.from) c.in-Some.slot.now c.args.edge (Some c.in-Some-edge_end.to) c.is_program.ensures
    (sym c.in-Some.ensures) c.in-Some-edge_end.ensures in
    let there =
    edge_number c.args.slots.now (place_at c.args.from) c.args.edge c.in-Some-edge_end.to c.place_number-to.result edge
    c.place_number-to.ensures in
    let by =
    c.join-lost.ensures before may.known (come_by_slot c.args.slots.now (place_at c.args.from) c.args.edge c.in-Some-edge_end.to
    c.place_number-to.result c.in-Some.slot.now c.args.table.now c.args.changed (Some before)
    (sym c.in-Some.ensures) there.0 (may.come c.in-Some-edge_end.to edge)) in
    let came =
    comes_along c.args.slots.now (place_at c.args.from) c.args.edge c.in-Some-edge_end.to c.place_number-to.result c.in-Some.slot.now
    c.args.table.now c.join-lost.new.table (pairs_of before) (sym c.in-Some.ensures) edge c.place_number-to.ensures by.joined in
    passed_same c.args.slots.now (place_at c.args.from) c.args.edge c.place_number-to.result _ _ _ c.args.dirty.now may.witnessed
    (may.witnessed.at (place_at c.args.from) before may.known) came (rw c.if-lost-ne0.false at by.changed) (omega (arith, by.less))

pub insert-requires : goal.insert-requires
insert-requires c =
    let edge =
    slot_edges c.args.slots.now (place_at c.args.from) c.in-Some.slot.now c.args.edge (Some c.in-Some-edge_end.to) c.is_program.ensures
    (sym c.in-Some.ensures) c.in-Some-edge_end.ensures in
    omega (
      arith,
      c.place_number-to.ensures,
      number_below c.args.slots.now (length c.args.dirty.now) c.in-Some-edge_end.to c.requires.dirty
          edge.lands,
    )
