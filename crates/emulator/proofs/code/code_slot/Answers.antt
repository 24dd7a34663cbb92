use Rattle.std.proofs.Common.{◌≡◌, ◌/◌, refl, sym, ◌∙◌, ap, subst}
use Rattle.std.proofs.lemmas.Option.{same_Some}
use Rattle.slot_table.specs.declared.slot.Slot.{Slot}
use Rattle.emulator.specs.Codes.{numbered, IsCodeSlotOf}
use Rattle.emulator.proofs.CodeSlots.{slot_next, below_none, numbered_back}
use Rattle.emulator.proofs.code.code_slot.Goals as goal

pub number_of-requires : goal.number_of-requires
number_of-requires c =
    let slot = c.in-Some.slot.now in
    below_none slot.next (slot_next c.args.slots.now c.args.number slot c.is_program.ensures (sym c.in-Some.ensures))

pub returns : goal.returns
returns c slot at =
    let here = c.in-Some.slot.now in
    let same : here ≡ slot = same_Some _ _ (c.in-Some.ensures ∙ at) in
    let next = numbered_back here.next (slot_next c.args.slots.now c.args.number here c.is_program.ensures (sym c.in-Some.ensures)) in
    subst (λ (s : Slot). IsCodeSlotOf (c.args.number / 3) s (record {
      work = c.of.result;
      next = c.number_of.result;
      qp = here.qp;
      stop = here.stop;
    })) same
    (record {
      action = c.of.ensures.action;
      target = c.of.ensures.target;
      next = ap numbered c.number_of.ensures ∙ next;
      qp = refl;
      stop = refl;
    })
