use Rattle.std.proofs.Common.{sym, subst, arith}
use Rattle.std.proofs.lemmas.List.{get_or_read}
use Rattle.ia_program.specs.Places.{place_at, IsPlaceOf}
use Rattle.emulator.specs.Codes.{no_slot, IsCodeSlot}
use Rattle.emulator.proofs.CodeSlots.{number_small}
use Rattle.emulator.proofs.code.Code.at.Goals as goal

pub index-requires : goal.index-requires
index-requires c =
    let code = c.self.inside in
    let is : IsPlaceOf code.slots.now.bundles (place_at c.args.number) = rw (← c.self.view_is) at c.requires in
    let small = number_small code.slots.now c.args.number c.self.invariant.program is in
    omega (arith, c.self.invariant.count)

pub returns : goal.returns
returns c =
    let code = c.self.inside in
    let is : IsPlaceOf code.slots.now.bundles (place_at c.args.number) = rw (← c.self.view_is) at c.requires in
    let small = number_small code.slots.now c.args.number c.self.invariant.program is in
    let read =
    get_or_read code.list.items c.args.number c.index.result.now (omega (arith, c.self.invariant.count)) c.index.ensures no_slot in
    rw (← c.self.view_is) (subst (IsCodeSlot code.slots.now.bundles c.args.number) (sym read) (c.self.invariant.each c.args.number))
