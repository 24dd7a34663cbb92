use Rattle.asm_build.proofs.NextSlots.{by_class}
use Rattle.asm_build.proofs.draft.Open.fits_next.Goals as goal

pub returns-then-slot-lt3 : goal.returns-then-slot-lt3
returns-then-slot-lt3 c =
    by_class c.args.draft.now _ _ _ _ _ _ c.place_is_fit.ensures c.if-draft.false c.if-slot-lt3.true c.requires c.class_of.ensures
    c.next_unit-unit.ensures c.count-slot.ensures c.has_place.ensures
