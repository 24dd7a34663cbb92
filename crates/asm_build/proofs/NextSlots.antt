-- A listed instruction that has its unit's letter fits a slot exactly where that is a place of its class.
use Rattle.std.proofs.Common.{◌≡◌, ℕ, ◌<◌, Bool, false, arith}
use Rattle.std.specs.Prelude.{◌↔◌, IsTrue}
use Rattle.ia_insn.specs.declared.choices.Unit.{Unit as ExecutionUnit}
use Rattle.ia_program.specs.Fits.{Fits}
use Rattle.ia_program.specs.Listed.{IsListed}
use Rattle.slot_layouts.specs.declared.classes.SlotClass.{SlotClass}
use Rattle.slot_layouts.specs.Classes.{class_of, has_place}
use Rattle.slot_layouts.specs.Laws.{PlaceIsFit}
use Rattle.asm_reading.specs.declared.line.Draft.{Draft}
use Rattle.asm_build.specs.Drafts.{completed}

pub by_class : (d : Draft) (u v : ExecutionUnit) (slot count : ℕ) (class : SlotClass) (b : Bool) → PlaceIsFit → d.bare ≡ false → slot < 3
    → IsListed d.insn
    → class ≡ class_of d.insn.op → v ≡ u → slot ≡ count → b ≡ has_place class v slot → IsTrue b ↔ Fits (completed d u) u count
by_class d u v slot count class b law bare low listed of-class of-unit of-slot is =
    let l : count < 3 = omega (arith, low, of-slot) in
    rw (is, of-class, of-unit, of-slot, bare) (law d.insn u count l listed)
