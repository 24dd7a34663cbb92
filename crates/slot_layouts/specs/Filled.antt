-- A bundle with a nop of its unit in each slot that no instruction of a list takes (volume 1, chapter 3, instruction
-- encoding).
use Rattle.std.specs.Prelude.{◌≡◌, ℕ, ◌==◌, if◌then◌else◌, List, [], ◌∷◌, ⊤}
use Rattle.ia_insn.specs.declared.insn.Insn.{Insn}
use Rattle.ia_insn.specs.declared.insn.Op.TheVariants.{Nop}
use Rattle.ia_insn.specs.declared.choices.Unit.{Unit as ExecutionUnit}
use Rattle.ia_insn.specs.declared.choices.Unit.TheVariants as units
use Rattle.ia_program.specs.declared.bundle.Slots.{Slots}
use Rattle.ia_program.specs.declared.bundle.Slots.TheVariants.{Three, Long}
use Rattle.ia_program.specs.Templates.{units_of}
use Rattle.ia_program.specs.Bundles.{Bundle}
use Rattle.ia_program.specs.Listed.{IsListed}
use Rattle.slot_layouts.specs.declared.layout.Wanted.{Wanted}
use Rattle.slot_layouts.specs.Classes.{class_of}

-- `nop 0` of a unit, under p0; `nop.x 0` of L and of X.
abbrev pub nop_of : ExecutionUnit → Insn
nop_of units.L = record { qp = 0; op = Nop units.X 0 }
nop_of unit = record { qp = 0; op = Nop unit 0 }

-- What stands in a slot of this unit: the instruction whose slot it is, and else the nop.
abbrev pub slot_content : ℕ → ExecutionUnit → List ℕ → List Insn → Insn
slot_content slot unit (k ∷ ks) (i ∷ is) = if slot == k then i else slot_content slot unit ks is
slot_content slot unit ks is = nop_of unit

-- What stands in the slots of these units: two instructions where the second is of a long one, and else three.
abbrev pub contents : List ExecutionUnit → List ℕ → List Insn → Slots
contents (u ∷ units.L ∷ x ∷ []) ks is = Long (slot_content 0 u ks is) (slot_content 1 units.L ks is)
contents (u ∷ v ∷ w ∷ []) ks is = Three (slot_content 0 u ks is) (slot_content 1 v ks is) (slot_content 2 w ks is)
contents other ks is = Three (nop_of units.M) (nop_of units.M) (nop_of units.M)

-- The bundle of the template with this code that has the instructions in these slots.
abbrev pub filled : ℕ → List ℕ → List Insn → Bundle
filled code ks is = record { template = code; slots = contents (units_of code) ks is }

-- The instructions are listed, and of the classes that are wanted.
abbrev pub AreOf : List Wanted → List Insn → Type 0
AreOf [] [] = ⊤
AreOf (w ∷ ws) (i ∷ is) = IsListed i × (class_of i.op ≡ w.class) × AreOf ws is
AreOf ws is = ⊥
