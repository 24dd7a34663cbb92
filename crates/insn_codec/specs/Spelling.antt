-- The sixteen bytes of a bundle: one number, the lowest byte first (volume 1, chapter 3, instruction encoding).
use Rattle.std.specs.Prelude.{◌≡◌, ℕ, List, [], ◌∷◌, slice_index}
use Rattle.std.specs.Int.{w128, from_le_bytes}
use Rattle.bundle_bits.specs.declared.bundle.RawBundle.{RawBundle}
use Rattle.bundle_bits.specs.RawBundle.{bundle_number, HasWidths, AreBytes}
use Rattle.ia_insn.specs.declared.choices.Unit.{Unit as ExecutionUnit}
use Rattle.ia_insn.specs.declared.choices.Unit.TheVariants.{L}
use Rattle.ia_program.specs.declared.bundle.Slots.{Slots}
use Rattle.ia_program.specs.declared.bundle.Slots.TheVariants.{Three, Long}
use Rattle.ia_program.specs.Templates.{IsTemplate, units_of}
use Rattle.ia_program.specs.Bundles.{Bundle}
use Rattle.insn_codec.specs.Slots.{IsInSlot, IsInSlots}

-- The slots of these units have the words of the instructions.
abbrev pub StandIn : List ExecutionUnit → Slots → List ℕ → Type 0
StandIn (u ∷ v ∷ w ∷ []) (Three a b c) words =
    IsInSlot u 0 a (slice_index words 0)
    × IsInSlot v 1 b (slice_index words 1)
    × IsInSlot w 2 c (slice_index words 2)
StandIn (u ∷ v ∷ w ∷ []) (Long first long) words =
    IsInSlot u 0 first (slice_index words 0)
    × IsInSlots long (slice_index words 1) (slice_index words 2)
    × (v ≡ L)
StandIn units slots words = ⊥

-- The bytes have this template and these words of three slots.
pub record IsRawOf (bytes : List ℕ) (raw : RawBundle) : Type 0 where
  pub widths : HasWidths raw
  pub number : bundle_number raw ≡ from_le_bytes w128 bytes

-- The bytes are those of the bundle: its template's code, and the words of its instructions.
pub record IsSpelled (b : Bundle) (bytes : List ℕ) : Type 0 where
  pub raw : RawBundle
  pub parts : IsRawOf bytes raw
  pub are : AreBytes bytes
  pub code : raw.template ≡ b.template
  pub template : IsTemplate b.template
  pub slots : StandIn (units_of b.template) b.slots raw.slots
