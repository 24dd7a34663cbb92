-- The first fault of sixteen bytes that are no bundle.
use Rattle.std.specs.Prelude.{ℕ, List, [], ◌∷◌, slice_index}
use Rattle.first_fault.specs.Stages.{Stage, unless, IsFirstFault}
use Rattle.bundle_bits.specs.declared.bundle.RawBundle.{RawBundle}
use Rattle.ia_insn.specs.declared.insn.Insn.{Insn}
use Rattle.ia_insn.specs.declared.choices.Unit.{Unit as ExecutionUnit}
use Rattle.ia_insn.specs.declared.choices.Unit.TheVariants.{L}
use Rattle.ia_program.specs.Templates.{IsTemplate, units_of}
use Rattle.insn_codec.specs.declared.bundle.SlotFault.{SlotFault}
use Rattle.insn_codec.specs.declared.bundle.SlotFault.TheVariants.{ReservedTemplate, Unlisted}
use Rattle.insn_codec.specs.Slots.{IsInSlot, IsInSlots}
use Rattle.insn_codec.specs.Spelling.{IsRawOf}

-- An instruction that fits the slot has its word.
abbrev pub HasInsn : ExecutionUnit → ℕ → List ℕ → Type 0
HasInsn unit slot words = (i : Insn) × IsInSlot unit slot i (slice_index words slot)

-- A long instruction has the words of slots 1 and 2.
abbrev pub HasLongInsn : List ℕ → Type 0
HasLongInsn words = (i : Insn) × IsInSlots i (slice_index words 1) (slice_index words 2)

-- What is looked for in slots of these units, in this order. Where the second is L, a long instruction
-- stands in slots 1 and 2, and counts as slot 1.
abbrev pub slot_stages : List ExecutionUnit → List ℕ → List (Stage SlotFault)
slot_stages (u ∷ L ∷ w ∷ []) words =
    unless (HasInsn u 0 words) (Unlisted 0)
    ∷ unless (HasLongInsn words) (Unlisted 1)
    ∷ []
slot_stages (u ∷ v ∷ w ∷ []) words =
    unless (HasInsn u 0 words) (Unlisted 0)
    ∷ unless (HasInsn v 1 words) (Unlisted 1)
    ∷ unless (HasInsn w 2 words) (Unlisted 2)
    ∷ []
slot_stages units words = []

-- What is looked for in a template and three words that are to be a bundle: first a reserved template.
abbrev pub bundle_stages : RawBundle → List (Stage SlotFault)
bundle_stages raw =
    unless (IsTemplate raw.template) ReservedTemplate
    ∷ slot_stages (units_of raw.template) raw.slots

-- The first fault of the bytes.
abbrev pub HasSlotFault : List ℕ → SlotFault → Type 0
HasSlotFault bytes fault = (raw : RawBundle) × IsRawOf bytes raw × IsFirstFault (bundle_stages raw) fault
