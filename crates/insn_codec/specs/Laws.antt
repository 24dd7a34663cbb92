-- Bundles and their bytes correspond one to one, and sixteen bytes are those of a bundle or have one
-- first fault.
use Rattle.std.specs.Prelude.{◌≡◌, ◌⊎◌, ℕ, List}
use Rattle.bundle_bits.specs.RawBundle.{AreBytes}
use Rattle.insn_rows.specs.Laws.{OneInstruction, OneWord}
use Rattle.ia_insn.specs.declared.choices.Unit.{Unit as ExecutionUnit}
use Rattle.ia_program.specs.Bundles.{Bundle}
use Rattle.insn_codec.specs.declared.bundle.SlotFault.{SlotFault}
use Rattle.insn_codec.specs.Slots.{UnitCode}
use Rattle.insn_codec.specs.Spelling.{IsSpelled}
use Rattle.insn_codec.specs.SlotFaults.{HasSlotFault}

-- Of L and X slots the first two say nothing: a long instruction has a word in each of them, and `OneLongInstruction` and
-- `OneLongWord` say of both words what these say of one.

-- A word is that of at most one instruction of a unit.
abbrev pub OneInstructionOfUnit : Type 0
OneInstructionOfUnit = (unit : ExecutionUnit) → OneInstruction (UnitCode unit)

-- An instruction has at most one word of a unit.
abbrev pub OneWordOfUnit : Type 0
OneWordOfUnit = (unit : ExecutionUnit) → OneWord (UnitCode unit)

-- Bytes are those of at most one bundle.
abbrev pub OneBundle : Type 0
OneBundle = (bytes : List ℕ) (b c : Bundle) → IsSpelled b bytes → IsSpelled c bytes → b ≡ c

-- A bundle has at most one spelling.
abbrev pub OneSpelling : Type 0
OneSpelling = (b : Bundle) (x y : List ℕ) → IsSpelled b x → IsSpelled b y → x ≡ y

-- Bytes have at most one first fault.
abbrev pub OneFault : Type 0
OneFault = (bytes : List ℕ) (f g : SlotFault) → HasSlotFault bytes f → HasSlotFault bytes g → f ≡ g

-- The bytes of a bundle have no fault.
abbrev pub NoFaultWhereSpelled : Type 0
NoFaultWhereSpelled = (b : Bundle) (bytes : List ℕ) (f : SlotFault) → IsSpelled b bytes → HasSlotFault bytes f → ⊥

-- Sixteen bytes that are those of no bundle are not without a fault.
abbrev pub FaultWhereNoneSpelled : Type 0
FaultWhereNoneSpelled =
    (bytes : List ℕ) → AreBytes bytes → ((b : Bundle) → IsSpelled b bytes → ⊥)
    → ((f : SlotFault) → HasSlotFault bytes f → ⊥) → ⊥

-- The bytes are those of a bundle, or have a fault.
abbrev pub BundleOrFault : List ℕ → Type 0
BundleOrFault bytes = ((b : Bundle) × IsSpelled b bytes) ⊎ ((f : SlotFault) × HasSlotFault bytes f)
