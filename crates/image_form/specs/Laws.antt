-- Images of a version and programs for which it has room correspond one to one, and so do bare bundles and programs of
-- them. Bytes are an image of a program or have one first fault.
use Rattle.std.specs.Prelude.{◌≡◌, ℕ, ◌+◌, ◌*◌, List, length}
use Rattle.ia_program.specs.Programs.{Program, AreBytes}
use Rattle.image_form.specs.declared.fault.ImageFault.{ImageFault}
use Rattle.image_form.specs.declared.version.Version.{Version}
use Rattle.image_form.specs.Images.{IsImage, Spells, RawSpells}
use Rattle.image_form.specs.Faults.{HasImageFault, HasRawFault}

-- Bytes are an image of at most one program, whatever the version.
abbrev pub OneProgram : Type 0
OneProgram = (bytes : List ℕ) (p q : Program) → Spells p bytes → Spells q bytes → p ≡ q

-- A program has at most one image of a version.
abbrev pub OneImage : Type 0
OneImage = (v : Version) (p : Program) (x y : List ℕ) → IsImage v p x → IsImage v p y → x ≡ y

-- How many bytes an image of a program has, where one without relations has none for them.
abbrev pub ImageSize : Type 0
ImageSize =
    (p : Program) (bytes : List ℕ) → Spells p bytes
    → length bytes ≡ 24 + 4 * length p.entries + 8 * length p.relations + 16 * length p.bundles + length p.bytes

-- An image of a program has no fault.
abbrev pub NoFaultWhereSpelled : Type 0
NoFaultWhereSpelled =
    (p : Program) (bytes : List ℕ) (fault : ImageFault) → Spells p bytes → HasImageFault bytes fault → ⊥

-- Bytes are the bare bundles of at most one program.
abbrev pub OneRawProgram : Type 0
OneRawProgram = (bytes : List ℕ) (p q : Program) → RawSpells p bytes → RawSpells q bytes → p ≡ q

-- The bare bundles of a program have no fault.
abbrev pub NoFaultWhereRaw : Type 0
NoFaultWhereRaw =
    (p : Program) (bytes : List ℕ) (fault : ImageFault) → RawSpells p bytes → HasRawFault bytes fault → ⊥

-- Bytes have at most one first fault.
abbrev pub OneFault : Type 0
OneFault = (bytes : List ℕ) (f g : ImageFault) → HasImageFault bytes f → HasImageFault bytes g → f ≡ g

-- Bytes have at most one first fault as bare bundles.
abbrev pub OneRawFault : Type 0
OneRawFault = (bytes : List ℕ) (f g : ImageFault) → HasRawFault bytes f → HasRawFault bytes g → f ≡ g

-- Bytes that are an image of no program are not without a fault.
abbrev pub FaultWhereNoneSpelled : Type 0
FaultWhereNoneSpelled =
    (bytes : List ℕ) → AreBytes bytes
    → ((p : Program) → Spells p bytes → ⊥) → ((f : ImageFault) → HasImageFault bytes f → ⊥) → ⊥

-- Bytes that are the bare bundles of no program are not without a fault.
abbrev pub FaultWhereNoneRaw : Type 0
FaultWhereNoneRaw =
    (bytes : List ℕ) → AreBytes bytes
    → ((p : Program) → RawSpells p bytes → ⊥) → ((f : ImageFault) → HasRawFault bytes f → ⊥) → ⊥
