-- A code whose bits stand at several positions of a word.
use Rattle.std.specs.Prelude.{ℕ, ◌+◌, List, [], ◌∷◌}
use Rattle.bundle_bits.specs.Words.{Part, field, bits}
use Rattle.insn_rows.specs.declared.bits.BitField.{BitField}
use Rattle.insn_rows.specs.declared.bits.Bits.{Bits}
use Rattle.insn_rows.specs.declared.bits.Bits.TheVariants as b

-- The fields from the one of the top bits down.
abbrev pub list_of : Bits → List BitField
list_of b.None = []
list_of (b.One f) = f ∷ []
list_of (b.Two f g) = f ∷ g ∷ []
list_of (b.Three f g h) = f ∷ g ∷ h ∷ []
list_of (b.Four f g h i) = f ∷ g ∷ h ∷ i ∷ []

-- How many bits they have.
abbrev pub width_of : List BitField → ℕ
width_of [] = 0
width_of (f ∷ fs) = f.width + width_of fs

-- The fields with a code in them, its top bits in the first.
abbrev pub scattered : List BitField → ℕ → List Part
scattered [] n = []
scattered (f ∷ fs) n = field f.low f.width (bits (width_of fs) f.width n) ∷ scattered fs n
