-- A word as the sum of its fields (volume 3, chapter 4, instruction formats).
use Rattle.std.specs.Prelude.{ℕ, ◌+◌, ◌*◌, ◌/◌, ◌%◌, ◌^◌, ◌<◌, List, [], ◌∷◌}

-- A field: its lowest bit, how many bits it has, and its value.
pub record Part : Type 0 where
  pub low : ℕ
  pub width : ℕ
  pub value : ℕ

abbrev pub field : ℕ → ℕ → ℕ → Part
field low width value = record { low = low; width = width; value = value }

-- The sum of the fields, each times 2 to the power of its lowest bit. A bit that no field names is zero.
abbrev pub word_of : List Part → ℕ
word_of [] = 0
word_of (p ∷ ps) = p.value * 2 ^ p.low + word_of ps

-- Each value fits its field.
abbrev pub AllFit : List Part → Type 0
AllFit [] = Unit {0}
AllFit (p ∷ ps) = (p.value < 2 ^ p.width) × AllFit ps

-- The bits of a number from `low` on, `width` of them.
abbrev pub bits : ℕ → ℕ → ℕ → ℕ
bits low width n = n / 2 ^ low % 2 ^ width
