-- Where the cells of the register stack lie: those of the resident range in a ring of 96 registers, and those below
-- it in a backing store, the region (volume 2, chapter 6, register stack engine).
use Rattle.std.specs.Prelude.{◌≡◌, ℕ, ◌+◌, ◌-◌, ◌*◌, ◌/◌, ◌%◌, ◌<◌, ◌≤◌, ◌==◌, if◌then◌else◌, List, length, map, get_or, nat_lt}
use Rattle.std.specs.List.{range_with_len}
use Rattle.std.specs.Int.{bit_at}
use Rattle.ia_meaning.specs.declared.state.Cell.{Cell}
use Rattle.ia_meaning.specs.State.{zero_cell, IsWord}

-- The number of words in the region of a stack of at most `limit` cells.
abbrev pub region_words : ℕ → ℕ
region_words limit = 64 * ((limit - 1) / 63 + 1)

-- How many cells a region has room for.
abbrev pub room : List ℕ → ℕ
room region = 63 * (length region / 64)

-- The word of the region that holds the value of a cell.
abbrev pub value_word : ℕ → ℕ
value_word c = c + c / 63

-- The word that holds its NaT bit: each 64th one holds those of the 63 cells before it, a NaT collection.
abbrev pub nat_word : ℕ → ℕ
nat_word c = 64 * (c / 63) + 63

-- What the region holds for a cell.
unfoldable pub spilled_cell : List ℕ → ℕ → Cell
spilled_cell region c = record { value = get_or region (value_word c) 0; nat = bit_at (get_or region (nat_word c) 0) (c % 63) == 1 }

-- The bit of the n-th NaT collection that belongs to no cell.
unfoldable pub spare_bit : List ℕ → ℕ → ℕ
spare_bit region n = bit_at (get_or region (64 * n + 63) 0) 63

-- What the ring holds for a cell.
unfoldable pub resident_cell : List Cell → ℕ → Cell
resident_cell ring c = get_or ring (c % 96) zero_cell

-- A cell of a stack whose first resident one is `low`.
unfoldable pub held_cell : List Cell → List ℕ → ℕ → ℕ → Cell
held_cell ring region low c = if nat_lt c low then spilled_cell region c else resident_cell ring c

-- All cells of a stack whose first resident one is `low`.
unfoldable pub cells_of : List Cell → List ℕ → ℕ → ℕ → List Cell
cells_of ring region low high = map (held_cell ring region low) (range_with_len 0 high)

-- Outside the words and bits of the cells below `low` the region is 0.
pub record IsFreeFrom (region : List ℕ) (low : ℕ) : Type 0 where
  pub rest : (c : ℕ) → low ≤ c → spilled_cell region c ≡ zero_cell
  pub spare : (n : ℕ) → spare_bit region n ≡ 0

-- Two regions of words that are as long, free from one cell on, and have the same cells below it are the same: a
-- region holds its cells and nothing else.
abbrev pub RegionIsItsCells : Type 0
RegionIsItsCells =
    (a b : List ℕ) (low : ℕ) → length a ≡ length b → IsFreeFrom a low → IsFreeFrom b low → ((i : ℕ) → IsWord (get_or a i 0))
    → ((i : ℕ) → IsWord (get_or b i 0)) → ((c : ℕ) → c < low → spilled_cell a c ≡ spilled_cell b c) → a ≡ b
