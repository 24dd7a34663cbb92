-- Which cells of the register stack are resident (volume 1, chapter 4, register stack engine): the range follows each
-- frame change as the tool chooses it.
use Rattle.std.specs.Prelude.{ℕ, ◌+◌, ◌-◌, ◌%◌, ◌^◌, min, max, List, [], ◌∷◌}
use Rattle.ia_meaning.specs.declared.state.Rse.{Rse}

abbrev pub zero_range : Rse
zero_range = record { low = 0; high = 0; spilled = 0; filled = 0 }

-- The first resident cell after a change to a frame that begins at `base` and ends at `high`.
abbrev pub low_after : ℕ → ℕ → ℕ → ℕ
low_after low base high = max (min low base) (high - 96)

-- A rise of the first resident cell spills, and a fall fills; both counts are modulo 2^64.
abbrev pub range_by : Rse → ℕ → ℕ → Rse
range_by r low high =
    record { low = low; high = high; spilled = (r.spilled + (low - r.low)) % 2 ^ 64; filled = (r.filled + (r.low - low)) % 2 ^ 64 }

abbrev pub range_after : Rse → ℕ × ℕ → Rse
range_after r change = range_by r (low_after r.low change.0 change.1) change.1

-- The range after the frame changes, in order.
abbrev pub range_of : Rse → List (ℕ × ℕ) → Rse
range_of r [] = r
range_of r (change ∷ changes) = range_of (range_after r change) changes
