-- Which rows are tried for a word: an index has for each major opcode the indexes of its rows.
use Rattle.std.specs.Prelude.{ℕ, suc, ◌-◌, ◌/◌, ◌^◌, ◌==◌, ◌&&◌, ◌||◌, nat_lt, Bool, true, false, List, [], ◌∷◌, length, slice_index_or}
use Rattle.std.specs.List.{list_all}
use Rattle.insn_rows.specs.declared.row.Row.{Row}

-- A row index is among these.
abbrev pub is_among : ℕ → List ℕ → Bool
is_among n [] = false
is_among n (m ∷ ms) = m == n || is_among n ms

-- Each row from the n-th on has a major opcode, the bits from 37 on, and its own index is among those of this.
abbrev pub are_indexed : List (List ℕ) → ℕ → List Row → Bool
are_indexed index n [] = true
are_indexed index n (r ∷ rs) =
    (r.format.mask / 2 ^ 37 == 2 ^ 27 - 1) && is_among n (slice_index_or index (r.fixed / 2 ^ 37) []) && are_indexed index (suc n) rs

-- indexes of rows.
abbrev pub are_inside : List Row → List ℕ → Bool
are_inside rows row_indexes = list_all (λ n. nat_lt n (length rows)) row_indexes

-- The index has each row at its major opcode, and nothing but indexes of rows.
unfoldable pub is_index : List Row → List (List ℕ) → Bool
is_index rows index = are_indexed index 0 rows && list_all (are_inside rows) index
