-- A list of cells cut at a count, or filled up to it.
use Rattle.std.proofs.Common.{◌≡◌, ◌<◌, ℕ, zero, suc, List, [], ◌∷◌, ◌++◌, length, take, refl, ap, arith}
use Rattle.ia_meaning.specs.declared.state.Cell.{Cell}
use Rattle.ia_meaning.specs.State.{zero_cell}
use Rattle.ia_meaning.specs.Writes.{resized}
use Rattle.ia_meaning.proofs.Resizing.{length-resized}

-- Cells past the count don't matter to the resized list.
pub resized_take : (n : ℕ) (cells : List Cell) → resized n (take n cells) ≡ resized n cells
resized_take zero cells = refl
resized_take (suc n) [] = refl
resized_take (suc n) (c ∷ cells) = ap (λ cs. c ∷ cs) (resized_take n cells)

-- A zero that is filled in doesn't matter to the resized list.
pub resized_push : (n : ℕ) (cells : List Cell) → length cells < n → resized n (cells ++ zero_cell ∷ []) ≡ resized n cells
resized_push zero cells h = absurd (omega arith)
resized_push (suc n) [] h = refl
resized_push (suc n) (c ∷ cells) h = ap (λ cs. c ∷ cs) (resized_push n cells (omega arith))

-- A list that has the count already is left as it is.
pub resized_all : (n : ℕ) (cells : List Cell) → length cells ≡ n → resized n cells ≡ cells
resized_all zero [] h = refl
resized_all zero (c ∷ cells) h = absurd (omega arith)
resized_all (suc n) [] h = absurd (omega arith)
resized_all (suc n) (c ∷ cells) h = ap (λ cs. c ∷ cs) (resized_all n cells (omega arith))

-- What a loop that resizes goes by.
pub ruleset resizing = (resized_take, resized_push, resized_all)

-- The resized list has as many cells as its count.
pub ruleset counts = (length-resized)
