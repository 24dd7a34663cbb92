-- The cells that a write of the frame leaves: how many there are, and that each is a word.
use Rattle.std.proofs.Common.{◌≡◌, ℕ, zero, suc, List, [], ◌∷◌, length, refl, ap, arith}
use Rattle.std.proofs.lemmas.List.Elements.{All-nil, All-cons, All-head, All-tail}
use Rattle.ia_meaning.specs.declared.state.Cell.{Cell}
use Rattle.ia_meaning.specs.State.{zero_cell, IsWord, AreCells}
use Rattle.ia_meaning.specs.Writes.{resized}

pub length-resized : (n : ℕ) (cells : List Cell) → length (resized n cells) ≡ n
length-resized zero cells = refl
length-resized (suc n) [] = ap suc (length-resized n [])
length-resized (suc n) (c ∷ cells) = ap suc (length-resized n cells)

-- The words of cells are kept.
pub words-resized : (n : ℕ) (cells : List Cell) → AreCells cells → AreCells (resized n cells)
words-resized zero cells h = All-nil (λ c. IsWord c.value)
words-resized (suc n) [] h = All-cons (λ c. IsWord c.value) zero_cell (resized n []) (omega arith) (words-resized n [] h)
words-resized (suc n) (c ∷ cells) h =
    All-cons (λ x. IsWord x.value) c (resized n cells) (All-head (λ x. IsWord x.value) c cells h)
    (words-resized n cells (All-tail (λ x. IsWord x.value) c cells h))
