-- Cells that are cut or filled up.
use Rattle.std.proofs.Common.{◌≡◌, ℕ, zero, suc, ◌<◌, List, [], ◌∷◌, get_or, refl, arith}
use Rattle.ia_meaning.specs.declared.state.Cell.{Cell}
use Rattle.ia_meaning.specs.State.{zero_cell}
use Rattle.ia_meaning.specs.Writes.{resized}

pub get_or-resized : (n : ℕ) (cells : List Cell) (i : ℕ) → i < n → get_or (resized n cells) i zero_cell ≡ get_or cells i zero_cell
get_or-resized zero cells i h = absurd (omega arith)
get_or-resized (suc n) [] zero h = refl
get_or-resized (suc n) [] (suc i) h = get_or-resized n [] i (omega arith)
get_or-resized (suc n) (c ∷ cells) zero h = refl
get_or-resized (suc n) (c ∷ cells) (suc i) h = get_or-resized n cells i (omega arith)
