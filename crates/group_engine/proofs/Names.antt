-- What register names denote.
use Rattle.std.proofs.Common.{◌≡◌, ◌<◌, ◌≤◌, ℕ, zero, suc, length, get_or, refl, sym, ap, ◌∙◌, arith}
use Rattle.std.proofs.lemmas.List.{get_or_read}
use Rattle.std.specs.Prelude.{Some, None}
use Rattle.ia_meaning.specs.declared.state.Cell.{Cell}
use Rattle.ia_meaning.specs.declared.state.Spot.TheVariants.{Stacked}
use Rattle.ia_meaning.specs.State.{zero_cell, Registers}
use Rattle.ia_meaning.specs.Names.{spot, look, cell_at}
use Rattle.ia_meaning.proofs.Spots.{spot_static}

-- Looking up a static register gives what it holds.
pub look_static : (r : Registers) (n : ℕ) → get_or r.statics 0 zero_cell ≡ zero_cell → n < 32
    → look r n ≡ Some (get_or r.statics n zero_cell)
unfolding look
look_static r zero e h = sym (ap Some e)
look_static r (suc n) e h = ap (cell_at r) (spot_static r.frame (suc n) h)

look_stacked : (r : Registers) (n : ℕ) → 32 ≤ n → look r n ≡ cell_at r (spot r.frame n)
unfolding look
look_stacked r zero h = absurd (omega arith)
look_stacked r (suc n) h = refl

-- Looking up a register outside the frame gives nothing.
pub look_outside : (r : Registers) (n : ℕ) → 32 ≤ n → spot r.frame n ≡ None → look r n ≡ None
look_outside r n h e = look_stacked r n h ∙ ap (cell_at r) e

-- Looking up a register of the frame gives its cell.
pub look_at_cell : (r : Registers) (n k : ℕ) (c : Cell) → 32 ≤ n → spot r.frame n ≡ Some (Stacked k) → k < length r.cells
    → c ≡ get_or r.cells k c → look r n ≡ Some c
look_at_cell r n k c h e inside read = look_stacked r n h ∙ ap (cell_at r) e ∙ sym (ap Some (get_or_read r.cells k c inside read zero_cell))
