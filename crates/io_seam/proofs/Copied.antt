-- What a source in memory copies into a piece.
use Rattle.std.proofs.Common.{◌≡◌, ℕ, ◌+◌, ◌-◌, ◌≤◌, List, ◌++◌, length, take, drop, sym, ap, ◌∙◌, arith, length-drop, length-take-le, take_all, take_at, take-append-drop}
use Rattle.std.proofs.lemmas.List.{drop-drop}

-- The bytes that were copied to the front of the piece, and those after them, are those that were left.
pub copied-rest : (bytes piece copied : List ℕ) (at n : ℕ) → n ≤ length (drop at bytes) → copied ≡ take n (drop at bytes)
    → drop at bytes ≡ take n (copied ++ drop n piece) ++ drop (at + n) bytes
copied-rest bytes piece copied at n within same =
    let long : length copied ≡ n = ap length same ∙ length-take-le n (drop at bytes) within in
    sym (take-append-drop n (drop at bytes))
    ∙ ap (λ l. l ++ drop n (drop at bytes)) (sym (take_at copied (drop n piece) n long ∙ same))
    ∙ ap (λ l. take n (copied ++ drop n piece) ++ l) (drop-drop n at bytes)

-- A slice from a place to the end.
pub to_end : (bytes seen : List ℕ) (at : ℕ) → seen ≡ bytes → take (length seen - at) (drop at seen) ≡ drop at bytes
to_end bytes seen at same =
    take_all (length seen - at) (drop at seen) (omega (arith, length-drop at seen)) ∙ ap (drop at) same
