-- One more step along lists of lines.
use Rattle.std.proofs.Common.{◌≡◌, ◌<◌, ◌∙◌, sym, ap, refl, ℕ, ◌+◌, List, ◌∷◌, ◌++◌, length, drop, get_or, take}
use Rattle.std.specs.Int.{w64, to_le_bytes}
use Rattle.std.proofs.lemmas.List.{drop_more}
use Rattle.asm_build.specs.TextParts.{numbers_bytes}

-- The item at a place, and those after it.
pub item_and_rest : {X : Type 0} (xs : List X) (i : ℕ) (x : X) → i < length xs → x ≡ get_or xs i x → drop i xs ≡ x ∷ drop (i + 1) xs
item_and_rest xs i x h is = drop_more xs i x h ∙ ap (λ y. y ∷ drop (i + 1) xs) (sym is)

-- The bytes of one more number.
pub number_put : (size : ℕ) (numbers : List ℕ) (i : ℕ) (v : ℕ) → i < length numbers → v ≡ get_or numbers i v
    → numbers_bytes size (drop i numbers) ≡ take size (to_le_bytes w64 v) ++ numbers_bytes size (drop (i + 1) numbers)
number_put size numbers i v h is = rw (item_and_rest numbers i v h is) refl
