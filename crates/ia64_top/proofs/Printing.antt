-- Lines, one after the other.
use Rattle.std.proofs.Common.{◌≡◌, ℕ, ◌+◌, ◌<◌, List, [], ◌∷◌, ◌++◌, length, get_or, take, append_assoc, sym, ap, ◌∙◌, subst}
use Rattle.std.specs.Prelude.{flat_map}
use Rattle.std.proofs.lemmas.List.{take_more, append-nil}
use Rattle.std.proofs.lemmas.Grind.{flat_map-append}

line_more : {X : Type 0} (f : X → List ℕ) (items : List X) (i : ℕ) (d : X) → i < length items
    → flat_map f (take (i + 1) items) ≡ flat_map f (take i items) ++ f (get_or items i d)
line_more {X} f items i d short =
    let x = get_or items i d in
    ap (flat_map f) (take_more items i d short) ∙ flat_map-append f (take i items) (x ∷ [])
    ∙ ap (λ l. flat_map f (take i items) ++ l) (append-nil (f x))

-- A text that grows by the next line.
pub grows : {X : Type 0} (f : X → List ℕ) (xs items : List X) (i : ℕ) (d : X) (front old new : List ℕ) → xs ≡ items → i < length xs
    → new ≡ old ++ f (get_or xs i d) → old ≡ front ++ flat_map f (take i items) → new ≡ front ++ flat_map f (take (i + 1) items)
grows {X} f xs items i d front old new same short grown before =
    let s : i < length items = subst (λ (l : List X). i < length l) same short in
    let g : new ≡ old ++ f (get_or items i d) = subst (λ (l : List X). new ≡ old ++ f (get_or l i d)) same grown in
    g ∙ ap (λ l. l ++ f (get_or items i d)) before ∙ append_assoc front (flat_map f (take i items)) (f (get_or items i d))
    ∙ ap (λ l. front ++ l) (sym (line_more f items i d s))

-- A text of four pieces.
pub four_pieces : (first second third fourth one two new whole : List ℕ) → one ≡ first → two ≡ (one ++ second) ++ third
    → new ≡ two ++ fourth → ((first ++ second) ++ third) ++ fourth ≡ whole → new ≡ whole
four_pieces first second third fourth one two new whole a b c e = c ∙ ap (λ l. l ++ fourth) (b ∙ ap (λ l. (l ++ second) ++ third) a) ∙ e
