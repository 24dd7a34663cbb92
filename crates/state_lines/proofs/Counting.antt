-- Texts that grow by the text of one number or one item more.
use Rattle.std.proofs.Common.{◌≡◌, ℕ, zero, suc, ◌+◌, ◌<◌, List, [], ◌∷◌, ◌++◌, length, get_or, take, append_assoc, sym, ap, ◌∙◌, arith}
use Rattle.std.specs.Prelude.{flat_map, Result, OnOk}
use Rattle.std.proofs.lemmas.Result.{on_ok_weaker}
use Rattle.std.proofs.lemmas.List.{take_more, append-nil}
use Rattle.std.proofs.lemmas.Grind.{flat_map-append}
use Rattle.ia_meaning.specs.StateText.{count_up}

counted_more : (f : ℕ → List ℕ) (first k : ℕ) → flat_map f (count_up first (suc k)) ≡ flat_map f (count_up first k) ++ f (first + k)
counted_more f first zero = let same : first ≡ first + 0 = omega arith in append-nil (f first) ∙ ap f same
counted_more f first (suc k) =
    let same : suc first + k ≡ first + suc k = omega arith in
    ap (λ l. f first ++ l) (counted_more f (suc first) k ∙ ap (λ n. flat_map f (count_up (suc first) k) ++ f n) same)
    ∙ sym (append_assoc (f first) (flat_map f (count_up (suc first) k)) (f (first + suc k)))

grown : (front middle last old new : List ℕ) → old ≡ front ++ middle → new ≡ old ++ last → new ≡ front ++ (middle ++ last)
grown front middle last old new before after = after ∙ ap (λ l. l ++ last) before ∙ append_assoc front middle last

-- The text of one number more.
pub one_more : (f : ℕ → List ℕ) (first k at next : ℕ) (front old new : List ℕ) → first + k ≡ at → next ≡ k + 1
    → old ≡ front ++ flat_map f (count_up first k) → new ≡ old ++ f at → new ≡ front ++ flat_map f (count_up first next)
one_more f first k at next front old new here there before after =
    let same : suc k ≡ next = omega arith in
    grown front (flat_map f (count_up first k)) (f at) old new before after
    ∙ ap (λ n. front ++ (flat_map f (count_up first k) ++ f n)) (sym here)
    ∙ ap (λ l. front ++ l) (sym (counted_more f first k) ∙ ap (λ n. flat_map f (count_up first n)) same)

items_more : {X : Type 0} (f : X → List ℕ) (items : List X) (i : ℕ) (x : X) → i < length items → x ≡ get_or items i x
    → flat_map f (take (i + 1) items) ≡ flat_map f (take i items) ++ f x
items_more {X} f items i x short is =
    ap (flat_map f) (take_more items i x short ∙ ap (λ (y : X). take i items ++ y ∷ []) (sym is))
    ∙ flat_map-append f (take i items) (x ∷ []) ∙ ap (λ l. flat_map f (take i items) ++ l) (append-nil (f x))

-- The text of one item more.
pub one_item_more : {X : Type 0} (f : X → List ℕ) (items : List X) (i : ℕ) (x : X) (front old new : List ℕ) → i < length items
    → x ≡ get_or items i x
    → old ≡ front ++ flat_map f (take i items) → new ≡ old ++ f x → new ≡ front ++ flat_map f (take (i + 1) items)
one_item_more {X} f items i x front old new short is before after =
    grown front (flat_map f (take i items)) (f x) old new before after
    ∙ ap (λ l. front ++ l) (sym (items_more f items i x short is))

-- A text that is written in three pieces.
pub three_pieces : {T E : Type 0} (r : Result T E) (front one two new first second third whole : List ℕ) → one ≡ front ++ first
    → two ≡ one ++ second
    → OnOk r (new ≡ two ++ third) → first ++ (second ++ third) ≡ whole → OnOk r (new ≡ front ++ whole)
three_pieces {T} {E} r front one two new first second third whole a b c e =
    let begun : two ≡ front ++ (first ++ second) = grown front first second one two a b in
    let all : (first ++ second) ++ third ≡ whole = append_assoc first second third ∙ e in
    on_ok_weaker {P = new ≡ two ++ third} {Q = new ≡ front ++ whole} r
    (λ d. grown front (first ++ second) third two new begun d ∙ ap (λ l. front ++ l) all) c
