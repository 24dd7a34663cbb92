-- Orders that are made in place: the item that comes next is moved to the front of the others.
use Rattle.std.proofs.Common.{ℕ, zero, suc, ◌+◌, ◌-◌, ◌/◌, ◌%◌, ◌<◌, ◌≤◌, ◌≡◌, List, [], ◌∷◌, ◌++◌, length, take, drop, refl, sym, ◌∙◌, ap, arith, add-one, mod-eq_of_lt}
use Rattle.std.proofs.lemmas.List.{length-take-le, length-drop, take-append-drop}
use Rattle.std.specs.List.{All}
use Rattle.std.proofs.lemmas.List.Sorted.{All-permutation}
use borrow.Rule.Slice.PartMut.{put_mid}
use Rattle.ia_meaning.specs.WriteOrders.{item_at, others, arranged}
use Rattle.ia_meaning.specs.NumberedRuns.{order}
use Rattle.ia_meaning.proofs.Codes.{code_is_permutation}

-- The others are one fewer.
length_others : {X : Type 0} (x : X) (xs : List X) (k : ℕ) → length (others x xs k) ≡ length xs
length_others x [] k = refl
length_others x (y ∷ ys) zero = refl
length_others x (y ∷ ys) (suc k) = ap suc (length_others y ys k)

-- The next item, and the order of the others.
next : {X : Type 0} (x : X) (xs : List X) (number : ℕ) → arranged (order number (suc (length xs))) (x ∷ xs)
    ≡ item_at x xs (number % suc (length xs)) ∷ arranged (order (number / suc (length xs)) (length xs))
    (others x xs (number % suc (length xs)))
unfolding order
next x xs number =
    let within : number % suc (length xs) % suc (length xs) ≡ number % suc (length xs) = mod-eq_of_lt (omega arith) in
    rw (within, length_others x xs (number % suc (length xs))) refl

-- The item at 0 is the first one, and the others are those after it.
first_item : {X : Type 0} (x : X) (xs : List X) → item_at x xs 0 ≡ x
first_item x [] = refl
first_item x (y ∷ ys) = refl

but_first : {X : Type 0} (x : X) (xs : List X) → others x xs 0 ≡ xs
but_first x [] = refl
but_first x (y ∷ ys) = refl

-- The order with the number 0 is that in which they stand.
pub unmoved : {X : Type 0} (xs : List X) (n : ℕ) → n ≡ length xs → arranged (order 0 n) xs ≡ xs
unfolding order
unmoved [] n e = refl
unmoved (x ∷ xs) n e =
    let none : 0 % suc (length xs) ≡ 0 = omega arith in
    let same : 0 / suc (length xs) ≡ 0 = omega arith in
    rw (e, next x xs 0, none, same, first_item x xs, but_first x xs) (ap (λ l. x ∷ l) (unmoved xs (length xs) refl))

-- Where nothing is left of the number, all items stand in their order.
pub arranged_all : {X : Type 0} (i : ℕ) (xs : List X) (number count : ℕ) → length xs ≡ count → number ≡ 0
    → take i xs ++ arranged (order number (count - i)) (drop i xs) ≡ xs
arranged_all i xs number count h none =
    rw (none, unmoved (drop i xs) (count - i) (omega (arith, length-drop i xs))) (take-append-drop i xs)

-- The item at k, alone.
alone : {X : Type 0} (x : X) (xs : List X) (k : ℕ) → k ≤ length xs → drop k (take (suc k) (x ∷ xs)) ≡ item_at x xs k ∷ []
alone x [] zero h = refl
alone x [] (suc k) h = absurd (omega (arith, h))
alone x (y ∷ ys) zero h = refl
alone x (y ∷ ys) (suc k) h = alone y ys k (omega (arith, h))

-- The items before the one at k, and those after it.
around : {X : Type 0} (x : X) (xs : List X) (k : ℕ) → k ≤ length xs
    → take k (take (suc k) (x ∷ xs)) ++ drop (suc k) (x ∷ xs) ≡ others x xs k
around x [] zero h = refl
around x [] (suc k) h = absurd (omega (arith, h))
around x (y ∷ ys) zero h = refl
around x (y ∷ ys) (suc k) h = ap (λ l. x ∷ l) (around y ys k (omega (arith, h)))

-- A list whose last item comes first.
abbrev rotated : {X : Type 0} → List X → List X
rotated xs = drop (length xs - 1) xs ++ take (length xs - 1) xs

-- The item at k is moved to the front.
moved : {X : Type 0} (x : X) (xs : List X) (k : ℕ) → k ≤ length xs
    → rotated (take (suc k) (x ∷ xs)) ++ drop (suc k) (x ∷ xs) ≡ item_at x xs k ∷ others x xs k
moved x xs k h =
    let count : length (take (suc k) (x ∷ xs)) - 1 ≡ k = omega (arith, length-take-le k xs h) in
    rw (count, alone x xs k h) (ap (λ l. item_at x xs k ∷ l) (around x xs k h))

-- One item more stands where it comes in the order.
one_more : {X : Type 0} (i : ℕ) (xs ys : List X) (number left size : ℕ) → length xs ≡ i + suc left → size ≡ suc (number % suc left)
    → ys ≡ rotated (take size (drop i xs)) → take i xs ++ arranged (order number (suc left)) (drop i xs) ≡ take (suc i)
    (put_mid i size xs ys) ++ arranged (order (number / suc left) left) (drop (suc i) (put_mid i size xs ys))
one_more zero [] ys number left size h k e = absurd (omega arith)
one_more zero (x ∷ xs) ys number left size h k e =
    let n : left ≡ length xs = omega arith in
    rw (e, k, n, moved x xs (number % suc (length xs)) (omega arith), next x xs number) refl
one_more (suc i) [] ys number left size h k e = absurd (omega arith)
one_more (suc i) (x ∷ xs) ys number left size h k e = ap (λ l. x ∷ l) (one_more i xs ys number left size (omega arith) k e)

-- The items up to one more stand, and the order of the others with what is left of the number makes the whole.
pub arranged_more : {X : Type 0} (i : ℕ) (xs ys whole : List X) (number size rest count : ℕ) → length xs ≡ count → i < count
    → rest ≡ count - i → size ≡ suc (number % rest) → ys ≡ rotated (take size (drop i xs))
    → take i xs ++ arranged (order number (count - i)) (drop i xs) ≡ whole
    → take (i + 1) (put_mid i size xs ys) ++ arranged (order (number / rest) (count - (i + 1))) (drop (i + 1) (put_mid i size xs ys))
    ≡ whole
arranged_more i xs ys whole number size rest count h l r k e so_far =
    let left = count - suc i in
    let is : rest ≡ suc left = omega arith in
    let same : count - i ≡ suc left = omega arith in
    rw (add-one i, is) (sym (one_more i xs ys number left size (omega arith) (rw is at k) e) ∙ (rw same at so_far))

-- What holds of all items holds of them in every order.
pub all_arranged : {X : Type 0} (P : X → Type 0) (code : List ℕ) (xs ys : List X) → ys ≡ arranged code xs → All P xs → All P ys
all_arranged P code xs ys e h = All-permutation P xs ys (rw e (code_is_permutation code xs)) h
