-- Every permutation of a list is its order under some code, and the order under a code is a permutation.
use Rattle.std.proofs.Common.{ℕ, zero, suc, ◌%◌, ◌<◌, ◌≡◌, ◌⊎◌, List, [], ◌∷◌, length, set, get_or, refl, sym, ◌∙◌, ap, subst, arith, inl, inr, mod-eq_of_lt, zero-lt-suc}
use Rattle.std.specs.Bool.{⊤}
use Rattle.std.specs.List.Sorted.{IsPermutation}
use Rattle.std.specs.List.{swap}
use Rattle.std.proofs.lemmas.List.Sorted.{IsPermutation-keeps, IsPermutation-refl, IsPermutation-trans, IsPermutation-cons, IsPermutation-swap}
use Rattle.ia_meaning.specs.WriteOrders.{item_at, others, head_of, tail_of, arranged_within, arranged}

module _ {X : Type 0} where
  -- One of the items is x, and these are the others.
  abbrev IsTaken : List X → X → List X → Type 0
  IsTaken [] x others = ⊥
  IsTaken (y ∷ ys) x others = ((y ≡ x) × (others ≡ ys)) ⊎ ((rest : List X) × (others ≡ y ∷ rest) × IsTaken ys x rest)

  -- The second list takes the items of the first one by one.
  abbrev AreTaken : List X → List X → Type 0
  AreTaken [] [] = ⊤
  AreTaken (x ∷ xs) [] = ⊥
  AreTaken xs (y ∷ ys) = (others : List X) × IsTaken xs y others × AreTaken others ys

  all_taken : (xs : List X) → AreTaken xs xs
  all_taken [] = tt
  all_taken (x ∷ xs) = (xs, inl (refl, refl), all_taken xs)

  -- Two items are taken in either order.
  other_order : (xs : List X) (x : X) (r : List X) (z : X) (s : List X) → IsTaken xs x r → IsTaken r z s
      → (t : List X) × IsTaken xs z t × IsTaken t x s
  other_order [] x r z s a b = absurd a
  other_order (y ∷ ys) x r z s (inl a) b = (y ∷ s, inr (s, refl, subst (λ l. IsTaken l z s) a.1 b), inl (a.0, refl))
  other_order (y ∷ ys) x r z s (inr (q, e, a)) b = of (subst (λ l. IsTaken l z s) e b) (λ p c. other_order ys x q z p a c)
    where
      of : IsTaken (y ∷ q) z s → ((p : List X) → IsTaken q z p → (t : List X) × IsTaken ys z t × IsTaken t x p)
          → (t : List X) × IsTaken (y ∷ ys) z t × IsTaken t x s
      of (inl c) again = (ys, inl (c.0, refl), subst (λ l. IsTaken ys x l) (sym c.1) a)
      of (inr (p, f, c)) again = let g = again p c in (y ∷ g.0, inr (g.0, refl, g.1), inr (p, f, g.2))

  -- An item that is taken from the second list may be taken first.
  taken_first : (ys xs : List X) (z : X) (s : List X) → AreTaken xs ys → IsTaken ys z s → (t : List X) × IsTaken xs z t × AreTaken t s
  taken_first [] xs z s p k = absurd k
  taken_first (y ∷ ys) xs z s (r, a, p) (inl k) = (r, subst (λ w. IsTaken xs w r) k.0 a, subst (AreTaken r) (sym k.1) p)
  taken_first (y ∷ ys) xs z s (r, a, p) (inr (q, e, k)) =
      let f = taken_first ys r z q p k in
      let g = other_order xs y r z f.0 a f.1 in
      (g.0, g.1, subst (AreTaken g.0) (sym e) (f.0, g.2, f.2))

  taken_in_turn : (zs xs ys : List X) → AreTaken xs ys → AreTaken ys zs → AreTaken xs zs
  taken_in_turn [] xs [] p q = p
  taken_in_turn [] xs (y ∷ ys) p q = absurd q
  taken_in_turn (z ∷ zs) xs ys p (s, k, q) =
      let f = taken_first ys xs z s p k in (f.0, f.1, taken_in_turn zs f.0 s f.2 q)

  -- An item that takes another one's place.
  replaced : (l : List X) (j : ℕ) (d x : X) → j < length l → (r : List X) × IsTaken l (get_or l j d) r × AreTaken (x ∷ r) (set l j x)
  replaced [] j d x h = absurd (omega arith)
  replaced (y ∷ l) zero d x h = (l, inl (refl, refl), all_taken (x ∷ l))
  replaced (y ∷ l) (suc j) d x h =
      let f = replaced l j d x (omega arith) in
      (y ∷ f.0, inr (f.0, refl, f.1), (x ∷ f.0, inr (f.0, refl, inl (refl, refl)), f.2))

  both_replaced : (l : List X) (i j : ℕ) (d : X) → i < length l → j < length l → AreTaken l (set (set l i (get_or l j d)) j (get_or l i d))
  both_replaced [] i j d h k = absurd (omega arith)
  both_replaced (x ∷ l) zero zero d h k = all_taken (x ∷ l)
  both_replaced (x ∷ l) zero (suc j) d h k = let f = replaced l j d x (omega arith) in (x ∷ f.0, inr (f.0, refl, f.1), f.2)
  both_replaced (x ∷ l) (suc i) zero d h k = let f = replaced l i d x (omega arith) in (x ∷ f.0, inr (f.0, refl, f.1), f.2)
  both_replaced (x ∷ l) (suc i) (suc j) d h k = (l, inl (refl, refl), both_replaced l i j d (omega arith) (omega arith))

  swapped : (l : List X) (i j : ℕ) → i < length l → j < length l → AreTaken l (swap l i j)
  swapped [] i j h k = tt
  swapped (x ∷ l) i j h k = both_replaced (x ∷ l) i j x h k

  -- A permutation takes the items one by one.
  permutation_takes : (xs ys : List X) → IsPermutation xs ys → AreTaken xs ys
  permutation_takes xs ys p =
      IsPermutation-keeps xs (AreTaken xs) (all_taken xs) (λ l i j h k q. taken_in_turn (swap l i j) xs l q (swapped l i j h k)) ys p

  -- Where the item that is taken stands.
  place_taken : (x : X) (xs : List X) (y : X) (r : List X) → IsTaken (x ∷ xs) y r
      → (k : ℕ) × (k < suc (length xs)) × (item_at x xs k ≡ y) × (others x xs k ≡ r)
  place_taken x [] y r (inl e) = (0, zero-lt-suc _, e.0, sym e.1)
  place_taken x [] y r (inr (s, e, t)) = absurd t
  place_taken x (z ∷ zs) y r (inl e) = (0, zero-lt-suc _, e.0, sym e.1)
  place_taken x (z ∷ zs) y r (inr (s, e, t)) =
      let f = place_taken z zs y s t in (suc f.0, omega (arith, f.1), f.2, ap (λ l. x ∷ l) f.3 ∙ sym e)

  length_left : (x : X) (xs : List X) (k : ℕ) → length (others x xs k) ≡ length xs
  length_left x [] k = refl
  length_left x (y ∷ ys) zero = refl
  length_left x (y ∷ ys) (suc k) = ap suc (length_left y ys k)

  -- The code of items that are taken one by one.
  code_taken : (ys xs : List X) → AreTaken xs ys → (code : List ℕ) × (arranged_within (length xs) code xs ≡ ys)
  code_taken [] [] p = ([], refl)
  code_taken [] (x ∷ xs) p = absurd p
  code_taken (y ∷ ys) [] (r, t, p) = absurd t
  code_taken (y ∷ ys) (x ∷ xs) (r, t, p) = of (place_taken x xs y r t) (code_taken ys r p)
    where
      of : (k : ℕ) × (k < suc (length xs)) × (item_at x xs k ≡ y) × (others x xs k ≡ r)
          → (code : List ℕ) × (arranged_within (length r) code r ≡ ys)
          → (code : List ℕ) × (arranged_within (suc (length xs)) code (x ∷ xs) ≡ y ∷ ys)
      of (k, small, is, others) (code, e) =
          let within : k % suc (length xs) ≡ k = mod-eq_of_lt small in
          let count : length xs ≡ length r = sym (length_left x xs k) ∙ ap length others in
          (k ∷ code, rw (within, is, others, count, e) refl)

  -- Every permutation is the order under some code.
  pub permutation_has_code : (xs ys : List X) → IsPermutation xs ys → (code : List ℕ) × (arranged code xs ≡ ys)
  permutation_has_code xs ys p = code_taken ys xs (permutation_takes xs ys p)

  first_two_swapped : (x y : X) (l : List X) → IsPermutation (x ∷ y ∷ l) (y ∷ x ∷ l)
  first_two_swapped x y l = IsPermutation-swap (x ∷ y ∷ l) (y ∷ x ∷ l) 0 1 (omega arith) (omega arith) refl

  -- One item goes to the front.
  to_front : (x : X) (xs : List X) (k : ℕ) → IsPermutation (x ∷ xs) (item_at x xs k ∷ others x xs k)
  to_front x [] k = IsPermutation-refl (x ∷ [])
  to_front x (y ∷ ys) zero = IsPermutation-refl (x ∷ y ∷ ys)
  to_front x (y ∷ ys) (suc k) =
      IsPermutation-trans (x ∷ y ∷ ys) (x ∷ item_at y ys k ∷ others y ys k) (item_at y ys k ∷ x ∷ others y ys k)
      (IsPermutation-cons x (y ∷ ys) (item_at y ys k ∷ others y ys k) (to_front y ys k))
      (first_two_swapped x (item_at y ys k) (others y ys k))

  within_is_permutation : (n : ℕ) (code : List ℕ) (xs : List X) → IsPermutation xs (arranged_within n code xs)
  within_is_permutation zero code xs = IsPermutation-refl xs
  within_is_permutation (suc n) code [] = IsPermutation-refl []
  within_is_permutation (suc n) code (x ∷ xs) =
      let k = head_of code % length (x ∷ xs) in
      IsPermutation-trans (x ∷ xs) (item_at x xs k ∷ others x xs k) _ (to_front x xs k)
      (IsPermutation-cons (item_at x xs k) (others x xs k) _ (within_is_permutation n (tail_of code) (others x xs k)))

  -- The order under a code is a permutation.
  pub code_is_permutation : (code : List ℕ) (xs : List X) → IsPermutation xs (arranged code xs)
  code_is_permutation code xs = within_is_permutation (length xs) code xs
