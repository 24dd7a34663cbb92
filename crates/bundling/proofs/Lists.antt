-- Elements of parts of lists by their numbers.
use Rattle.std.proofs.Common.{arith, ◌≡◌, ℕ, zero, suc, ◌+◌, ◌<◌, ◌∙◌, refl, ap, suc-add, List, [], ◌∷◌, ◌++◌, take, drop, length, Some, slice_get}

pub slice_get-take : {X : Type 0} (m : ℕ) (xs : List X) (j : ℕ) → j < m → slice_get (take m xs) j ≡ slice_get xs j
slice_get-take zero xs j less = absurd (omega arith)
slice_get-take (suc m) [] j less = refl
slice_get-take (suc m) (x ∷ xs) zero less = refl
slice_get-take (suc m) (x ∷ xs) (suc j) less = slice_get-take m xs j (omega arith)

pub slice_get-drop : {X : Type 0} (h : ℕ) (xs : List X) (j : ℕ) → slice_get (drop h xs) j ≡ slice_get xs (h + j)
slice_get-drop zero xs j = ap (slice_get xs) (omega arith)
slice_get-drop (suc h) [] j = refl
slice_get-drop (suc h) (x ∷ xs) j = rw suc-add (slice_get-drop h xs j)

-- Of n from one on.
pub slice_get-part : {X : Type 0} (m h : ℕ) (xs : List X) (j : ℕ) → j < m → slice_get (take m (drop h xs)) j ≡ slice_get xs (h + j)
slice_get-part m h xs j less = slice_get-take m (drop h xs) j less ∙ slice_get-drop h xs j

pub slice_get-append_left : {X : Type 0} (xs ys : List X) (j : ℕ) → j < length xs → slice_get (xs ++ ys) j ≡ slice_get xs j
slice_get-append_left [] ys j less = absurd (omega arith)
slice_get-append_left (x ∷ xs) ys zero less = refl
slice_get-append_left (x ∷ xs) ys (suc j) less = slice_get-append_left xs ys j (omega arith)

pub slice_get-append_right : {X : Type 0} (xs ys : List X) (j : ℕ) → slice_get (xs ++ ys) (length xs + j) ≡ slice_get ys j
slice_get-append_right [] ys j = ap (slice_get ys) (omega arith)
slice_get-append_right (x ∷ xs) ys j = rw suc-add (slice_get-append_right xs ys j)

-- The element that there is.
pub element : {X : Type 0} (xs : List X) (j : ℕ) → j < length xs → (x : X) × (slice_get xs j ≡ Some x)
element [] j less = absurd (omega arith)
element (x ∷ xs) zero less = (x, refl)
element (x ∷ xs) (suc j) less = element xs j (omega arith)
