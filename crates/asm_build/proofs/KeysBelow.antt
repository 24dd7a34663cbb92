-- The elements of a list whose keys are below a number, where the keys do not fall.
use Rattle.std.proofs.Common.{◌≡◌, ◌∙◌, refl, sym, ap, inl, inr, ℕ, ◌+◌, ◌<◌, ◌≤◌, ◌==◌, List, [], ◌∷◌, ◌++◌, arith}
use Rattle.std.specs.Prelude.{nat_lt, filter}
use Rattle.std.specs.List.{AllByRecursion}
use Rattle.std.proofs.lemmas.Bool.{cases_order, cases_lt, eq-eqb, ne_eqb, lt-ltb, le-ltb}

-- Those with a key below the number.
abbrev pub below : {X : Type 0} → (X → ℕ) → ℕ → List X → List X
below key n xs = filter (λ x. nat_lt (key x) n) xs

-- Those with this key.
abbrev pub with_key : {X : Type 0} → (X → ℕ) → ℕ → List X → List X
with_key key n xs = filter (λ x. key x == n) xs

-- The keys don't fall, from one on.
abbrev pub KeysFrom : {X : Type 0} → (X → ℕ) → ℕ → List X → Type 0
KeysFrom key low [] = Unit {0}
KeysFrom key low (x ∷ xs) = (low ≤ key x) × KeysFrom key (key x) xs

none_below : {X : Type 0} (key : X → ℕ) (n low : ℕ) (xs : List X) → n ≤ low → KeysFrom key low xs → below key n xs ≡ []
none_below key n low [] h from = refl
none_below key n low (x ∷ xs) h from =
    rw (le-ltb (key x) n (omega (arith, h, from.0))) (none_below key n (key x) xs (omega (arith, h, from.0)) from.1)

-- Those with the number as their key come first, where none is below it.
first_ones : {X : Type 0} (key : X → ℕ) (n low : ℕ) (xs : List X) → n ≤ low → KeysFrom key low xs → below key (n + 1) xs ≡ with_key key n xs
first_ones key n low [] h from = refl
first_ones key n low (x ∷ xs) h from = elim (cases_order (key x) n) [
  | inl same ↦ rw (lt-ltb (key x) (n + 1) (omega (arith, same)), eq-eqb (key x) n same)
      (ap (λ ys. x ∷ ys) (first_ones key n (key x) xs (omega (arith, h, from.0)) from.1))
  | inr (inl less) ↦ absurd (omega (arith, less, h, from.0))
  | inr (inr more) ↦ rw (le-ltb (key x) (n + 1) (omega (arith, more)), ne_eqb (key x) n (λ e. omega (arith, more, e)))
      (first_ones key n (key x) xs (omega (arith, h, from.0)) from.1)
]

-- One number more.
pub next_below : {X : Type 0} (key : X → ℕ) (n low : ℕ) (xs : List X) → KeysFrom key low xs
    → below key (n + 1) xs ≡ below key n xs ++ with_key key n xs
next_below key n low [] from = refl
next_below key n low (x ∷ xs) from = elim (cases_lt (key x) n) [
  | inl less ↦
      rw (lt-ltb (key x) n less, lt-ltb (key x) (n + 1) (omega (arith, less)), ne_eqb (key x) n (λ e. omega (arith, less, e)))
      (ap (λ ys. x ∷ ys) (next_below key n (key x) xs from.1))
  | inr most ↦
      let none = none_below key n n (x ∷ xs) (omega arith) (most, from.1) in
      first_ones key n n (x ∷ xs) (omega arith) (most, from.1) ∙ ap (λ ys. ys ++ with_key key n (x ∷ xs)) (sym none)
]

-- None of them is below 0.
pub none_below_zero : {X : Type 0} (key : X → ℕ) (xs : List X) → below key 0 xs ≡ []
none_below_zero key [] = refl
none_below_zero key (x ∷ xs) = rw (le-ltb (key x) 0 (omega arith)) (none_below_zero key xs)

-- All of them are.
pub all_below : {X : Type 0} (key : X → ℕ) (n : ℕ) (xs : List X) → AllByRecursion (λ x. key x < n) xs → below key n xs ≡ xs
all_below key n [] h = refl
all_below key n (x ∷ xs) h = rw (lt-ltb (key x) n h.0) (ap (λ ys. x ∷ ys) (all_below key n xs h.1))
