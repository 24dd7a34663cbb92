-- What lists contain.
use Rattle.std.proofs.Common.{◌≡◌, refl, inl, inr, ◌⊎◌, zero, suc, List, [], ◌∷◌, ◌++◌, Contains, arith}
use Rattle.std.specs.List.{AllByRecursion}

-- With one more in front.
pub first_there : {X : Type 0} (x : X) (xs : List X) → Contains (x ∷ xs) x
first_there x xs = (0, omega arith, refl)

pub later_there : {X : Type 0} (x y : X) (xs : List X) → Contains xs y → Contains (x ∷ xs) y
later_there x y xs (k, less, is) = (suc k, omega (arith, less), is)

pub first_or_later : {X : Type 0} (x y : X) (xs : List X) → Contains (x ∷ xs) y → (x ≡ y) ⊎ Contains xs y
first_or_later x y xs (zero, less, is) = inl is
first_or_later x y xs (suc k, less, is) = inr (k, omega (arith, less), is)

pub none_there : {X : Type 0} (x : X) → Contains [] x → ⊥
none_there x (k, less, is) = omega (arith, less)

-- What holds of each element.
pub all_both : {X : Type 0} (P : X → Type 0) (xs ys : List X) → AllByRecursion P xs → AllByRecursion P ys → AllByRecursion P (xs ++ ys)
all_both P [] ys a b = b
all_both P (x ∷ xs) ys a b = (a.0, all_both P xs ys a.1 b)
