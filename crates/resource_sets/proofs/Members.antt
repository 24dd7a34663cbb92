-- What lists contain.
use Rattle.std.proofs.Common.{◌≡◌, zero, suc, ◌⊎◌, Bool, true, List, [], ◌∷◌, refl, sym, arith, inl, inr, ap, subst, true≢false}
use Rattle.std.specs.Prelude.{Contains, map}
use Rattle.std.specs.List.{list_any}
use Rattle.std.proofs.lemmas.Bool.{or_cases, or_left, or_right}

-- The empty list has no element.
pub not_in_none : {A : Type 0} (x : A) → Contains [] x → ⊥
not_in_none x c = omega (arith, c.1)

-- An element is the first or one of the others.
pub cases_in : {A : Type 0} (x y : A) (xs : List A) → Contains (x ∷ xs) y → (x ≡ y) ⊎ Contains xs y
cases_in x y xs (zero, l, e) = inl e
cases_in x y xs (suc k, l, e) = inr (k, omega arith, e)

-- The first is an element.
pub in_head : {A : Type 0} (x y : A) (xs : List A) → x ≡ y → Contains (x ∷ xs) y
in_head x y xs e = (0, omega arith, e)

-- An element of the rest is an element of the list.
pub in_tail : {A : Type 0} (x y : A) (xs : List A) → Contains xs y → Contains (x ∷ xs) y
in_tail x y xs (k, l, e) = (suc k, omega arith, e)

-- The first element.
pub head_in : {A : Type 0} (x : A) (xs : List A) → Contains (x ∷ xs) x
head_in x xs = in_head x x xs refl

-- What the image of a list has.
pub in_map : {X Y : Type 0} (g : X → Y) (xs : List X) (x : X) → Contains xs x → Contains (map g xs) (g x)
in_map g [] x c = absurd (not_in_none x c)
in_map g (y ∷ ys) x c =
    elim (cases_in y x ys c) [ inl e ↦ in_head (g y) (g x) (map g ys) (ap g e) | inr d ↦ in_tail (g y) (g x) (map g ys) (in_map g ys x d) ]

pub from_map : {X Y : Type 0} (g : X → Y) (xs : List X) (y : Y) → Contains (map g xs) y → (x : X) × Contains xs x × (g x ≡ y)
from_map g [] y c = absurd (not_in_none y c)
from_map g (x ∷ xs) y c = elim (cases_in (g x) y (map g xs) c) [
  | inl e ↦ (x, head_in x xs, e)
  | inr d ↦ (let (z, m, e) = from_map g xs y d in (z, in_tail x z xs m, e))
]

-- An element that passes a test.
pub any_of : {X : Type 0} (p : X → Bool) (xs : List X) (x : X) → Contains xs x → p x ≡ true → list_any p xs ≡ true
any_of p [] x c h = absurd (not_in_none x c)
any_of {X} p (y ∷ ys) x c h = elim (cases_in y x ys c) [
  | inl e ↦ or_left (p y) (list_any p ys) (subst (λ (z : X). p z ≡ true) (sym e) h)
  | inr d ↦ or_right (p y) (list_any p ys) (any_of p ys x d h)
]

pub some_of : {X : Type 0} (p : X → Bool) (xs : List X) → list_any p xs ≡ true → (x : X) × Contains xs x × (p x ≡ true)
some_of p [] h = absurd (true≢false (sym h))
some_of p (y ∷ ys) h = elim (or_cases (p y) (list_any p ys) h) [
  | inl e ↦ (y, head_in y ys, e)
  | inr e ↦ (let (x, c, t) = some_of p ys e in (x, in_tail y x ys c, t))
]
