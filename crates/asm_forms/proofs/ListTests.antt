-- Tests of each element of a list.
use Rattle.std.proofs.Common.{◌≡◌, refl, ℕ, zero, suc, Bool, true, false, cond, List, [], ◌∷◌, ◌++◌, take, map, Some}
use Rattle.std.specs.Prelude.{flat_map}
use Rattle.std.specs.List.{find, list_all}
use Rattle.std.proofs.lemmas.Bool.{and_from}
use Rattle.ia_program.proofs.Tests.{left, right}

-- Of those at the front.
pub all_take : {A : Type 0} (p : A → Bool) (i : ℕ) (xs : List A) → list_all p xs ≡ true → list_all p (take i xs) ≡ true
all_take p zero xs h = refl
all_take p (suc i) [] h = refl
all_take p (suc i) (x ∷ xs) h = and_from _ _ (left _ _ h) (all_take p i xs (right _ _ h))

-- What follows of two tests of one, holds of all where both tests do.
pub all_both : {A : Type 0} (p q s : A → Bool) → ((x : A) → p x ≡ true → q x ≡ true → s x ≡ true) → (xs : List A) → list_all p xs ≡ true
    → list_all q xs ≡ true → list_all s xs ≡ true
all_both p q s f [] h k = refl
all_both p q s f (x ∷ xs) h k = and_from _ _ (f x (left _ _ h) (left _ _ k)) (all_both p q s f xs (right _ _ h) (right _ _ k))

-- Of the one that is found.
pub all_found : {A : Type 0} (p q : A → Bool) (xs : List A) (x : A) → list_all p xs ≡ true → find q xs ≡ Some x → p x ≡ true
all_found p q [] x h e = cc
all_found p q (y ∷ ys) x h e =
    elim (q y) as (λ b. cond b (Some y) (find q ys) ≡ Some x → p x ≡ true) [
      | true ↦ λ k. let a : p y ≡ true = left _ _ h in cc
      | false ↦ λ k. all_found p q ys x (right _ _ h) k
    ] e

all_append : {A : Type 0} (p : A → Bool) (xs ys : List A) → list_all p (xs ++ ys) ≡ true → (list_all p xs ≡ true) × (list_all p ys ≡ true)
all_append p [] ys h = (refl, h)
all_append p (x ∷ xs) ys h = let r = all_append p xs ys (right _ _ h) in (and_from _ _ (left _ _ h) r.0, r.1)

-- Of lists that are joined, and of what is made of each.
pub all_flat : {A B : Type 0} (p : B → Bool) (f : A → List B) (xs : List A) → list_all p (flat_map f xs) ≡ true
    → list_all (λ x. list_all p (f x)) xs ≡ true
all_flat p f [] h = refl
all_flat p f (x ∷ xs) h = let r = all_append p (f x) (flat_map f xs) h in and_from _ _ r.0 (all_flat p f xs r.1)

pub all_map : {A B : Type 0} (p : B → Bool) (f : A → B) (xs : List A) → list_all p (map f xs) ≡ true → list_all (λ x. p (f x)) xs ≡ true
all_map p f [] h = refl
all_map p f (x ∷ xs) h = and_from _ _ (left _ _ h) (all_map p f xs (right _ _ h))
