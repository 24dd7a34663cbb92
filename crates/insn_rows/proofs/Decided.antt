-- Facts of which it is decided whether they hold.
use Rattle.std.proofs.Common.{◌≡◌, ◌≢◌, ◌⊎◌, inl, inr, refl, ℕ, zero, suc, List, [], ◌∷◌, Option, Some, None, IsSome, IsSomeAnd, IfSome, Contains, arith}
use Rattle.std.proofs.Math.Decide.{ℕ_discrete}
use Rattle.std.specs.List.{AllByRecursion}

-- A fact that follows from a decided one, and the other way round.
pub alike : {P Q : Type 0} → Dec P → (P → Q) → (Q → P) → Dec Q
alike (yes p) to from = yes (to p)
alike (no never) to from = no (λ q. never (from q))

pub opposite : {P : Type 0} → Dec P → Dec (¬ P)
opposite (yes p) = no (λ never. never p)
opposite (no never) = yes never

pub either : {P Q : Type 0} → Dec P → Dec Q → Dec (P ⊎ Q)
either (yes p) q = yes (inl p)
either (no never) (yes q) = yes (inr q)
either (no never) (no nor) = no (λ h. elim h [ inl p ↦ never p | inr q ↦ nor q ])

-- Two facts together, three, four and five.
pub both : {P Q : Type 0} → Dec P → Dec Q → Dec (P × Q)
both (yes p) (yes q) = yes (p, q)
both (yes p) (no never) = no (λ h. never h.1)
both (no never) q = no (λ h. never h.0)

pub three : {P Q R : Type 0} → Dec P → Dec (Q × R) → Dec (P × Q × R)
three p q = alike (both p q) (λ h. (h.0, h.1.0, h.1.1)) (λ h. (h.0, (h.1, h.2)))

pub four : {P Q R S : Type 0} → Dec P → Dec (Q × R × S) → Dec (P × Q × R × S)
four p q = alike (both p q) (λ h. (h.0, h.1.0, h.1.1, h.1.2)) (λ h. (h.0, (h.1, h.2, h.3)))

pub differ : (m n : ℕ) → Dec (m ≢ n)
differ m n = opposite (ℕ_discrete m n)

-- Of what may be there.
pub is_none : {T : Type 0} (o : Option T) → Dec (o ≡ None)
is_none None = yes refl
is_none (Some x) = no (λ e. cc)

pub some : {T : Type 0} (o : Option T) → Dec (IsSome o)
some None = no (λ e. cc)
some (Some x) = yes refl

pub some_and : {T : Type 0} {P : T → Type 0} (o : Option T) → ((x : T) → Dec (P x)) → Dec (IsSomeAnd o P)
some_and None each = no (λ h. h)
some_and (Some x) each = each x

pub if_some : {T : Type 0} {P : T → Type 0} (o : Option T) → ((x : T) → Dec (P x)) → Dec (IfSome o P)
if_some None each = yes tt
if_some (Some x) each = each x

-- Of the elements of a list.
pub all : {T : Type 0} {P : T → Type 0} (xs : List T) → ((x : T) → Dec (P x)) → Dec (AllByRecursion P xs)
all [] each = yes tt
all (x ∷ xs) each = both (each x) (all xs each)

pub contains : (xs : List ℕ) (x : ℕ) → Dec (Contains xs x)
contains [] x = no (λ h. omega (arith, h.1))
contains (y ∷ ys) x = alike (either (ℕ_discrete y x) (contains ys x)) to from
  where
    to : (y ≡ x) ⊎ Contains ys x → Contains (y ∷ ys) x
    to (inl same) = (zero, omega arith, same)
    to (inr (k, inside, is)) = (suc k, omega (arith, inside), is)

    from : Contains (y ∷ ys) x → (y ≡ x) ⊎ Contains ys x
    from (zero, inside, is) = inl is
    from (suc k, inside, is) = inr (k, omega (arith, inside), is)
