-- Keys in their order, and what they are with one more of them.
use Rattle.std.proofs.Common.{◌≡◌, refl, sym, ap, subst, inl, inr, ◌⊎◌, List, [], ◌∷◌, ◌++◌, Contains, Ordering, Less, Equal, Greater}
use Rattle.std.specs.List.{AllByRecursion}
use Rattle.std.specs.BTreeSet.{insert_key}
use Rattle.asm_build.proofs.Membership.{first_there, later_there, first_or_later, none_there}

-- How a comparison answers: by an order, and alike where two keys are the same.
abbrev pub Ways : {K : Type 0} → (K → K → Ordering) → (K → K → Type 0) → K → K → Type 0
Ways R Before k n = ((R k n ≡ Less) × Before k n) ⊎ (((R k n ≡ Equal) × (k ≡ n)) ⊎ ((R k n ≡ Greater) × Before n k))

pub record IsOrderedBy {K : Type 0} (R : K → K → Ordering) (Before : K → K → Type 0) : Type 0 where
  pub way : (k n : K) → Ways R Before k n
  pub after : (k n : K) → Before n k → R k n ≡ Greater

-- What a set with one more contains.
pub put_there : {K : Type 0} (R : K → K → Ordering) (Before : K → K → Type 0) → IsOrderedBy R Before → (k : K) (ns : List K)
    → Contains (insert_key R ns k) k
put_there R Before o k [] = first_there k []
put_there R Before o k (n ∷ ns) = by (o.way k n) (put_there R Before o k ns)
  where
    by : Ways R Before k n → Contains (insert_key R ns k) k → Contains (insert_key R (n ∷ ns) k) k
    by (inl (is, less)) later = rw is (first_there k (n ∷ ns))
    by (inr (inl (is, same))) later = rw is (subst (Contains (n ∷ ns)) (sym same) (first_there n ns))
    by (inr (inr (is, more))) later = rw is (later_there n k (insert_key R ns k) later)

pub still_there : {K : Type 0} (R : K → K → Ordering) (Before : K → K → Type 0) → IsOrderedBy R Before → (k m : K) (ns : List K)
    → Contains ns m → Contains (insert_key R ns k) m
still_there R Before o k m [] is = absurd (none_there m is)
still_there R Before o k m (n ∷ ns) has = by (o.way k n) (further (first_or_later n m ns has) (still_there R Before o k m ns))
  where
    further : (n ≡ m) ⊎ Contains ns m → (Contains ns m → Contains (insert_key R ns k) m) → Contains (n ∷ insert_key R ns k) m
    further (inl first) still = subst (Contains (n ∷ insert_key R ns k)) first (first_there n (insert_key R ns k))
    further (inr later) still = later_there n m (insert_key R ns k) (still later)

    by : Ways R Before k n → Contains (n ∷ insert_key R ns k) m → Contains (insert_key R (n ∷ ns) k) m
    by (inl (is, less)) later = rw is (later_there k m (n ∷ ns) has)
    by (inr (inl (is, same))) later = rw is has
    by (inr (inr (is, more))) later = rw is later

pub was_there : {K : Type 0} (R : K → K → Ordering) (Before : K → K → Type 0) → IsOrderedBy R Before → (k m : K) (ns : List K)
    → Contains (insert_key R ns k) m → (k ≡ m) ⊎ Contains ns m
was_there R Before o k m [] has = first_or_later k m [] has
was_there R Before o k m (n ∷ ns) has = by (o.way k n) (was_there R Before o k m ns)
  where
    in_front : (k ≡ m) ⊎ Contains ns m → (k ≡ m) ⊎ Contains (n ∷ ns) m
    in_front (inl put) = inl put
    in_front (inr before) = inr (later_there n m ns before)

    further : (n ≡ m) ⊎ Contains (insert_key R ns k) m → (Contains (insert_key R ns k) m → (k ≡ m) ⊎ Contains ns m)
        → (k ≡ m) ⊎ Contains (n ∷ ns) m
    further (inl first) was = inr (subst (Contains (n ∷ ns)) first (first_there n ns))
    further (inr later) was = in_front (was later)

    by : Ways R Before k n → (Contains (insert_key R ns k) m → (k ≡ m) ⊎ Contains ns m) → (k ≡ m) ⊎ Contains (n ∷ ns) m
    by (inl (is, less)) was = first_or_later k m (n ∷ ns) (rw is at has)
    by (inr (inl (is, same))) was = inr (rw is at has)
    by (inr (inr (is, more))) was = further (first_or_later n m (insert_key R ns k) (rw is at has)) was

-- Each comes after the one before it, the first after `low`, and something holds of each.
abbrev pub Chain : {K : Type 0} → (K → K → Type 0) → (K → Type 0) → K → List K → Type 0
Chain Before Good low [] = Unit {0}
Chain Before Good low (n ∷ ns) = Before low n × Good n × Chain Before Good n ns

-- A chain with one more inserted is a chain.
pub chain_grows : {K : Type 0} (R : K → K → Ordering) (Before : K → K → Type 0) (Good : K → Type 0) → IsOrderedBy R Before
    → (low k : K) (ns : List K) → Before low k → Good k → Chain Before Good low ns
    → Chain Before Good low (insert_key R ns k)
chain_grows R Before Good o low k [] l g c = (l, g, tt)
chain_grows R Before Good o low k (n ∷ ns) l g c = by (o.way k n) (λ more. chain_grows R Before Good o n k ns more g c.2)
  where
    by : Ways R Before k n → (Before n k → Chain Before Good n (insert_key R ns k)) → Chain Before Good low (insert_key R (n ∷ ns) k)
    by (inl (is, less)) later = rw is (l, g, (less, c.1, c.2))
    by (inr (inl (is, same))) later = rw is c
    by (inr (inr (is, more))) later = rw is (c.0, c.1, later more)

-- A key after all others goes to the end.
pub at_end : {K : Type 0} (R : K → K → Ordering) (Before : K → K → Type 0) → IsOrderedBy R Before → (ns : List K) (k : K)
    → AllByRecursion (λ n. Before n k) ns → insert_key R ns k ≡ ns ++ k ∷ []
at_end R Before o [] k h = refl
at_end R Before o (n ∷ ns) k h =
    let more : R k n ≡ Greater = o.after k n h.0 in
    rw more (ap (λ ks. n ∷ ks) (at_end R Before o ns k h.1))
