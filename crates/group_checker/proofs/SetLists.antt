-- The resources of a set as a list: what it has, and its order.
use Rattle.std.proofs.Common.{◌≡◌, ℕ, zero, suc, ◌+◌, ◌<◌, ◌≤◌, Bool, true, false, cond, List, [], ◌∷◌, ◌++◌, refl, sym, ap, ◌∙◌, subst, arith, inl, inr}
use Rattle.std.specs.Prelude.{Contains, filter, map, nat_lt}
use Rattle.std.specs.declared.cmp.Ordering.{Ordering}
use Rattle.std.specs.declared.cmp.Ordering.TheVariants.{Less}
use Rattle.std.specs.List.{AllByRecursion as Each}
use Rattle.std.specs.List.Sorted.{IsStrictlySortedBy}
use Rattle.std.specs.Ordering.{nat_cmp}
use Rattle.std.proofs.lemmas.Bool.{cases_eq, and_parts, ltb-true}
use Rattle.std.proofs.lemmas.Bool.Decides.{nat_tests}
use Rattle.std.proofs.lemmas.List.Elements.{Contains-append_left, Contains-append_right, Contains-append_cases}
use Rattle.std.proofs.lemmas.List.Kept.{IsStrictlySortedBy-filter}
use Rattle.ia_meaning.specs.Arithmetic.{bit}
use Rattle.resource_sets.specs.declared.access.Resource.{Resource}
use Rattle.resource_sets.specs.declared.access.Resource.TheVariants.{Gr, Pr, Br, Unat, Pfs, Lc, Ec, Cfm}
use Rattle.resource_sets.specs.declared.sets.ResourceSet.{ResourceSet}
use Rattle.resource_sets.specs.ResourceSets.{has_resource, numbered, others, resources_in}
use Rattle.resource_sets.proofs.Members.{not_in_none, cases_in, in_head, in_tail, head_in}
use Rattle.group_checker.specs.Order.{resource_cmp}
use Rattle.order_laws.proofs.Untouched.{each_append}

pub each_of : {X : Type 0} (P : X → Type 0) (xs : List X) → ((x : X) → Contains xs x → P x) → Each P xs
each_of P [] h = tt
each_of P (x ∷ xs) h = (h x (head_in x xs), each_of P xs (λ y c. h y (in_tail x y xs c)))

-- What holds of each element holds of this one.
pub in_each : {X : Type 0} (P : X → Type 0) (xs : List X) (x : X) → Each P xs → Contains xs x → P x
in_each P [] x h c = absurd (not_in_none x c)
in_each P (y ∷ ys) x h c = elim (cases_in y x ys c) [ inl e ↦ subst P e h.0 | inr d ↦ in_each P ys x h.1 d ]

-- Sorted lists of which the first is before the second are sorted together.
pub sorted_append : {X : Type 0} (cmp : X → X → Ordering) (xs ys : List X) → IsStrictlySortedBy cmp xs → IsStrictlySortedBy cmp ys
    → ((x y : X) → Contains xs x → Contains ys y → cmp x y ≡ Less) → IsStrictlySortedBy cmp (xs ++ ys)
unfolding IsStrictlySortedBy
sorted_append cmp [] ys a b h = b
sorted_append cmp (x ∷ xs) ys a b h = (
  each_append (λ y. cmp x y ≡ Less) xs ys a.0 (each_of (λ y. cmp x y ≡ Less) ys (λ y c. h x y (head_in x xs) c)),
  sorted_append cmp xs ys a.1 b (λ z y c d. h z y (in_tail x z xs c) d),
)

each_mapped : {X Y : Type 0} (g : X → Y) (P : X → Type 0) (Q : Y → Type 0) → ((x : X) → P x → Q (g x)) → (xs : List X) → Each P xs
    → Each Q (map g xs)
each_mapped g P Q f [] h = tt
each_mapped g P Q f (x ∷ xs) h = (f x h.0, each_mapped g P Q f xs h.1)

-- The image of a sorted list in the same order.
pub sorted_map : {X Y : Type 0} (g : X → Y) (cmp : X → X → Ordering) (order : Y → Y → Ordering) → ((x y : X) → order (g x) (g y) ≡ cmp x y)
    → (xs : List X) → IsStrictlySortedBy cmp xs → IsStrictlySortedBy order (map g xs)
unfolding IsStrictlySortedBy
sorted_map g cmp order same [] h = tt
sorted_map g cmp order same (x ∷ xs) h =
    (each_mapped g (λ y. cmp x y ≡ Less) (λ y. order (g x) y ≡ Less) (λ y e. same x y ∙ e) xs h.0, sorted_map g cmp order same xs h.1)

-- What a filter lets through.
in_filter : {X : Type 0} (p : X → Bool) (xs : List X) (x : X) → Contains xs x → p x ≡ true → Contains (filter p xs) x
in_filter p [] x c h = absurd (not_in_none x c)
in_filter {X} p (y ∷ ys) x c h = elim (cases_in y x ys c) [
  | inl e ↦ rw (ap p e ∙ h) (in_head y x (filter p ys) e)
  | inr d ↦ on (p y) (in_filter p ys x d h)
]
  where
    on : (b : Bool) → Contains (filter p ys) x → Contains (cond b (y ∷ filter p ys) (filter p ys)) x
    on true k = in_tail y x (filter p ys) k
    on false k = k

from_filter : {X : Type 0} (p : X → Bool) (xs : List X) (x : X) → Contains (filter p xs) x → Contains xs x × (p x ≡ true)
from_filter p [] x c = absurd (not_in_none x c)
from_filter {X} p (y ∷ ys) x c = of (p y) refl c (from_filter p ys x)
  where
    of : (b : Bool) → p y ≡ b → Contains (cond b (y ∷ filter p ys) (filter p ys)) x
        → (Contains (filter p ys) x → Contains ys x × (p x ≡ true)) → Contains (y ∷ ys) x × (p x ≡ true)
    of true t k rest = elim (cases_in y x (filter p ys) k) [
      | inl e ↦ (in_head y x ys e, sym (ap p e) ∙ t)
      | inr d ↦ (let h = rest d in (in_tail y x ys h.0, h.1))
    ]
    of false t k rest = let h = rest k in (in_tail y x ys h.0, h.1)

-- The numbers of a sort.
in_numbered : (sort : ℕ → Resource) (left n m : ℕ) → n ≤ m → m < n + left → Contains (numbered sort left n) (sort m)
unfolding numbered
in_numbered sort zero n m i j = absurd (omega arith)
in_numbered sort (suc left) n m i j = elim (cases_eq n m) [
  | inl e ↦ in_head (sort n) (sort m) (numbered sort left (suc n)) (ap sort e)
  | inr d ↦ in_tail (sort n) (sort m) (numbered sort left (suc n)) (in_numbered sort left (suc n) m (omega arith) (omega arith))
]

from_numbered : (sort : ℕ → Resource) (left n : ℕ) (q : Resource) → Contains (numbered sort left n) q → (m : ℕ) × (n ≤ m) × (sort m ≡ q)
unfolding numbered
from_numbered sort zero n q c = absurd (not_in_none q c)
from_numbered sort (suc left) n q c = elim (cases_in (sort n) q (numbered sort left (suc n)) c) [
  | inl e ↦ (n, omega arith, e)
  | inr d ↦ (let (m, l, e) = from_numbered sort left (suc n) q d in (m, omega arith, e))
]

less : (n m : ℕ) → n < m → nat_cmp n m ≡ Less
less n m l = grind (arith, nat_tests)

sorted_numbered : (sort : ℕ → Resource) → ((m n : ℕ) → resource_cmp (sort m) (sort n) ≡ nat_cmp m n) → (left n : ℕ)
    → IsStrictlySortedBy resource_cmp (numbered sort left n)
unfolding numbered IsStrictlySortedBy
sorted_numbered sort same zero n = tt
sorted_numbered sort same (suc left) n = (
  each_of (λ y. resource_cmp (sort n) y ≡ Less) (numbered sort left (suc n)) (λ y c.
      let (m, l, e) = from_numbered sort left (suc n) y c in
      subst (λ (q : Resource). resource_cmp (sort n) q ≡ Less) e (same n m ∙ less n m (omega arith))),
  sorted_numbered sort same left (suc n),
)

sorted_others : IsStrictlySortedBy resource_cmp others
unfolding IsStrictlySortedBy
sorted_others = ((refl, (refl, (refl, (refl, tt)))), ((refl, (refl, (refl, tt))), ((refl, (refl, tt)), ((refl, tt), (tt, tt)))))

-- Resources of two sorts.
apart : (p : Resource → Bool) (sort next : ℕ → Resource) (a b : ℕ) → ((m n : ℕ) → resource_cmp (sort m) (next n) ≡ Less) → (x y : Resource)
    → Contains (filter p (numbered sort a 0)) x → Contains (filter p (numbered next b 0)) y → resource_cmp x y ≡ Less
apart p sort next a b h x y c d =
    let (m, _, e) = from_numbered sort a 0 x (from_filter p (numbered sort a 0) x c).0 in
    let (n, _, f) = from_numbered next b 0 y (from_filter p (numbered next b 0) y d).0 in
    subst (λ (q : Resource). resource_cmp q y ≡ Less) e (subst (λ (r : Resource). resource_cmp (sort m) r ≡ Less) f (h m n))

-- Resources that have no number come last.
last : (p : Resource → Bool) (sort : ℕ → Resource) (a : ℕ) → ((m : ℕ) → Each (λ q. resource_cmp (sort m) q ≡ Less) others)
    → (x y : Resource) → Contains (filter p (numbered sort a 0)) x → Contains (filter p others) y → resource_cmp x y ≡ Less
last p sort a h x y c d =
    let (m, _, e) = from_numbered sort a 0 x (from_filter p (numbered sort a 0) x c).0 in
    subst (λ (q : Resource). resource_cmp q y ≡ Less) e (in_each (λ q. resource_cmp (sort m) q ≡ Less) others y (h m)
    (from_filter p others y d).0)

-- The list of the resources of a set rises.
pub resources_rise : (s : ResourceSet) → IsStrictlySortedBy resource_cmp (resources_in s)
unfolding resources_in
resources_rise s =
    let p : Resource → Bool = has_resource s in
    let g = filter p (numbered Gr 128 0) in
    let r = filter p (numbered Pr 64 0) in
    let b = filter p (numbered Br 8 0) in
    let o = filter p others in
    let sorted : (sort : ℕ → Resource) → ((m n : ℕ) → resource_cmp (sort m) (sort n) ≡ nat_cmp m n) → (left : ℕ)
    → IsStrictlySortedBy resource_cmp (filter p (numbered sort left 0))
    = λ sort same left. IsStrictlySortedBy-filter resource_cmp p (numbered sort left 0) (sorted_numbered sort same left 0) in
    sorted_append resource_cmp ((g ++ r) ++ b) o
    (sorted_append resource_cmp (g ++ r) b
    (sorted_append resource_cmp g r (sorted Gr (λ m n. refl) 128) (sorted Pr (λ m n. refl) 64) (apart p Gr Pr 128 64 (λ m n. refl)))
    (sorted Br (λ m n. refl) 8)
    (λ x y c d. elim (Contains-append_cases g r x c) [
      | inl k ↦ apart p Gr Br 128 8 (λ m n. refl) x y k d
      | inr k ↦ apart p Pr Br 64 8 (λ m n. refl) x y k d
    ]))
    (IsStrictlySortedBy-filter resource_cmp p others sorted_others)
    (λ x y c d. elim (Contains-append_cases (g ++ r) b x c) [
      | inl i ↦ elim (Contains-append_cases g r x i) [
        | inl k ↦ last p Gr 128 (λ m. (refl, (refl, (refl, (refl, (refl, tt)))))) x y k d
        | inr k ↦ last p Pr 64 (λ m. (refl, (refl, (refl, (refl, (refl, tt)))))) x y k d
      ]
      | inr k ↦ last p Br 8 (λ m. (refl, (refl, (refl, (refl, (refl, tt)))))) x y k d
    ])

-- The list has what the set has.
module _ (s : ResourceSet) where
  abbrev of : List Resource → List Resource
  of all = filter (has_resource s) all

  in_last : (q : Resource) → Contains others q → has_resource s q ≡ true → Contains (resources_in s) q
  unfolding resources_in
  in_last q c h =
      Contains-append_right ((of (numbered Gr 128 0) ++ of (numbered Pr 64 0)) ++ of (numbered Br 8 0))
      (of others) q (in_filter (has_resource s) others q c h)

  pub in_resources : (q : Resource) → has_resource s q ≡ true → Contains (resources_in s) q
  unfolding resources_in
  in_resources (Gr n) h =
      let l : n < 128 = ltb-true n 128 (and_parts (nat_lt n 128) (bit s.registers n) h).0 in
      Contains-append_left ((of (numbered Gr 128 0) ++ of (numbered Pr 64 0)) ++ of (numbered Br 8 0)) (of others) (Gr n)
      (Contains-append_left (of (numbered Gr 128 0) ++ of (numbered Pr 64 0)) (of (numbered Br 8 0)) (Gr n)
      (Contains-append_left (of (numbered Gr 128 0)) (of (numbered Pr 64 0)) (Gr n)
      (in_filter (has_resource s) (numbered Gr 128 0) (Gr n) (in_numbered Gr 128 0 n (omega arith) (omega arith)) h)))
  in_resources (Pr n) h =
      let l : n < 64 = ltb-true n 64 (and_parts (nat_lt n 64) (bit s.predicates n) h).0 in
      Contains-append_left ((of (numbered Gr 128 0) ++ of (numbered Pr 64 0)) ++ of (numbered Br 8 0)) (of others) (Pr n)
      (Contains-append_left (of (numbered Gr 128 0) ++ of (numbered Pr 64 0)) (of (numbered Br 8 0)) (Pr n)
      (Contains-append_right (of (numbered Gr 128 0)) (of (numbered Pr 64 0)) (Pr n)
      (in_filter (has_resource s) (numbered Pr 64 0) (Pr n) (in_numbered Pr 64 0 n (omega arith) (omega arith)) h)))
  in_resources (Br n) h =
      let l : n < 8 = ltb-true n 8 (and_parts (nat_lt n 8) (bit s.branches n) h).0 in
      Contains-append_left ((of (numbered Gr 128 0) ++ of (numbered Pr 64 0)) ++ of (numbered Br 8 0)) (of others) (Br n)
      (Contains-append_right (of (numbered Gr 128 0) ++ of (numbered Pr 64 0)) (of (numbered Br 8 0)) (Br n)
      (in_filter (has_resource s) (numbered Br 8 0) (Br n) (in_numbered Br 8 0 n (omega arith) (omega arith)) h))
  in_resources Unat h = in_last Unat (0, omega arith, refl) h
  in_resources Pfs h = in_last Pfs (1, omega arith, refl) h
  in_resources Lc h = in_last Lc (2, omega arith, refl) h
  in_resources Ec h = in_last Ec (3, omega arith, refl) h
  in_resources Cfm h = in_last Cfm (4, omega arith, refl) h

-- The list has nothing but what the set has.
pub from_resources : (s : ResourceSet) (q : Resource) → Contains (resources_in s) q → has_resource s q ≡ true
unfolding resources_in
from_resources s q c =
    let p : Resource → Bool = has_resource s in
    let g = filter p (numbered Gr 128 0) in
    let r = filter p (numbered Pr 64 0) in
    let b = filter p (numbered Br 8 0) in
    elim (Contains-append_cases ((g ++ r) ++ b) (filter p others) q c) [
      | inl i ↦ elim (Contains-append_cases (g ++ r) b q i) [
        | inl j ↦ elim (Contains-append_cases g r q j) [
          | inl k ↦ (from_filter p (numbered Gr 128 0) q k).1
          | inr k ↦ (from_filter p (numbered Pr 64 0) q k).1
        ]
        | inr k ↦ (from_filter p (numbered Br 8 0) q k).1
      ]
      | inr k ↦ (from_filter p others q k).1
    ]
