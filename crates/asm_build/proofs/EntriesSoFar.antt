-- The declared entries before a bundle, and that entries that rise are declared in turn.
use Rattle.std.proofs.Common.{◌≡◌, ◌∙◌, ℕ, zero, suc, ◌+◌, ◌<◌, ◌≤◌, false, List, [], ◌∷◌, ◌++◌, length, map, Some, Ok, Less, Equal, Greater, refl, sym, ap, inl, inr, arith, append_assoc, append-nil, length-append}
use Rattle.std.specs.Prelude.{if◌then◌else◌, slice_index, nat_lt}
use Rattle.std.specs.List.{AllByRecursion}
use Rattle.std.specs.Cmp.{nat_cmp_is}
use Rattle.std.specs.Ordering.{nat_cmp}
use Rattle.std.proofs.lemmas.Bool.{cases_order, cases_eq, ne_eqb, eq-eqb, le-ltb}
use Rattle.ia_program.specs.declared.limits.TheConstants.{ENTRY_LIMIT}
use Rattle.ia_program.specs.Programs.{IsEntryAt, AreEntries}
use Rattle.asm_printing.specs.SlotTexts.{label_text}
use Rattle.asm_build.specs.declared.address.Address.TheVariants.{Bundle}
use Rattle.asm_build.specs.declared.text_parts.EntryLine.{EntryLine}
use Rattle.asm_build.specs.CanonicalText.{is_among}
use Rattle.asm_build.specs.Names.{declared, declared_by, bundle_at, within_limit, all_declared, and_then}
use Rattle.asm_build.specs.TextParts.{Labels, address_of}
use Rattle.asm_build.proofs.KeysBelow.{below, with_key, KeysFrom, next_below}
use Rattle.asm_build.proofs.SortedSets.{Ways, IsOrderedBy, at_end}

-- Each is at least the floor, and above the one before it.
abbrev pub Rise : ℕ → List ℕ → Type 0
Rise low [] = Unit {0}
Rise low (x ∷ xs) = (low ≤ x) × Rise (x + 1) xs

-- What the n-th is above.
abbrev above_what : ℕ → List ℕ → ℕ → ℕ
above_what low xs zero = low
above_what low xs (suc n) = slice_index xs n

rise_from : (low : ℕ) (xs : List ℕ) → ((n : ℕ) → n < length xs → above_what low xs n < slice_index xs n) → Rise (low + 1) xs
rise_from low [] h = tt
rise_from low (x ∷ xs) h =
    let here : low < x = h 0 (omega arith) in
    (omega (arith, here), rise_from x xs (λ n less. after n (h (suc n) (omega (arith, less)))))
  where
    after : (n : ℕ) → above_what low (x ∷ xs) (suc n) < slice_index (x ∷ xs) (suc n) → above_what x xs n < slice_index xs n
    after zero h = h
    after (suc n) h = h

-- The entries of a program rise.
pub entries_rise : (count : ℕ) (xs : List ℕ) → AreEntries count xs → Rise 1 xs
entries_rise count xs h = rise_from 0 xs (λ n less. at n (h n less))
  where
    at : (n : ℕ) → IsEntryAt count xs n → above_what 0 xs n < slice_index xs n
    at zero e = e.rises
    at (suc n) e = e.rises

-- The entries before the n-th bundle.
abbrev pub entries_below : ℕ → List ℕ → List ℕ
entries_below n xs = below (λ m. m) n xs

never_fall : (low from : ℕ) (xs : List ℕ) → low ≤ from → Rise from xs → KeysFrom (λ m. m) low xs
never_fall low from [] h r = tt
never_fall low from (x ∷ xs) h r = (omega (arith, h, r.0), never_fall x (x + 1) xs (omega arith) r.1)

none_equal : (low n : ℕ) (xs : List ℕ) → n < low → Rise low xs → with_key (λ m. m) n xs ≡ []
none_equal low n [] h r = refl
none_equal low n (x ∷ xs) h r = rw (ne_eqb x n (λ e. omega (arith, h, r.0, e))) (none_equal (x + 1) n xs (omega (arith, h, r.0)) r.1)

equal_once : (low n : ℕ) (xs : List ℕ) → Rise low xs → with_key (λ m. m) n xs ≡ (if is_among xs n then n ∷ [] else [])
equal_once low n [] r = refl
equal_once low n (x ∷ xs) r = elim (cases_eq x n) [
  | inl same ↦ rw (eq-eqb x n same, none_equal (x + 1) n xs (omega (arith, same)) r.1) (ap (λ m. m ∷ []) same)
  | inr other ↦ rw (ne_eqb x n other) (equal_once (x + 1) n xs r.1)
]

-- One bundle more.
pub one_below : (low n : ℕ) (xs : List ℕ) → Rise low xs → entries_below (n + 1) xs
    ≡ entries_below n xs ++ (if is_among xs n then n ∷ [] else [])
one_below low n xs r =
    next_below (λ m. m) n low xs (never_fall low low xs (omega arith) r) ∙ ap (λ ys. entries_below n xs ++ ys) (equal_once low n xs r)

-- All of them, one by one.
pub each_below : (n : ℕ) (xs : List ℕ) → ((k : ℕ) → k < length xs → slice_index xs k < n) → AllByRecursion (λ m. m < n) xs
each_below n [] h = tt
each_below n (x ∷ xs) h = (h 0 (omega arith), each_below n xs (λ k less. h (suc k) (omega (arith, less))))

-- Numbers are compared by their order.
three_ways : (k n : ℕ) → Ways nat_cmp (λ i j. i < j) k n
three_ways k n = elim (cases_order k n) [
  | inl same ↦ inr (inl (sym (nat_cmp_is k n Equal same), same))
  | inr (inl less) ↦ inl (sym (nat_cmp_is k n Less less), less)
  | inr (inr more) ↦ inr (inr (sym (nat_cmp_is k n Greater more), more))
]

numbers_ordered : IsOrderedBy nat_cmp (λ i j. i < j)
numbers_ordered = record { way = three_ways; after = λ k n more. sym (nat_cmp_is k n Greater more) }

lower_all : (m n : ℕ) (xs : List ℕ) → m ≤ n → AllByRecursion (λ k. k < m) xs → AllByRecursion (λ k. k < n) xs
lower_all m n [] le h = tt
lower_all m n (x ∷ xs) le h = (omega (arith, le, h.0), lower_all m n xs le h.1)

push_below : (xs : List ℕ) (n : ℕ) → AllByRecursion (λ m. m < n) xs → AllByRecursion (λ m. m < n + 1) (xs ++ n ∷ [])
push_below [] n h = (omega arith, tt)
push_below (x ∷ xs) n h = (omega (arith, h.0), push_below xs n h.1)

one_declared : (xs : List ℕ) (n line : ℕ) → AllByRecursion (λ m. m < n) xs → 1 ≤ n → length xs < ENTRY_LIMIT
    → within_limit line (declared xs n) ≡ Ok (xs ++ n ∷ [])
one_declared xs n line h some few =
    let e : declared xs n ≡ xs ++ n ∷ [] =
    rw (ne_eqb n 0 (λ z. omega (arith, z, some))) (at_end nat_cmp (λ i j. i < j) numbers_ordered xs n h) in
    let room : nat_lt ENTRY_LIMIT (length (xs ++ n ∷ [])) ≡ false = le-ltb ENTRY_LIMIT _ (omega (arith, few, length-append xs (n ∷ []))) in
    rw (e, room) refl

-- Entries that rise, each with a line whose name is its label, are declared in turn.
pub declared_in_turn : (labels : Labels) (done rest : List ℕ) (lines : List EntryLine) → map (λ e. e.name) lines ≡ map label_text rest
    → ((k : ℕ) → k < length rest → address_of labels (label_text (slice_index rest k)) ≡ Some (Bundle (slice_index rest k)))
    → (low : ℕ) → 1 ≤ low → AllByRecursion (λ m. m < low) done → Rise low rest → length done + length rest ≤ ENTRY_LIMIT
    → all_declared labels done lines ≡ Ok (done ++ rest)
declared_in_turn labels done [] [] names found low some before rise few = ap (λ xs. Ok xs) (sym (append-nil done))
declared_in_turn labels done (n ∷ rest) [] names found low some before rise few = cc
declared_in_turn labels done [] (l ∷ lines) names found low some before rise few = cc
declared_in_turn labels done (n ∷ rest) (l ∷ lines) names found low some before rise few =
    let name : l.name ≡ label_text n = cc in
    let others : map (λ e. e.name) lines ≡ map label_text rest = cc in
    let here : address_of labels l.name ≡ Some (Bundle n) = ap (address_of labels) name ∙ found 0 (omega arith) in
    let lower = lower_all low n done rise.0 before in
    let one : declared_by (bundle_at (address_of labels l.name)) l.line done ≡ Ok (done ++ n ∷ []) =
    ap (λ o. declared_by (bundle_at o) l.line done) here ∙ one_declared done n l.line lower (omega (arith, some, rise.0))
    (omega (arith, few)) in
    ap (λ r. and_then r (λ more. all_declared labels more lines)) one
    ∙ declared_in_turn labels (done ++ n ∷ []) rest lines others (λ k less. found (suc k) (omega (arith, less))) (n + 1) (omega arith)
    (push_below done n lower) rise.1 (omega (arith, few, length-append done (n ∷ [])))
    ∙ ap (λ xs. Ok xs) (append_assoc done (n ∷ []) rest)
