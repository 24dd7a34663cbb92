-- The declared entries rise, are bundles of the program, and are no more than it may have.
use Rattle.std.proofs.Common.{◌≡◌, refl, sym, subst, inl, inr, ℕ, zero, suc, ◌<◌, ◌≤◌, true, false, List, [], ◌∷◌, length, Option, Some, None, Result, Ok, Err, arith}
use Rattle.std.specs.Prelude.{IfSome, IfOk, slice_index, nat_lt, if◌then◌else◌}
use Rattle.std.specs.List.{AllByRecursion}
use Rattle.std.specs.Map.{values_of}
use Rattle.std.specs.BTreeSet.{insert_key}
use Rattle.std.specs.Ordering.{nat_cmp}
use Rattle.std.specs.Cmp.{nat_cmp_is}
use Rattle.std.specs.declared.cmp.Ordering.TheVariants.{Less, Equal, Greater}
use Rattle.std.proofs.lemmas.Bool.{cases_order, cases_eq, ne_eqb, ltb-false}
use Rattle.ia_program.specs.declared.limits.TheConstants.{ENTRY_LIMIT}
use Rattle.ia_program.specs.Programs.{AreEntries}
use Rattle.asm_build.specs.declared.address.Address.{Address}
use Rattle.asm_build.specs.declared.address.Address.TheVariants as address
use Rattle.asm_build.specs.declared.text_parts.EntryLine.{EntryLine}
use Rattle.asm_build.specs.declared.reason.Reason.TheVariants.{Limit}
use Rattle.asm_build.specs.declared.reason.TextError.{TextError}
use Rattle.asm_build.specs.declared.reason.TextError.TheVariants as error
use Rattle.asm_build.specs.Addresses.{IsInside}
use Rattle.asm_build.specs.Names.{bundle_at, declared, within_limit, declared_by, and_then, all_declared}
use Rattle.asm_build.specs.TextParts.{Labels, address_of}
use Rattle.asm_build.proofs.LabelValues.{label_within}

-- The numbers rise strictly from above `low`, and stay below `count`.
abbrev pub RiseFrom : ℕ → ℕ → List ℕ → Type 0
RiseFrom low count [] = Unit {0}
RiseFrom low count (n ∷ ns) = (low < n) × (n < count) × RiseFrom n count ns

-- Rising numbers with one more inserted still rise.
inserted : (low count k : ℕ) (ns : List ℕ) → low < k → k < count → RiseFrom low count ns → RiseFrom low count (insert_key nat_cmp ns k)
inserted low count k [] l c rise = (l, c, tt)
inserted low count k (n ∷ ns) l c rise = elim (cases_order k n) [
  | inl same ↦ rw (sym (nat_cmp_is k n Equal same)) rise
  | inr (inl less) ↦ rw (sym (nat_cmp_is k n Less less)) (l, c, (less, rise.1, rise.2))
  | inr (inr more) ↦ rw (sym (nat_cmp_is k n Greater more)) (rise.0, rise.1, inserted n count k ns more c rise.2)
]

-- Entries that rise, and are no more than a program may have.
abbrev pub AreGood : ℕ → List ℕ → Type 0
AreGood count ns = RiseFrom 0 count ns × (length ns ≤ ENTRY_LIMIT)

declared_rise : (count n : ℕ) (entries : List ℕ) → n < count → RiseFrom 0 count entries → RiseFrom 0 count (declared entries n)
declared_rise count n entries h rise = elim (cases_eq n 0) [
  | inl first ↦ rw first rise
  | inr other ↦ rw (ne_eqb n 0 other) (inserted 0 count n entries (omega (arith, other)) h rise)
]

limited : (count line : ℕ) (ns : List ℕ) → RiseFrom 0 count ns → IfOk (within_limit line ns) (AreGood count)
limited count line ns rise =
    elim (nat_lt ENTRY_LIMIT (length ns)) as (λ b. nat_lt ENTRY_LIMIT (length ns) ≡ b
    → IfOk (if b then Err (error.Fault line Limit) else Ok ns) (AreGood count)) [
      | true ↦ λ e. tt
      | false ↦ λ e. (rise, ltb-false ENTRY_LIMIT (length ns) e)
    ] refl

one_declared : (count line : ℕ) (o : Option Address) (entries : List ℕ) → IfSome o (IsInside count) → AreGood count entries
    → IfOk (declared_by (bundle_at o) line entries) (AreGood count)
one_declared count line None entries h good = tt
one_declared count line (Some (address.Bundle n)) entries h good =
    limited count line (declared entries n) (declared_rise count n entries h good.0)
one_declared count line (Some (address.Byte at)) entries h good = tt

same_good : (count : ℕ) (entries out : List ℕ) (r : Result (List ℕ) TextError) → r ≡ Ok entries → AreGood count entries → r ≡ Ok out
    → AreGood count out
same_good count entries out r is good e = let same : entries ≡ out = cc in subst (AreGood count) same good

-- A result that is good, and goes on to one that is.
then_good : (count : ℕ) (out : List ℕ) (r : Result (List ℕ) TextError) (next : List ℕ → Result (List ℕ) TextError) → IfOk r (AreGood count)
    → ((more : List ℕ) → AreGood count more → next more ≡ Ok out → AreGood count out) → and_then r next ≡ Ok out → AreGood count out
then_good count out (Ok more) next good go e = go more good e
then_good count out (Err why) next good go e = cc

-- Those that lines name are good.
pub declared_good : (labels : Labels) (count : ℕ) (entries out : List ℕ) (lines : List EntryLine)
    → AllByRecursion (IsInside count) (values_of labels)
    → AreGood count entries → all_declared labels entries lines ≡ Ok out → AreGood count out
declared_good labels count entries out [] inside good e = same_good count entries out (Ok entries) refl good e
declared_good labels count entries out (l ∷ ls) inside good e =
    then_good count out (declared_by (bundle_at (address_of labels l.name)) l.line entries) (λ more. all_declared labels more ls)
    (one_declared count l.line (address_of labels l.name) entries (label_within (IsInside count) labels l.name inside) good)
    (λ more also f. declared_good labels count more out ls inside also f)
    e

floor_from : ℕ → List ℕ → ℕ → ℕ
floor_from low ns zero = low
floor_from low ns (suc n) = slice_index ns n

places_rise : (count low : ℕ) (ns : List ℕ) → RiseFrom low count ns → (n : ℕ) → n < length ns
    → (floor_from low ns n < slice_index ns n) × (slice_index ns n < count)
unfolding floor_from
places_rise count low [] rise n h = absurd (omega arith)
places_rise count low (m ∷ ns) rise zero h = (rise.0, rise.1)
places_rise count low (m ∷ ns) rise (suc zero) h = places_rise count m ns rise.2 0 (omega arith)
places_rise count low (m ∷ ns) rise (suc (suc n)) h = places_rise count m ns rise.2 (suc n) (omega arith)

-- Entries that rise are entries of a program.
pub entries_of_rising : (count : ℕ) (ns : List ℕ) → RiseFrom 0 count ns → AreEntries count ns
unfolding floor_from
entries_of_rising count ns rise zero h = let p = places_rise count 0 ns rise zero h in record { rises = p.0; inside = p.1 }
entries_of_rising count ns rise (suc n) h = let p = places_rise count 0 ns rise (suc n) h in record { rises = p.0; inside = p.1 }
