-- The places of registers under rotation.
use Rattle.std.proofs.Common.{◌≡◌, ℕ, ◌+◌, ◌-◌, ◌*◌, ◌%◌, ◌<◌, ◌≤◌, ◌⊎◌, ⊎_elim, inl, inr, arith}
use Rattle.std.proofs.lemmas.Bool.{cases_lt}
use Rattle.std.proofs.lemmas.Bool.Decides.{nat_tests}
use Rattle.std.proofs.Math.Nat.{mod-eq-sub-mod, mod-eq_of_lt, mod-lt}
use Rattle.ia_meaning.specs.declared.state.FrameShape.{FrameShape}
use Rattle.ia_meaning.specs.Names.{frame_index}
use Rattle.ia_meaning.proofs.PredicateIndexes.{low_place, high_place}
use Rattle.rotation.specs.Laws.{DifferentIndexes, DifferentRotatingIndexes, DifferentPredicateIndexes, IndexesWithin, RotatingIndexesWithin}

-- A number below twice the other is cut once at most.
pub cut_once : (n m : ℕ) → n < m + m → (n % m ≡ n) × (n < m) ⊎ (n % m + m ≡ n) × (m ≤ n)
cut_once n m h =
    ⊎_elim (λ low. inl (mod-eq_of_lt low, low)) (λ high. inr (
      let e = mod-eq-sub-mod high in
          let f : (n - m) % m ≡ n - m = mod-eq_of_lt (omega arith) in omega arith,
      high,
    )) (cases_lt n m)

-- Sums with one base are cut at different places.
pub cut_apart : (k j base m : ℕ) → k < m → j < m → (base < m) ⊎ (base ≡ 0) → (k + base) % m ≡ (j + base) % m → k ≡ j
cut_apart k j base m h i b e =
    let below : base < m = omega arith in
    let first = cut_once (k + base) m (omega arith) in
    let second = cut_once (j + base) m (omega arith) in
    omega arith

pub rotating_apart : DifferentRotatingIndexes
unfolding frame_index
rotating_apart f frame k j h i differ same = differ (cut_apart k j f.rrbs.gr (8 * f.sor) h i frame.general (grind (arith, nat_tests)))

-- A place of the rotating part isn't one past it.
rotating_index : (f : FrameShape) (k : ℕ) → k < 8 * f.sor → frame_index f k < 8 * f.sor
unfolding frame_index
rotating_index f k h =
    let low : (k + f.rrbs.gr) % (8 * f.sor) < 8 * f.sor = mod-lt (k + f.rrbs.gr) (omega arith) in grind (arith, nat_tests)

still_place : (f : FrameShape) (k : ℕ) → 8 * f.sor ≤ k → frame_index f k ≡ k
unfolding frame_index
still_place f k h = grind (arith, nat_tests)

by_part : {P : Type 0} (f : FrameShape) (k : ℕ) → (k < 8 * f.sor → P) → (8 * f.sor ≤ k → P) → P
by_part f k low high = ⊎_elim low high (cases_lt k (8 * f.sor))

pub apart : DifferentIndexes
apart f frame k j h i differ same = by_part f k
    (λ low. by_part f j
    (λ low'. rotating_apart f frame k j low low' differ same)
    (λ high'. let a = rotating_index f k low in let b = still_place f j high' in omega arith))
    (λ high. let a = still_place f k high in by_part f j
    (λ low'. let b = rotating_index f j low' in omega arith)
    (λ high'. let b = still_place f j high' in differ (omega arith)))

by_number : {P : Type 0} (p : ℕ) → (p < 16 → P) → (16 ≤ p → P) → P
by_number p low high = ⊎_elim low high (cases_lt p 16)

pub predicates_apart : DifferentPredicateIndexes
predicates_apart f frame p q h i differ same = by_number p
    (λ low. let a = low_place f p low in by_number q
    (λ low'. let b = low_place f q low' in differ (omega arith))
    (λ high'. let b = high_place f q high' in omega arith))
    (λ high. let a = high_place f p high in by_number q
    (λ low'. let b = low_place f q low' in omega arith)
    (λ high'.
    let b = high_place f q high' in
    let e : (p - 16 + f.rrbs.pr) % 48 ≡ (q - 16 + f.rrbs.pr) % 48 = omega arith in
    let base = frame.predicates in
    let same_number = cut_apart (p - 16) (q - 16) f.rrbs.pr 48 (omega arith) (omega arith) (inl base) e in
    differ (omega arith)))

pub rotating_within : RotatingIndexesWithin
rotating_within f k h = rotating_index f k h

pub within : IndexesWithin
within f frame k h = by_part f k
    (λ low. let a = rotating_index f k low in let b = frame.rotating in omega arith)
    (λ high. let a = still_place f k high in omega arith)
