-- How many of the latest bundles want no stop.
use Rattle.std.proofs.Common.{◌≡◌, ◌+◌, ◌≤◌, ℕ, zero, suc, Bool, true, false, ◌&&◌, if◌then◌else◌, nat_le, List, [], ◌∷◌, length, sym, ap, ◌∙◌, arith}
use Rattle.std.proofs.lemmas.Bool.Decides.{nat_tests}
use Rattle.bundling.specs.Chunk.{Chunk}
use Rattle.bundling.specs.Chunks.{has_no_gap, is_quiet}
use Rattle.stop_placer.specs.Packings.{Packing, chunk, are_quiet}
use Rattle.stop_placer.specs.QuietCounts.{quiet_count}

-- At most all.
pub count_within : (cs : List Chunk) → quiet_count cs ≤ length cs
count_within [] = omega arith
count_within (c ∷ cs) = of (is_quiet c) (count_within cs)
  where
    of : (b : Bool) → quiet_count cs ≤ length cs → (if b then quiet_count cs + 1 else 0) ≤ length (c ∷ cs)
    of true h = omega arith
    of false h = omega arith

-- As many are quiet as are counted.
pub quiet_by_count : (n : ℕ) (cs : List Chunk) → are_quiet n cs ≡ nat_le n (quiet_count cs)
quiet_by_count zero cs = grind (arith, nat_tests)
quiet_by_count (suc n) [] = grind (arith, nat_tests)
quiet_by_count (suc n) (c ∷ cs) = of (is_quiet c) (quiet_by_count n cs)
  where
    of : (b : Bool) → are_quiet n cs ≡ nat_le n (quiet_count cs) → (b && are_quiet n cs) ≡ nat_le (suc n)
        (if b then quiet_count cs + 1 else 0)
    of true h = grind (arith, nat_tests)
    of false h = grind (arith, nat_tests)

-- By the count of the bundles behind one without a gap.
pub long_by_count : (n : ℕ) (k : Packing) (quiet : ℕ) → has_no_gap k.current ≡ true → quiet ≡ quiet_count k.closed
    → nat_le n (quiet + 1) ≡ are_quiet n (chunk k.current false ∷ k.closed)
long_by_count n k quiet without is =
    ap (λ (m : ℕ). nat_le n (m + 1)) is ∙ ap (λ (b : Bool). nat_le n (if b then quiet_count k.closed + 1 else 0)) (sym without)
    ∙ sym (quiet_by_count n (chunk k.current false ∷ k.closed))
