-- Tests of two that hold together, and tests of each number below a bound.
use Rattle.std.proofs.Common.{◌≡◌, ℕ, zero, suc, ◌<◌, ◌⊎◌, inl, inr, Bool, true, ◌&&◌, sym, subst, arith}
pub use Rattle.bundle_bits.proofs.Words.{both-left as left, both-right as right}

-- A test of each number below a bound.
abbrev pub all_below : (ℕ → Bool) → ℕ → Bool
all_below p zero = true
all_below p (suc n) = p n && all_below p n

-- A number below the next one is that one or below it.
pub last_or_below : (k n : ℕ) → k < suc n → (k ≡ n) ⊎ (k < n)
last_or_below k n h = grind arith

-- What holds of each number below a bound holds of one.
pub below : (p : ℕ → Bool) (n k : ℕ) → all_below p n ≡ true → k < n → p k ≡ true
below p zero k all h = absurd (omega arith)
below p (suc n) k all h =
    elim (last_or_below k n h) as (λ _. p k ≡ true) [
      | inl e ↦ subst (λ m. p m ≡ true) (sym e) (left (p n) (all_below p n) all)
      | inr less ↦ below p n k (right (p n) (all_below p n) all) less
    ]
