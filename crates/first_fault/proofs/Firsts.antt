-- The first number that fails a test.
use Rattle.std.proofs.Common.{◌≡◌, inl, inr, ℕ, zero, suc, ◌<◌, arith, sym, subst}
use Rattle.std.proofs.lemmas.Bool.{cases_order}

-- One number is the first that fails.
pub one_first : (Passes : ℕ → Type 0) (m n : ℕ) → ((k : ℕ) → k < m → Passes k) → ¬ Passes m → ((k : ℕ) → k < n → Passes k) → ¬ Passes n
    → m ≡ n
one_first Passes m n before fails earlier other = elim (cases_order m n) [
  | inl same ↦ same
  | inr (inl less) ↦ absurd (fails (earlier m less))
  | inr (inr more) ↦ absurd (other (before n more))
]

-- Where the numbers below one pass and it does, those up to it do.
one_more : (Passes : ℕ → Type 0) (count : ℕ) → ((n : ℕ) → n < count → Passes n) → Passes count → (n : ℕ) → n < suc count → Passes n
one_more Passes count all last n inside = elim (cases_order n count) [
  | inl same ↦ subst Passes (sym same) last
  | inr (inl less) ↦ all n less
  | inr (inr more) ↦ absurd (omega arith)
]

-- Where no number is the first that fails, it can't be that not all pass.
pub none_first : (Passes : ℕ → Type 0) (count : ℕ) → ((n : ℕ) → n < count → ((k : ℕ) → k < n → Passes k) → ¬ Passes n → ⊥)
    → (((n : ℕ) → n < count → Passes n) → ⊥) → ⊥
none_first Passes zero none go = go (λ n inside. absurd (omega arith))
none_first Passes (suc count) none go =
    none_first Passes count (λ n inside. none n (omega arith)) (λ all.
    none count (omega arith) all (λ last. go (one_more Passes count all last)))
