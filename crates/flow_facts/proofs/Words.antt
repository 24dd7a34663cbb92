-- Marks in words.
use Rattle.std.proofs.Common.{◌≡◌, ◌≢◌, ℕ, ◌+◌, ◌*◌, ◌/◌, ◌%◌, ◌^◌, ◌<◌, ◌≤◌, ◌⊎◌, Bool, true, false, cond, eqb, eq-eqb, List, length, set, get_or, get_or-set_same, get_or-set_other, refl, sym, ap, ◌∙◌, arith, inl, inr}
use Rattle.std.proofs.lemmas.Bool.{cases_eq, ne_eqb, true≢false}
use Rattle.std.proofs.lemmas.List.Sums.{sum_by-set}
use Rattle.std.specs.Int.{trailing_zeros, w64}
use Rattle.std.proofs.lemmas.Nat.Bits.{bit_at-trailing_zeros}
use Rattle.predicate_rel.specs.Pairs.{has_bit}
use Rattle.predicate_rel.proofs.BitLemmas.{has_bit_none, has_bit_zero}
use Rattle.flow_facts.specs.Tables.{is_marked, sum_of, Covers, IsKept}

-- One mark is set or cleared in its word.
pub marked_set : (words : List ℕ) (n word : ℕ) (v : Bool) → n / 64 < length words
    → ((y : ℕ) → y < 64 → has_bit word y ≡ cond (eqb y (n % 64)) v (has_bit (get_or words (n / 64) 0) y)) → (m : ℕ)
    → is_marked (set words (n / 64) word) m ≡ cond (eqb m n) v (is_marked words m)
marked_set words n word v inside bits m = of (cases_eq (m / 64) (n / 64)) (cases_eq m n)
  where
    of : (m / 64 ≡ n / 64) ⊎ (m / 64 ≡ n / 64 → ⊥) → (m ≡ n) ⊎ (m ≡ n → ⊥)
        → is_marked (set words (n / 64) word) m ≡ cond (eqb m n) v (is_marked words m)
    of (inl e) (inl same) =
        rw (eq-eqb m n same, e) (ap (λ (w : ℕ). has_bit w (m % 64)) (get_or-set_same words (n / 64) word 0 inside)
        ∙ bits (m % 64) (omega arith) ∙ (rw (eq-eqb (m % 64) (n % 64) (ap (λ (k : ℕ). k % 64) same)) refl))
    of (inl e) (inr apart) =
        let other : m % 64 ≡ n % 64 → ⊥ = λ q. apart (omega arith) in
        rw (ne_eqb m n apart, e) (ap (λ (w : ℕ). has_bit w (m % 64)) (get_or-set_same words (n / 64) word 0 inside)
        ∙ bits (m % 64) (omega arith) ∙ (rw (ne_eqb (m % 64) (n % 64) other) refl))
    of (inr far) (inl same) = absurd (far (ap (λ (k : ℕ). k / 64) same))
    of (inr far) (inr apart) =
        rw (ne_eqb m n apart) (ap (λ (w : ℕ). has_bit w (m % 64)) (get_or-set_other words (n / 64) (m / 64) word 0 far))

-- A smaller word makes the words' sum smaller.

pub sum_less : (words : List ℕ) (i word : ℕ) → i < length words → word < get_or words i 0 → sum_of (set words i word) < sum_of words
sum_less words i word inside less = omega (arith, sum_by-set (λ (w : ℕ). w) words i word 0 inside)

-- What covers a list covers one that has the same numbers but for one that has a mark.
pub covers_marked : (words words' numbers numbers' : List ℕ) (n : ℕ) → length words' ≡ length words → length numbers' ≡ length numbers
    → ((m : ℕ) → is_marked words' m ≡ cond (eqb m n) true (is_marked words m))
    → ((k : ℕ) → k ≢ n → get_or numbers' k 0 ≡ get_or numbers k 0) → Covers words numbers → Covers words' numbers'
covers_marked words words' numbers numbers' n len len' marks others h = record {
  long = omega (arith, h.long);
  unmarked = λ m none. of m (sym (marks m) ∙ none) (cases_eq m n);
}
  where
    of : (m : ℕ) → cond (eqb m n) true (is_marked words m) ≡ false → (m ≡ n) ⊎ (m ≡ n → ⊥) → get_or numbers' m 0 ≡ 0
    of m none (inl e) = absurd (true≢false (rw (eq-eqb m n e) at none))
    of m none (inr far) = others m far ∙ h.unmarked m (rw (ne_eqb m n far) at none)

-- What covers a list covers one that has the same numbers but for one that is 0.
pub covers_unmarked : (words words' numbers numbers' : List ℕ) (n : ℕ) → length words' ≡ length words → length numbers' ≡ length numbers
    → ((m : ℕ) → is_marked words' m ≡ cond (eqb m n) false (is_marked words m))
    → ((k : ℕ) → k ≢ n → get_or numbers' k 0 ≡ get_or numbers k 0) → get_or numbers' n 0 ≡ 0 → Covers words numbers → Covers words' numbers'
covers_unmarked words words' numbers numbers' n len len' marks others zero h = record {
  long = omega (arith, h.long);
  unmarked = λ m none. of m (sym (marks m) ∙ none) (cases_eq m n);
}
  where
    of : (m : ℕ) → cond (eqb m n) false (is_marked words m) ≡ false → (m ≡ n) ⊎ (m ≡ n → ⊥) → get_or numbers' m 0 ≡ 0
    of m none (inl e) = ap (λ (k : ℕ). get_or numbers' k 0) e ∙ zero
    of m none (inr far) = others m far ∙ h.unmarked m (rw (ne_eqb m n far) at none)

-- What covers a list covers one whose numbers are no larger.
pub covers_less : (words numbers numbers' : List ℕ) → length numbers' ≡ length numbers
    → ((k : ℕ) → get_or numbers' k 0 ≤ get_or numbers k 0) → Covers words numbers → Covers words numbers'
covers_less words numbers numbers' len less h =
    record { long = omega (arith, h.long); unmarked = λ m none. omega (arith, less m, h.unmarked m none) }

-- One more place is dirty.
pub kept_marked : (rows rows' blocks blocks' regions regions' : List ℕ) (low low' n : ℕ) → length rows' ≡ length rows
    → ((k : ℕ) → k ≢ n → get_or rows' k 0 ≡ get_or rows k 0)
    → length blocks' ≡ length blocks → ((m : ℕ) → is_marked blocks' m ≡ cond (eqb m n) true (is_marked blocks m))
    → ((k : ℕ) → k ≢ n / 64 → get_or blocks' k 0 ≡ get_or blocks k 0)
    → length regions' ≡ length regions → ((m : ℕ) → is_marked regions' m ≡ cond (eqb m (n / 64)) true (is_marked regions m))
    → ((k : ℕ) → k ≢ n / 64 / 64 → get_or regions' k 0 ≡ get_or regions k 0)
    → low' ≤ low → low' ≤ n / 64 / 64 → IsKept rows blocks regions low → IsKept rows' blocks' regions' low'
kept_marked rows rows' blocks blocks' regions regions' low low' n len same len1 marks1 others1 len2 marks2 others2 lower at h = record {
  below = λ k l. others2 k (λ e. omega arith) ∙ h.below k (omega arith);
  by_block = covers_marked blocks blocks' rows rows' n len1 len marks1 same h.by_block;
  by_region = covers_marked regions regions' blocks blocks' (n / 64) len2 len1 marks2 others1 h.by_region;
  full = omega (arith, h.full);
  few = omega (arith, h.few);
}

-- One is dirty no more.
pub kept_unmarked : (rows rows' blocks blocks' regions : List ℕ) (low n : ℕ) → length rows' ≡ length rows
    → ((k : ℕ) → k ≢ n → get_or rows' k 0 ≡ get_or rows k 0) → get_or rows' n 0 ≡ 0
    → length blocks' ≡ length blocks → ((m : ℕ) → is_marked blocks' m ≡ cond (eqb m n) false (is_marked blocks m))
    → ((k : ℕ) → get_or blocks' k 0 ≤ get_or blocks k 0) → IsKept rows blocks regions low → IsKept rows' blocks' regions low
kept_unmarked rows rows' blocks blocks' regions low n len same zero len1 marks less h = record {
  below = h.below;
  by_block = covers_unmarked blocks blocks' rows rows' n len1 len marks same zero h.by_block;
  by_region = covers_less regions blocks blocks' len1 less h.by_region;
  full = omega (arith, h.full);
  few = omega (arith, h.few);
}

-- No place of a block or region without a mark is dirty.
block_clear : (rows blocks regions : List ℕ) (low n : ℕ) → IsKept rows blocks regions low → get_or blocks (n / 64) 0 ≡ 0
    → get_or rows n 0 ≡ 0
block_clear rows blocks regions low n h zero = h.by_block.unmarked n (ap (λ (w : ℕ). has_bit w (n % 64)) zero ∙ has_bit_none (n % 64))

pub region_clear : (rows blocks regions : List ℕ) (low n : ℕ) → IsKept rows blocks regions low → get_or regions (n / 64 / 64) 0 ≡ 0
    → get_or rows n 0 ≡ 0
region_clear rows blocks regions low n h zero =
    block_clear rows blocks regions low n h (h.by_region.unmarked (n / 64)
    (ap (λ (w : ℕ). has_bit w (n / 64 % 64)) zero ∙ has_bit_none (n / 64 % 64)))

-- None below the first mark in the first block that is marked in the first region that may have one.
pub first_kept : (rows blocks regions : List ℕ) (low b p : ℕ) → IsKept rows blocks regions low → b < 64 → p < 64
    → ((y : ℕ) → y < b → has_bit (get_or regions low 0) y ≡ false) → ((y : ℕ) → y < p → has_bit (get_or blocks (64 * low + b) 0) y ≡ false)
    → (k : ℕ) → k < 64 * (64 * low + b) + p → get_or rows k 0 ≡ 0
first_kept rows blocks regions low b p h below_b below_p none_b none_p k l =
    of (cases_eq (k / 64) (64 * low + b)) (cases_eq (k / 64 / 64) low)
  where
    of : (k / 64 ≡ 64 * low + b) ⊎ (k / 64 ≡ 64 * low + b → ⊥) → (k / 64 / 64 ≡ low) ⊎ (k / 64 / 64 ≡ low → ⊥) → get_or rows k 0 ≡ 0
    of (inl e) other = h.by_block.unmarked k (ap (λ (i : ℕ). has_bit (get_or blocks i 0) (k % 64)) e ∙ none_p (k % 64) (omega arith))
    of (inr far) (inl e) =
        block_clear rows blocks regions low k h (h.by_region.unmarked (k / 64)
        (ap (λ (i : ℕ). has_bit (get_or regions i 0) (k / 64 % 64)) e ∙ none_b (k / 64 % 64) (omega arith)))
    of (inr far) (inr off) = region_clear rows blocks regions low k h (h.below (k / 64 / 64) (omega arith))

-- The bits below the lowest one aren't there.
pub none_below : (n : ℕ) → n ≢ 0 → n < 2 ^ 64 → (y : ℕ) → y < trailing_zeros w64 n → has_bit n y ≡ false
none_below n some fits y l = has_bit_zero n y ((bit_at-trailing_zeros w64 n (omega arith) fits).2 y l)
