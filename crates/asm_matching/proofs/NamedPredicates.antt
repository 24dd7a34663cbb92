-- The predicates that the tokens of a relation line name, in rising order.
use Rattle.std.proofs.Common.{◌≡◌, ◌≤◌, ◌<◌, ◌∙◌, inl, inr, refl, ap, ℕ, zero, suc, ◌+◌, ◌-◌, Bool, true, false, List, [], ◌∷◌, ◌++◌, length, arith}
use Rattle.std.specs.List.{All, filter, range_with_len}
use Rattle.std.specs.List.Sorted.{IsStrictlyIncreasing}
use Rattle.std.proofs.Math.Seq.{append_snoc}
use Rattle.std.proofs.lemmas.Bool.{cases_lt}
use Rattle.std.proofs.lemmas.Bool.Decides.{nat_tests}
use Rattle.std.proofs.lemmas.List.Elements.{All-filter}
use Rattle.std.proofs.lemmas.List.FromFn.{length-range_with_len, get_or-range_with_len}
use Rattle.std.proofs.lemmas.List.Kept.{IsStrictlyIncreasing-filter}
use Rattle.std.proofs.lemmas.List.Sums.{length-filter, count_by-le-length}
use Rattle.asm_lexemes.specs.declared.tokens.Token.{Token}
use Rattle.asm_lexemes.specs.declared.tokens.Token.TheVariants as t
use Rattle.asm_matching.specs.Related.{IsRelated, ArePredicates}
use Rattle.asm_matching.specs.Relations.{is_named, named_predicates}

-- Before the first number is looked at.
pub none_yet : (xs : List Token) (list : List ℕ) → list ≡ [] → list ++ filter (is_named xs) (range_with_len 1 15) ≡ named_predicates xs
unfolding named_predicates
none_yet xs list e = rw e refl

-- One number more is looked at: it is kept where it passes the test.
pub kept : (test : ℕ → Bool) (list : List ℕ) (p n m : ℕ) → n ≡ suc m → test p ≡ true
    → (list ++ p ∷ []) ++ filter test (range_with_len (p + 1) m) ≡ list ++ filter test (range_with_len p n)
kept test list p n m e h = rw (e, h) (append_snoc list p (filter test (range_with_len (p + 1) m)))

pub left_out : (test : ℕ → Bool) (list : List ℕ) (p n m : ℕ) → n ≡ suc m → test p ≡ false
    → list ++ filter test (range_with_len (p + 1) m) ≡ list ++ filter test (range_with_len p n)
left_out test list p n m e h = rw (e, h) refl

range_rises : (a n : ℕ) → IsStrictlyIncreasing (range_with_len a n)
range_rises a n = λ k h.
    let few = length-range_with_len a n in
    omega (arith, get_or-range_with_len a n k 0 (omega (arith, h, few)), get_or-range_with_len a n (k + 1) 0 (omega (arith, h, few)))

range_related : All IsRelated (range_with_len 1 15)
range_related = λ k d h. let is = get_or-range_with_len 1 15 k d h in (omega (arith, is), omega (arith, is, h))

few_kept : (test : ℕ → Bool) (xs : List ℕ) → length (filter test xs) ≤ length xs
few_kept test xs = omega (arith, length-filter test xs, count_by-le-length test xs)

-- Where they are two or more, a relation may name them.
pub are_predicates : (xs : List Token) → 2 ≤ length (named_predicates xs) → ArePredicates (named_predicates xs)
unfolding named_predicates
are_predicates xs some = record {
  some = some;
  few = few_kept (is_named xs) (range_with_len 1 15);
  rising = IsStrictlyIncreasing-filter (is_named xs) (range_with_len 1 15) (range_rises 1 15);
  related = All-filter (is_named xs) IsRelated (range_with_len 1 15) range_related;
}

-- The numbers of a range that pass a test: none, or the first of them and those above it.
none_kept : (test : ℕ → Bool) (a n : ℕ) → ((k : ℕ) → a ≤ k → test k ≡ false) → filter test (range_with_len a n) ≡ []
none_kept test a zero h = refl
none_kept test a (suc n) h = rw (h a (omega arith)) (none_kept test (a + 1) n (λ k l. h k (omega (arith, l))))

first_kept : (test : ℕ → Bool) (a n p m : ℕ) → test p ≡ true → a + n ≡ p + 1 + m → a ≤ p → ((k : ℕ) → a ≤ k → k < p → test k ≡ false)
    → filter test (range_with_len a n) ≡ p ∷ filter test (range_with_len (p + 1) m)
first_kept test a zero p m h e l others = absurd (omega (arith, e, l))
first_kept test a (suc n) p m h e l others = elim (cases_lt a p) [
  | inl below ↦ rw (others a (omega arith) below) (first_kept test (a + 1) n p m h (omega (arith, e)) (omega (arith, below))
      (λ k j u. others k (omega (arith, j)) u))
  | inr above ↦
      let here : a ≡ p = omega (arith, l, above) in
      let rest : n ≡ m = omega (arith, e, here) in
      rw (here, rest, h) refl
]

-- Two predicates in rising order are named.
abbrev pub two : ℕ → ℕ → List Token
two p q = t.Mutex ∷ t.Comma ∷ t.Pr p ∷ t.Comma ∷ t.Pr q ∷ []

pub two_named : (p q : ℕ) → 1 ≤ p → p < q → q ≤ 15 → named_predicates (two p q) ≡ p ∷ q ∷ []
unfolding named_predicates
two_named p q some less few =
    first_kept (is_named (two p q)) 1 15 p (15 - p) (grind (arith, nat_tests))
    (omega (arith, less, few)) some (λ k l u. grind (arith, nat_tests))
    ∙ ap (λ xs. p ∷ xs) (first_kept (is_named (two p q)) (p + 1) (15 - p) q (15 - q) (grind (arith, nat_tests)) (omega (arith, less, few))
    (omega (arith, less)) (λ k l u. grind (arith, nat_tests))
    ∙ ap (λ xs. q ∷ xs) (none_kept (is_named (two p q)) (q + 1) (15 - q) (λ k l. grind (arith, nat_tests))))
