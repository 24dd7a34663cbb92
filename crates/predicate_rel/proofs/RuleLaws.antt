-- Laws of what an instruction leaves that name no instruction: it keeps meets and order, and a pair is missing for a reason.
use Rattle.std.proofs.Common.{◌≡◌, ℕ, true, false, ◌⊎◌, refl, inl, inr}
use Rattle.std.proofs.lemmas.Bool.{and_parts, and_from, and_cases, and_left, and_right}
use Rattle.predicate_rel.specs.declared.edge.Edge.{Edge}
use Rattle.ia_insn.specs.declared.insn.Insn.{Insn}
use Rattle.predicate_rel.specs.Pairs.{Pairs, in_range, common, IsSubset}
use Rattle.predicate_rel.specs.Rules.{PairRule, always, never, one, two, is_met, rule_of, pairs_after}

-- The pairs of a meet are those of both.
pub common-true : (f g : Pairs) (x y : ℕ) → common f g x y ≡ true → (f x y ≡ true) × (g x y ≡ true)
unfolding common
common-true f g x y h = and_parts (f x y) (g x y) h

-- One that is missing is missing in one of them.
pub common-false : (f g : Pairs) (x y : ℕ) → common f g x y ≡ false → (f x y ≡ false) ⊎ (g x y ≡ false)
unfolding common
common-false f g x y h = and_cases (f x y) (g x y) h

-- A rule that is met is met by a larger set.
met_within : (r : PairRule) (f g : Pairs) → IsSubset f g → is_met r f ≡ true → is_met r g ≡ true
met_within always f g w h = refl
met_within never f g w h = h
met_within (one a b) f g w h = w.each a b h
met_within (two a b c d) f g w h =
    let both = and_parts (f a b) (f c d) h in and_from (g a b) (g c d) (w.each a b both.0) (w.each c d both.1)

-- What is left of a larger set is larger.
pub pairs_after-within : (f g : Pairs) (i : Insn) (e : Edge) → IsSubset f g → IsSubset (pairs_after f i e) (pairs_after g i e)
unfolding pairs_after
pairs_after-within f g i e w = record {
  each = λ x y h. let both = and_parts (in_range x y) (is_met (rule_of i e x y) f) h in
      and_from (in_range x y) (is_met (rule_of i e x y) g) both.0 (met_within (rule_of i e x y) f g w both.1);
}

-- A pair is missing after an instruction whatever was there before, or since one pair was missing before.
pub data WhyMissing (f : Pairs) (i : Insn) (e : Edge) (x y : ℕ) : Type 0 where
  whatever : ((g : Pairs) → pairs_after g i e x y ≡ false) → WhyMissing f i e x y
  since : (a b : ℕ) → f a b ≡ false → ((g : Pairs) → g a b ≡ false → pairs_after g i e x y ≡ false) → WhyMissing f i e x y

-- The reason by the rule.
from_rule : (f : Pairs) (i : Insn) (e : Edge) (x y : ℕ) (r : PairRule) → rule_of i e x y ≡ r → is_met r f ≡ false → WhyMissing f i e x y
unfolding pairs_after
from_rule f i e x y always is h = cc
from_rule f i e x y never is h = whatever (λ g. and_right (in_range x y) _ (rw is refl))
from_rule f i e x y (one a b) is h = since a b h (λ g n. and_right (in_range x y) _ (rw is n))
from_rule f i e x y (two a b c d) is h = by_case (and_cases (f a b) (f c d) h)
  where
    by_case : (f a b ≡ false) ⊎ (f c d ≡ false) → WhyMissing f i e x y
    by_case (inl n) = since a b n (λ g m. and_right (in_range x y) _ (rw is (and_left (g a b) (g c d) m)))
    by_case (inr n) = since c d n (λ g m. and_right (in_range x y) _ (rw is (and_right (g a b) (g c d) m)))

-- There is always a reason.
pub why_missing : (f : Pairs) (i : Insn) (e : Edge) (x y : ℕ) → pairs_after f i e x y ≡ false → WhyMissing f i e x y
unfolding pairs_after
why_missing f i e x y h = by_case (and_cases (in_range x y) (is_met (rule_of i e x y) f) h)
  where
    by_case : (in_range x y ≡ false) ⊎ (is_met (rule_of i e x y) f ≡ false) → WhyMissing f i e x y
    by_case (inl n) = whatever (λ g. and_left (in_range x y) _ n)
    by_case (inr n) = from_rule f i e x y (rule_of i e x y) refl n
