-- What the rules of tests leave is true of the registers afterwards.
use Rattle.std.proofs.Common.{◌≡◌, ◌≢◌, ℕ, ◌<◌, ◌⊎◌, inl, inr, Bool, true, false, ◌==◌, if◌then◌else◌, refl, sym, ap, ◌∙◌, arith}
use Rattle.std.proofs.lemmas.Bool.Decides.{nat_tests}
use Rattle.ia_insn.specs.declared.choices.CmpKind.{CmpKind}
use Rattle.ia_insn.specs.declared.choices.CmpKind.TheVariants as cmp
use Rattle.ia_meaning.specs.State.{Registers}
use Rattle.ia_meaning.specs.Names.{holds}
use Rattle.ia_meaning.proofs.PredicateIndexes.{off_some}
use Rattle.predicate_rel.specs.declared.rows.Kept.TheVariants.{Own, Guard, Both}
use Rattle.predicate_rel.specs.Pairs.{Pairs}
use Rattle.predicate_rel.specs.Rules.{always, one, is_met, is_target, normal_targets, or_andcm_kept, test_rule}
use Rattle.predicate_rel.specs.Truth.{AreNeverBothOne}
use Rattle.predicate_rel.proofs.RuleTruth.{IsRuleApart, below_itself, kept_apart, IsReason, written_apart, same_written, both_not_guard, or_andcm_not_guard, raised_same, raised_written}

-- The two targets, in some order.
both_targets : (p q x y : ℕ) → is_target p q x ≡ true → is_target p q y ≡ true → x ≢ y → ((x ≡ p) × (y ≡ q)) ⊎ ((x ≡ q) × (y ≡ p))
both_targets p q x y d e n = grind (arith, nat_tests)

-- A normal test that isn't executed leaves both.
normal_same_targets : (p q g x y : ℕ) (f : Pairs) (r : Registers) → holds r g ≡ false → AreNeverBothOne f r → is_target p q x ≡ true
    → is_target p q y ≡ true → x ≢ y → is_met (normal_targets p q g) f ≡ true → holds r x ≡ true → holds r y ≡ true → ⊥
normal_same_targets p q g x y f r off a d e n m h k = by_guard (g == 0) refl m
  where
    by_order : ((x ≡ p) × (y ≡ q)) ⊎ ((x ≡ q) × (y ≡ p)) → f p q ≡ true → ⊥
    by_order (inl (u, w)) c = a.apart p q c (ap (holds r) (sym u) ∙ h) (ap (holds r) (sym w) ∙ k)
    by_order (inr (u, w)) c = a.apart p q c (ap (holds r) (sym w) ∙ k) (ap (holds r) (sym u) ∙ h)

    by_guard : (b : Bool) → (g == 0) ≡ b → is_met (if b then always else one p q) f ≡ true → ⊥
    by_guard true z m = off_some r g off (grind (arith, nat_tests))
    by_guard false z m = by_order (both_targets p q x y d e n) m

-- Tests that write nothing, executed or not.
pub or_same : (p q g : ℕ) (f : Pairs) (r : Registers) → AreNeverBothOne f r → IsRuleApart (test_rule cmp.Or p q g) f r
or_same p q g f r a = raised_same (is_target p q) g f r refl a

pub and_same : (p q g : ℕ) (f : Pairs) (r : Registers) → AreNeverBothOne f r → IsRuleApart (test_rule cmp.And p q g) f r
and_same p q g f r a = kept_apart f r r (below_itself r) a

pub or_andcm_same : (p q g : ℕ) (f : Pairs) (r : Registers) → AreNeverBothOne f r → IsRuleApart (test_rule cmp.OrAndcm p q g) f r
or_andcm_same p q g f r a =
    written_apart (is_target p q) one (or_andcm_kept p) g f r r
    (same_written (is_target p q) one (or_andcm_kept p) g f r refl (or_andcm_not_guard p) (λ x y d e s m h k. a.apart x y m h k)) a

-- A test that isn't executed.
pub test_off : (kind : CmpKind) (p q g : ℕ) (f : Pairs) (r : Registers) → holds r g ≡ false → kind ≢ cmp.Unc → AreNeverBothOne f r
    → IsRuleApart (test_rule kind p q g) f r
test_off cmp.Normal p q g f r off n a =
    written_apart (is_target p q) (λ _ _. normal_targets p q g) (λ _. Both) g f r r
    (same_written (is_target p q) (λ _ _. normal_targets p q g) (λ _. Both) g f r refl both_not_guard
    (λ x y d e s m h k. normal_same_targets p q g x y f r off a d e s m h k)) a
test_off cmp.Unc p q g f r off n a = absurd (n refl)
test_off cmp.Or p q g f r off n a = or_same p q g f r a
test_off cmp.And p q g f r off n a = and_same p q g f r a
test_off cmp.OrAndcm p q g f r off n a = or_andcm_same p q g f r a

-- What two writes of a test leave.
pub record TestWritten (r : Registers) (p q : ℕ) (b c : Bool) (now : Registers) : Type 0 where
  pub other : (x : ℕ) → x < 64 → is_target p q x ≡ false → holds now x ≡ holds r x
  pub target : (x : ℕ) → is_target p q x ≡ true → ((x ≡ p) × (holds now x ≡ b)) ⊎ ((x ≡ q) × (holds now x ≡ c))

-- A test that writes b and c into its targets p and q.
module _ (p q g : ℕ) (b c : Bool) (f : Pairs) (r now : Registers) (w : TestWritten r p q b c now) (ne : p ≢ q)
    (a : AreNeverBothOne f r) where
  unwritten : (x : ℕ) → x < 64 → is_target p q x ≡ false → holds now x ≡ true → holds r x ≡ true
  unwritten x i d h = sym (w.other x i d) ∙ h

  -- Both don't become 1.
  targets_apart : (b ≡ true → c ≡ true → ⊥) → (x y : ℕ) → is_target p q x ≡ true → is_target p q y ≡ true → x ≢ y → holds now x ≡ true
      → holds now y ≡ true → ⊥
  targets_apart differ x y d e n h k = of (w.target x d) (w.target y e)
    where
      of : ((x ≡ p) × (holds now x ≡ b)) ⊎ ((x ≡ q) × (holds now x ≡ c)) → ((y ≡ p) × (holds now y ≡ b)) ⊎ ((y ≡ q) × (holds now y ≡ c)) → ⊥
      of (inl (u, i)) (inl (v, j)) = n (u ∙ sym v)
      of (inl (u, i)) (inr (v, j)) = differ (sym i ∙ h) (sym j ∙ k)
      of (inr (u, i)) (inl (v, j)) = differ (sym j ∙ k) (sym i ∙ h)
      of (inr (u, i)) (inr (v, j)) = n (u ∙ sym v)

  -- Both become 0.
  target_cleared : b ≡ false → c ≡ false → (x : ℕ) → is_target p q x ≡ true → holds now x ≡ true → ⊥
  target_cleared i j x d h = of (w.target x d)
    where
      of : ((x ≡ p) × (holds now x ≡ b)) ⊎ ((x ≡ q) × (holds now x ≡ c)) → ⊥
      of (inl (u, v)) = cc
      of (inr (u, v)) = cc

  pub normal_written : holds r g ≡ true → (b ≡ true → c ≡ true → ⊥) → IsRuleApart (test_rule cmp.Normal p q g) f now
  normal_written on differ =
      written_apart (is_target p q) (λ _ _. normal_targets p q g) (λ _. Both) g f r now
      (record {
        zero = refl;
        unwritten = unwritten;
        reason = λ x i d h. inr on;
        pair = λ x y i j d e s m h k. targets_apart differ x y d e s h k;
      }) a

  pub unc_written : holds r g ≡ true → (b ≡ true → c ≡ true → ⊥) → IsRuleApart (test_rule cmp.Unc p q g) f now
  unc_written on differ =
      written_apart (is_target p q) (λ _ _. always) (λ _. Guard) g f r now
      (record {
        zero = refl;
        unwritten = unwritten;
        reason = λ x i d h. on;
        pair = λ x y i j d e s m h k. targets_apart differ x y d e s h k;
      }) a

  pub unc_cleared : b ≡ false → c ≡ false → IsRuleApart (test_rule cmp.Unc p q g) f now
  unc_cleared i j =
      written_apart (is_target p q) (λ _ _. always) (λ _. Guard) g f r now
      (record {
        zero = refl;
        unwritten = unwritten;
        reason = λ x k d h. absurd (target_cleared i j x d h);
        pair = λ x y k l d e s m h n. target_cleared i j x d h;
      }) a

  pub or_written : holds r g ≡ true → IsRuleApart (test_rule cmp.Or p q g) f now
  or_written on = raised_written (is_target p q) g f r now refl on unwritten a

  pub and_written : b ≡ false → c ≡ false → IsRuleApart (test_rule cmp.And p q g) f now
  and_written i j = kept_apart f r now (record { was = λ x k h. of x k h (is_target p q x) refl }) a
    where
      of : (x : ℕ) → x < 64 → holds now x ≡ true → (t : Bool) → is_target p q x ≡ t → holds r x ≡ true
      of x k h true d = absurd (target_cleared i j x d h)
      of x k h false d = unwritten x k d h

  pub or_andcm_written : holds r g ≡ true → c ≡ false → IsRuleApart (test_rule cmp.OrAndcm p q g) f now
  or_andcm_written on j =
      written_apart (is_target p q) one (or_andcm_kept p) g f r now
      (record {
        zero = refl;
        unwritten = unwritten;
        reason = λ x i d h. reason x d h (x == p) refl;
        pair = λ x y i k d e s m h l. targets_apart (λ u v. cc) x y d e s h l;
      }) a
    where
      reason : (x : ℕ) → is_target p q x ≡ true → holds now x ≡ true → (t : Bool) → (x == p) ≡ t → IsReason (if t then Both else Own) r g x
      reason x d h true e = inr on
      reason x d h false e = of (w.target x d)
        where
          of : ((x ≡ p) × (holds now x ≡ b)) ⊎ ((x ≡ q) × (holds now x ≡ c)) → holds r x ≡ true
          of (inl (u, v)) = let n : (x == p) ≡ true = grind (arith, nat_tests) in absurd (cc)
          of (inr (u, v)) = absurd (cc)
