-- What the rules of pairs leave is true of the registers afterwards.
use Rattle.std.proofs.Common.{◌≡◌, ◌≢◌, ℕ, ◌<◌, ◌⊎◌, inl, inr, Bool, true, false, ◌&&◌, ◌||◌, ◌==◌, nat_lt, if◌then◌else◌, refl, sym, ap, ◌∙◌, subst, arith}
use Rattle.std.proofs.lemmas.Bool.{and_parts}
use Rattle.std.proofs.lemmas.Bool.Decides.{nat_tests}
use Rattle.ia_meaning.specs.State.{Registers}
use Rattle.ia_meaning.specs.Names.{holds}
use Rattle.ia_meaning.proofs.PredicateIndexes.{holds_zero, off_some}
use Rattle.predicate_rel.specs.declared.rows.Kept.{Kept}
use Rattle.predicate_rel.specs.declared.rows.Kept.TheVariants.{Own, Guard, Both}
use Rattle.predicate_rel.specs.Pairs.{Pairs}
use Rattle.predicate_rel.specs.Rules.{PairRule, always, never, one, two, is_met, kept_rule, by_written, partner, written_rule, or_andcm_kept, raised_rule, falls_rule, static_rule, name_before, rotated_rule}
use Rattle.predicate_rel.specs.Truth.{AreNeverBothOne}

-- The predicates of a pair whose rule is met are not both 1.
pub record IsRuleApart (rule : ℕ → ℕ → PairRule) (f : Pairs) (now : Registers) : Type 0 where
  pub apart : (x y : ℕ) → x < 64 → y < 64 → is_met (rule x y) f ≡ true → holds now x ≡ true → holds now y ≡ true → ⊥

-- No predicate became 1.
pub record IsBelow (r now : Registers) : Type 0 where
  pub was : (x : ℕ) → x < 64 → holds now x ≡ true → holds r x ≡ true

pub below_itself : (r : Registers) → IsBelow r r
below_itself r = record { was = λ x i h. h }

-- Where no predicate became 1.
pub kept_apart : (f : Pairs) (r now : Registers) → IsBelow r now → AreNeverBothOne f r → IsRuleApart one f now
kept_apart f r now b a = record { apart = λ x y i j m h k. a.apart x y m (b.was x i h) (b.was y j k) }

-- Where a branch falls through, its qualifying predicate is 0.
pub fallen_apart : (g : ℕ) (f : Pairs) (r now : Registers) → holds r g ≡ false → IsBelow r now → AreNeverBothOne f r
    → IsRuleApart (falls_rule g) f now
fallen_apart g f r now off b a =
    record { apart = λ x y i j m h k. of x y (x == g) (y == g) (x == y) (g == 0) refl refl refl m (b.was x i h) (b.was y j k) }
  where
    off_at : (x : ℕ) → (x == g) ≡ true → holds r x ≡ true → ⊥
    off_at x e h = let same : x ≡ g = grind (arith, nat_tests) in let k : holds r g ≡ true = ap (holds r) (sym same) ∙ h in cc

    of : (x y : ℕ) (s t u z : Bool) → (x == g) ≡ s → (y == g) ≡ t → (g == 0) ≡ z
        → is_met (if s || t || (u && z) then always else one x y) f ≡ true → holds r x ≡ true → holds r y ≡ true → ⊥
    of x y true t u z d e q m h k = off_at x d h
    of x y false true u z d e q m h k = off_at y e k
    of x y false false true true d e q m h k = off_some r g off (grind (arith, nat_tests))
    of x y false false true false d e q m h k = a.apart x y m h k
    of x y false false false z d e q m h k = a.apart x y m h k

-- Where none of p1 to p15 changed.
pub static_apart : (f : Pairs) (r now : Registers) → ((x : ℕ) → x < 16 → holds now x ≡ holds r x) → AreNeverBothOne f r
    → IsRuleApart static_rule f now
static_apart f r now same a = record { apart = λ x y i j m h k. of x y (nat_lt x 16) (nat_lt y 16) refl refl m h k }
  where
    of : (x y : ℕ) → (s t : Bool) → nat_lt x 16 ≡ s → nat_lt y 16 ≡ t → is_met (if s && t then one x y else never) f ≡ true
        → holds now x ≡ true → holds now y ≡ true → ⊥
    of x y false t d e m h k = absurd (cc)
    of x y true false d e m h k = absurd (cc)
    of x y true true d e m h k = a.apart x y m (sym (same x (grind (arith, nat_tests))) ∙ h) (sym (same y (grind (arith, nat_tests))) ∙ k)

-- After a rotation, of p16 by what is known of it.
pub rotated_apart : (first : PairRule) (f : Pairs) (r now : Registers) → ((x : ℕ) → x < 64 → x ≢ 16 → holds now x ≡ holds r (name_before x))
    → (is_met first f ≡ true → holds now 16 ≡ true → ⊥) → AreNeverBothOne f r → IsRuleApart (rotated_rule first) f now
rotated_apart first f r now back last a = record { apart = λ x y i j m h k. of x y i j (x == 16) (y == 16) refl refl m h k }
  where
    at_last : (x : ℕ) → (x == 16) ≡ true → holds now x ≡ true → holds now 16 ≡ true
    at_last x e h = let same : x ≡ 16 = grind (arith, nat_tests) in ap (holds now) (sym same) ∙ h

    not_last : (x : ℕ) → (x == 16) ≡ false → x ≢ 16
    not_last x e q = grind (arith, nat_tests)

    of : (x y : ℕ) → x < 64 → y < 64 → (s t : Bool) → (x == 16) ≡ s → (y == 16) ≡ t
        → is_met (if s || t then first else one (name_before x) (name_before y)) f ≡ true → holds now x ≡ true → holds now y ≡ true → ⊥
    of x y i j true t d e m h k = last m (at_last x d h)
    of x y i j false true d e m h k = last m (at_last y e k)
    of x y i j false false d e m h k =
        a.apart (name_before x) (name_before y) m (sym (back x i (not_last x d)) ∙ h) (sym (back y j (not_last y e)) ∙ k)

-- The reason that a predicate x that is written is 1, by what is kept of its pairs.
abbrev pub IsReason : Kept → Registers → ℕ → ℕ → Type 0
IsReason Own r g x = holds r x ≡ true
IsReason Guard r g x = holds r g ≡ true
IsReason Both r g x = (holds r x ≡ true) ⊎ (holds r g ≡ true)

kept_reason : (k : Kept) (f : Pairs) (r : Registers) (g a b u x : ℕ) → (f a b ≡ true → holds r x ≡ true → ⊥)
    → (f g u ≡ true → holds r g ≡ true → ⊥) → is_met (kept_rule k g a b u) f ≡ true → IsReason k r g x → ⊥
kept_reason Own f r g a b u x own guard m reason = own m reason
kept_reason Guard f r g a b u x own guard m reason = guard m reason
kept_reason Both f r g a b u x own guard m reason = let both = and_parts (f a b) (f g u) m in of both.0 both.1 reason
  where
    of : f a b ≡ true → f g u ≡ true → (holds r x ≡ true) ⊎ (holds r g ≡ true) → ⊥
    of c d (inl h) = own c h
    of c d (inr h) = guard d h

-- The second of a pair as the rule takes it.
partner_cases : (t : ℕ → Bool) (x y : ℕ) → ((partner t x y ≡ y) × (t x ≡ true → x ≢ y)) ⊎ ((partner t x y ≡ 0) × (t x ≡ true) × (x ≡ y))
partner_cases t x y = of (t x) (x == y) refl refl
  where
    of : (b c : Bool) → t x ≡ b → (x == y) ≡ c → (((if b && c then 0 else y) ≡ y) × (t x ≡ true → x ≢ y))
        ⊎ (((if b && c then 0 else y) ≡ 0) × (t x ≡ true) × (x ≡ y))
    of false c d e = inl (refl, λ h. absurd (cc))
    of true false d e = inl (refl, λ h s. grind (arith, nat_tests))
    of true true d e = let same : x ≡ y = grind (arith, nat_tests) in inr (refl, d, same)

-- What a test or a move writes.
pub record IsWritten (t : ℕ → Bool) (both : ℕ → ℕ → PairRule) (kept : ℕ → Kept) (g : ℕ) (f : Pairs) (r now : Registers) : Type 0 where
  pub zero : t 0 ≡ false
  pub unwritten : (x : ℕ) → x < 64 → t x ≡ false → holds now x ≡ true → holds r x ≡ true
  pub reason : (x : ℕ) → x < 64 → t x ≡ true → holds now x ≡ true → IsReason (kept x) r g x
  pub pair : (x y : ℕ) → x < 64 → y < 64 → t x ≡ true → t y ≡ true → x ≢ y → is_met (both x y) f ≡ true → holds now x ≡ true
      → holds now y ≡ true → ⊥

module _ (t : ℕ → Bool) (both : ℕ → ℕ → PairRule) (kept : ℕ → Kept) (g : ℕ) (f : Pairs) (r now : Registers)
    (w : IsWritten t both kept g f r now) (a : AreNeverBothOne f r) where
  by_tests : (x y : ℕ) → x < 64 → y < 64 → (t x ≡ true → x ≢ y) → holds now x ≡ true → holds now y ≡ true → (b c : Bool) → t x ≡ b → t y ≡ c
      → is_met (by_written b c (both x y) (kept_rule (kept x) g x y y) (kept_rule (kept y) g x y x) (one x y)) f ≡ true → ⊥
  by_tests x y i j n h k true true d e m = w.pair x y i j d e (n d) m h k
  by_tests x y i j n h k true false d e m =
      let there = w.unwritten y j e k in
      kept_reason (kept x) f r g x y y x (λ c q. a.apart x y c q there) (λ c q. a.apart g y c q there) m (w.reason x i d h)
  by_tests x y i j n h k false true d e m =
      let there = w.unwritten x i d h in
      kept_reason (kept y) f r g x y x y (λ c q. a.apart x y c there q) (λ c q. a.apart g x c q there) m (w.reason y j e k)
  by_tests x y i j n h k false false d e m = a.apart x y m (w.unwritten x i d h) (w.unwritten y j e k)

  alone : (x y : ℕ) → x < 64 → holds now x ≡ true → t x ≡ true
      → is_met (by_written (t x) (t 0) (both x y) (kept_rule (kept x) g x 0 0) (kept_rule (kept y) g x y x) (one x y)) f ≡ true → ⊥
  alone x y i h d m =
      let one : is_met (kept_rule (kept x) g x 0 0) f ≡ true = rw (d, w.zero) at m in
      let there = holds_zero r in
      kept_reason (kept x) f r g x 0 0 x (λ c q. a.apart x 0 c q there) (λ c q. a.apart g 0 c q there) one (w.reason x i d h)

  pub written_apart : IsRuleApart (written_rule t both kept g) f now
  written_apart = record { apart = λ x y i j m h k. of x y i j h k (partner_cases t x y) m }
    where
      of : (x y : ℕ) → x < 64 → y < 64 → holds now x ≡ true → holds now y ≡ true
          → ((partner t x y ≡ y) × (t x ≡ true → x ≢ y)) ⊎ ((partner t x y ≡ 0) × (t x ≡ true) × (x ≡ y))
          → is_met (by_written (t x) (t (partner t x y)) (both x y) (kept_rule (kept x) g x (partner t x y) (partner t x y))
          (kept_rule (kept y) g x y x) (one x y)) f ≡ true → ⊥
      of x y i j h k (inl (e, n)) m =
          by_tests x y i j n h k (t x) (t y) refl refl
          (subst (λ (p : ℕ). is_met (by_written (t x) (t p) (both x y) (kept_rule (kept x) g x p p) (kept_rule (kept y) g x y x) (one x y))
          f ≡ true) e m)
      of x y i j h k (inr (e, d, s)) m =
          alone x y i h d
          (subst (λ (p : ℕ). is_met (by_written (t x) (t p) (both x y) (kept_rule (kept x) g x p p) (kept_rule (kept y) g x y x) (one x y))
          f ≡ true) e m)

-- Where nothing is written, all rules but that of `unc` leave what was known.
same_reason : (kept : ℕ → Kept) (r : Registers) (g x : ℕ) → kept x ≢ Guard → holds r x ≡ true → IsReason (kept x) r g x
same_reason kept r g x n h = of (kept x) refl
  where
    of : (k : Kept) → kept x ≡ k → IsReason k r g x
    of Own e = h
    of Guard e = absurd (n e)
    of Both e = inl h

pub same_written : (t : ℕ → Bool) (both : ℕ → ℕ → PairRule) (kept : ℕ → Kept) (g : ℕ) (f : Pairs) (r : Registers) → t 0 ≡ false
    → ((x : ℕ) → kept x ≢ Guard)
    → ((x y : ℕ) → t x ≡ true → t y ≡ true → x ≢ y → is_met (both x y) f ≡ true → holds r x ≡ true → holds r y ≡ true → ⊥)
    → IsWritten t both kept g f r r
same_written t both kept g f r z n b = record {
  zero = z;
  unwritten = λ x i d h. h;
  reason = λ x i d h. same_reason kept r g x (n x) h;
  pair = λ x y i j d e s m h k. b x y d e s m h k;
}

pub both_not_guard : (x : ℕ) → Both ≢ Guard
both_not_guard x e = absurd (cc)

pub or_andcm_not_guard : (p1 x : ℕ) → or_andcm_kept p1 x ≢ Guard
or_andcm_not_guard p1 x = of (x == p1)
  where
    of : (b : Bool) → (if b then Both else Own) ≢ Guard
    of true e = absurd (cc)
    of false e = absurd (cc)

pub raised_same : (t : ℕ → Bool) (g : ℕ) (f : Pairs) (r : Registers) → t 0 ≡ false → AreNeverBothOne f r → IsRuleApart (raised_rule t g) f r
raised_same t g f r z a =
    written_apart t (λ x y. two x y g 0) (λ _. Both) g f r r
    (same_written t (λ x y. two x y g 0) (λ _. Both) g f r z both_not_guard
    (λ x y d e s m h k. a.apart x y (and_parts (f x y) (f g 0) m).0 h k)) a

-- What is raised under a predicate that is 1.
pub raised_written : (t : ℕ → Bool) (g : ℕ) (f : Pairs) (r now : Registers) → t 0 ≡ false → holds r g ≡ true
    → ((x : ℕ) → x < 64 → t x ≡ false → holds now x ≡ true → holds r x ≡ true) → AreNeverBothOne f r → IsRuleApart (raised_rule t g) f now
raised_written t g f r now z on other a =
    written_apart t (λ x y. two x y g 0) (λ _. Both) g f r now
    (record {
      zero = z;
      unwritten = other;
      reason = λ x i d h. inr on;
      pair = λ x y i j d e s m h k. a.apart g 0 (and_parts (f x y) (f g 0) m).1 on (holds_zero r);
    }) a
