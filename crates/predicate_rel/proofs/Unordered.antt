-- Each instruction keeps that the order of a pair says nothing, and that (x, x) stands for (x, p0).
use Rattle.std.proofs.Common.{◌≡◌, ◌≢◌, ℕ, Bool, true, false, cond, ◌&&◌, ◌||◌, eqb, eq-eqb, refl, sym, ap, ◌∙◌, inl, inr}
use Rattle.std.proofs.lemmas.Bool.{cases_eq, ne_eqb}
use Rattle.std.proofs.Math.Bool.{and_comm}
use Rattle.std.specs.Prelude.{nat_lt}
use Rattle.ia_insn.specs.declared.choices.CmpKind.{CmpKind}
use Rattle.ia_insn.specs.declared.choices.CmpKind.TheVariants as cmp
use Rattle.ia_insn.specs.declared.choices.BranchKind.{BranchKind}
use Rattle.ia_insn.specs.declared.choices.BranchKind.TheVariants as branch
use Rattle.ia_insn.specs.declared.insn.Insn.{Insn}
use Rattle.ia_meaning.specs.declared.action.Action.{Action}
use Rattle.ia_meaning.specs.declared.action.Action.TheVariants as action
use Rattle.ia_meaning.specs.Actions.{action_of}
use Rattle.predicate_rel.specs.declared.edge.Edge.{Edge}
use Rattle.predicate_rel.specs.declared.edge.Edge.TheVariants.{Falls, Taken}
use Rattle.predicate_rel.specs.declared.rows.Kept.{Kept}
use Rattle.predicate_rel.specs.declared.rows.Kept.TheVariants.{Own, Guard, Both}
use Rattle.predicate_rel.specs.Pairs.{Pairs, in_range, no_pairs, common, other_of, is_same_pair, with_pair, IsUnordered}
use Rattle.predicate_rel.specs.Rules.{PairRule, always, never, one, two, is_met, kept_rule, by_written, partner, written_rule, is_target, normal_targets, or_andcm_kept, test_rule, raised_rule, is_moved, falls_rule, static_rule, name_before, rotated_rule, loop_rule, action_rule, rule_of, pairs_after}

-- Rules that are met for a pair in one order where they are in the other, and for (x, x) where they are for (x, p0).
record KeepsOrder (r : ℕ → ℕ → PairRule) (f : Pairs) : Type 0 where
  swaps : (x y : ℕ) → is_met (r x y) f ≡ is_met (r y x) f
  alone : (x : ℕ) → is_met (r x x) f ≡ is_met (r x 0) f

-- A predicate and itself may be swapped, so `swaps` is to be shown of two different ones.
swaps_apart : (r : ℕ → ℕ → PairRule) (f : Pairs) → ((x y : ℕ) → x ≢ y → is_met (r x y) f ≡ is_met (r y x) f) → (x y : ℕ)
    → is_met (r x y) f ≡ is_met (r y x) f
swaps_apart r f apart x y = elim (cases_eq x y) [
  | inl e ↦ ap (λ (k : ℕ). is_met (r k y) f) e ∙ sym (ap (λ (k : ℕ). is_met (r y k) f) e)
  | inr ne ↦ apart x y ne
]

-- The partners of different predicates, of a written one and itself, and of one that isn't written.
partner_apart : (t : ℕ → Bool) (x y : ℕ) → x ≢ y → partner t x y ≡ y
partner_apart t x y ne = rw (ne_eqb x y ne) (by_bool (t x))
  where
    by_bool : (b : Bool) → cond (b && false) 0 y ≡ y
    by_bool true = refl
    by_bool false = refl

partner_same : (t : ℕ → Bool) (x : ℕ) → t x ≡ true → partner t x x ≡ 0
partner_same t x e = rw (e, eq-eqb x x refl) refl

partner_zero : (t : ℕ → Bool) (x : ℕ) → partner t x 0 ≡ 0
partner_zero t x = by_bool (t x && eqb x 0)
  where
    by_bool : (b : Bool) → cond {A = ℕ} b 0 0 ≡ 0
    by_bool true = refl
    by_bool false = refl

partner_kept : (t : ℕ → Bool) (x y : ℕ) → t x ≡ false → partner t x y ≡ y
partner_kept t x y e = rw e refl

-- What is kept depends on the order of its own pair alone.
kept_swaps : (k : Kept) (g x y u : ℕ) (f : Pairs) → IsUnordered f → is_met (kept_rule k g x y u) f ≡ is_met (kept_rule k g y x u) f
kept_swaps Own g x y u f un = un.swaps x y
kept_swaps Guard g x y u f un = refl
kept_swaps Both g x y u f un = ap (λ (b : Bool). b && f g u) (un.swaps x y)

-- A choice between four rules may be swapped.
choice_swaps : (a b : Bool) (r r' s s' t t' n n' : PairRule) (f : Pairs) → is_met r f ≡ is_met r' f → is_met s f ≡ is_met t' f
    → is_met t f ≡ is_met s' f → is_met n f ≡ is_met n' f → is_met (by_written a b r s t n) f ≡ is_met (by_written b a r' s' t' n') f
choice_swaps true true r r' s s' t t' n n' f h i j k = h
choice_swaps true false r r' s s' t t' n n' f h i j k = i
choice_swaps false true r r' s s' t t' n n' f h i j k = j
choice_swaps false false r r' s s' t t' n n' f h i j k = k

-- The rules of tests and moves, where the rule of two written predicates says the same of both orders.
written_keeps : (t : ℕ → Bool) (both : ℕ → ℕ → PairRule) (kept : ℕ → Kept) (g : ℕ) (f : Pairs) → t 0 ≡ false
    → ((x y : ℕ) → is_met (both x y) f ≡ is_met (both y x) f) → IsUnordered f → KeepsOrder (written_rule t both kept g) f
written_keeps t both kept g f zero same un = record {
  swaps = swaps_apart (written_rule t both kept g) f (λ x y ne.
      rw (partner_apart t x y ne, partner_apart t y x (λ e. ne (sym e)))
      (choice_swaps (t x) (t y) (both x y) (both y x) (kept_rule (kept x) g x y y) (kept_rule (kept y) g y x x) (kept_rule (kept y) g x y x)
      (kept_rule (kept x) g y x y) (one x y) (one y x) f
      (same x y) (kept_swaps (kept x) g x y y f un) (kept_swaps (kept y) g x y x f un) (un.swaps x y)));
  alone = λ x. by_bool x (t x) refl;
}
  where
    by_bool : (x : ℕ) (b : Bool) → t x ≡ b → is_met (written_rule t both kept g x x) f ≡ is_met (written_rule t both kept g x 0) f
    by_bool x true e = rw (partner_same t x e, partner_zero t x) (rw (e, zero) refl)
    by_bool x false e = rw (partner_kept t x x e, partner_zero t x) (rw (e, zero) (un.alone x))

-- The rules of or-compares and moves, of all tests, of branches and of rotations.
raised_keeps : (t : ℕ → Bool) (g : ℕ) (f : Pairs) → t 0 ≡ false → IsUnordered f → KeepsOrder (raised_rule t g) f
raised_keeps t g f zero un =
    written_keeps t (λ a b. two a b g 0) (λ _. Both) g f zero (λ x y. ap (λ (b : Bool). b && f g 0) (un.swaps x y)) un

twice : (b : Bool) → (b && b) ≡ (b && true)
twice true = refl
twice false = refl

-- The rule of a pair that stays.
one_keeps : (f : Pairs) → IsUnordered f → KeepsOrder one f
one_keeps f un = record { swaps = un.swaps; alone = un.alone }

test_keeps : (kind : CmpKind) (p1 p2 g : ℕ) (f : Pairs) → IsUnordered f → KeepsOrder (test_rule kind p1 p2 g) f
test_keeps cmp.Normal p1 p2 g f un = written_keeps (is_target p1 p2) (λ _ _. normal_targets p1 p2 g) (λ _. Both) g f refl (λ x y. refl) un
test_keeps cmp.Unc p1 p2 g f un = written_keeps (is_target p1 p2) (λ _ _. always) (λ _. Guard) g f refl (λ x y. refl) un
test_keeps cmp.Or p1 p2 g f un = raised_keeps (is_target p1 p2) g f refl un
test_keeps cmp.And p1 p2 g f un = one_keeps f un
test_keeps cmp.OrAndcm p1 p2 g f un = written_keeps (is_target p1 p2) one (or_andcm_kept p1) g f refl un.swaps un

-- A rule that is a choice between two that keep order.
choice_keeps : (test : ℕ → ℕ → Bool) (r s : ℕ → ℕ → PairRule) (f : Pairs) → ((x y : ℕ) → test x y ≡ test y x)
    → ((x : ℕ) → test x x ≡ test x 0) → KeepsOrder r f → KeepsOrder s f → KeepsOrder (λ x y. cond (test x y) (r x y) (s x y)) f
choice_keeps test r s f order alone k m = record {
  swaps =
      λ x y. ap (λ (b : Bool). is_met (cond b (r x y) (s x y)) f) (order x y)
      ∙ by_bool (test y x) (r x y) (r y x) (s x y) (s y x) (k.swaps x y) (m.swaps x y);
  alone =
      λ x. ap (λ (b : Bool). is_met (cond b (r x x) (s x x)) f) (alone x)
      ∙ by_bool (test x 0) (r x x) (r x 0) (s x x) (s x 0) (k.alone x) (m.alone x);
}
  where
    by_bool : (b : Bool) (r r' s s' : PairRule) → is_met r f ≡ is_met r' f → is_met s f ≡ is_met s' f
        → is_met (cond b r s) f ≡ is_met (cond b r' s') f
    by_bool true r r' s s' h i = h
    by_bool false r r' s s' h i = i

-- A rule that is the same for all pairs.
same_keeps : (r : PairRule) (f : Pairs) → KeepsOrder (λ _ _. r) f
same_keeps r f = record { swaps = λ x y. refl; alone = λ x. refl }

equal_swaps : (x y : ℕ) → eqb x y ≡ eqb y x
equal_swaps x y = elim (cases_eq x y) [
  | inl e ↦ eq-eqb x y e ∙ sym (eq-eqb y x (sym e))
  | inr ne ↦ ne_eqb x y ne ∙ sym (ne_eqb y x (λ e. ne (sym e)))
]

or_swaps : (a b : Bool) → (a || b) ≡ (b || a)
or_swaps true true = refl
or_swaps true false = refl
or_swaps false true = refl
or_swaps false false = refl

falls_keeps : (g : ℕ) (f : Pairs) → IsUnordered f → KeepsOrder (falls_rule g) f
falls_keeps g f un = choice_keeps (λ x y. eqb x g || eqb y g || (eqb x y && eqb g 0)) (λ _ _. always) one f
    (λ x y. ap (λ (b : Bool). b || (eqb x y && eqb g 0)) (or_swaps (eqb x g) (eqb y g))
    ∙ ap (λ (b : Bool). eqb y g || eqb x g || (b && eqb g 0)) (equal_swaps x y))
    (λ x. rw (eq-eqb x x refl, equal_swaps 0 g) (by_bools (eqb x g) (eqb g 0) (eqb x 0)))
    (same_keeps always f) (one_keeps f un)
  where
    by_bools : (a b c : Bool) → (a || a || b) ≡ (a || b || (c && b))
    by_bools true b c = refl
    by_bools false true c = refl
    by_bools false false true = refl
    by_bools false false false = refl

static_keeps : (f : Pairs) → IsUnordered f → KeepsOrder static_rule f
static_keeps f un =
    choice_keeps (λ x y. nat_lt x 16 && nat_lt y 16) one (λ _ _. never) f (λ x y. and_comm (nat_lt x 16) (nat_lt y 16))
    (λ x. twice (nat_lt x 16)) (one_keeps f un) (same_keeps never f)

rotated_keeps : (first : PairRule) (f : Pairs) → IsUnordered f → KeepsOrder (rotated_rule first) f
rotated_keeps first f un = choice_keeps (λ x y. eqb x 16 || eqb y 16) (λ _ _. first) (λ x y. one (name_before x) (name_before y)) f
    (λ x y. or_swaps (eqb x 16) (eqb y 16)) (λ x. twice (eqb x 16)) (same_keeps first f)
    (record { swaps = λ x y. un.swaps (name_before x) (name_before y); alone = λ x. un.alone (name_before x) })
  where
    twice : (b : Bool) → (b || b) ≡ (b || false)
    twice true = refl
    twice false = refl

loop_keeps : (kind : BranchKind) (edge : Edge) (f : Pairs) → IsUnordered f → KeepsOrder (loop_rule kind edge) f
loop_keeps branch.Ctop Taken f un = rotated_keeps never f un
loop_keeps branch.Cexit Falls f un = rotated_keeps never f un
loop_keeps branch.Wtop Taken f un = rotated_keeps always f un
loop_keeps branch.Wexit Falls f un = rotated_keeps always f un
loop_keeps branch.Ctop Falls f un = static_keeps f un
loop_keeps branch.Cexit Taken f un = static_keeps f un
loop_keeps branch.Wtop Falls f un = static_keeps f un
loop_keeps branch.Wexit Taken f un = static_keeps f un
loop_keeps kind edge f un = one_keeps f un

action_keeps : (a : Action) (edge : Edge) (g : ℕ) (f : Pairs) → IsUnordered f → KeepsOrder (action_rule a edge g) f
action_keeps (action.Test kind p1 p2 r2 r3 c) edge g f un = test_keeps kind p1 p2 g f un
action_keeps (action.ToPredicates r2 mask w) edge g f un = raised_keeps (is_moved mask) g f refl un
action_keeps (action.Jump disp) Falls g f un = falls_keeps g f un
action_keeps (action.Call b1 callee) Falls g f un = falls_keeps g f un
action_keeps (action.JumpIndirect b2) Falls g f un = falls_keeps g f un
action_keeps (action.Return b2) Falls g f un = falls_keeps g f un
action_keeps (action.Stop unit imm) Falls g f un = falls_keeps g f un
action_keeps (action.Call b1 callee) Taken g f un = static_keeps f un
action_keeps (action.ClearBases pred_only) edge g f un = static_keeps f un
action_keeps (action.Loop kind disp) edge g f un = loop_keeps kind edge f un
action_keeps a edge g f un = one_keeps f un

-- The law.
pub after_unordered : (f : Pairs) (i : Insn) (e : Edge) → IsUnordered f → IsUnordered (pairs_after f i e)
unfolding pairs_after rule_of in_range
after_unordered f i e un = let k = action_keeps (action_of i.op) e i.qp f un in record {
  swaps =
      λ x y. ap (λ (b : Bool). b && is_met (rule_of i e x y) f) (and_comm (nat_lt x 64) (nat_lt y 64))
      ∙ ap (λ (b : Bool). (nat_lt y 64 && nat_lt x 64) && b) (k.swaps x y);
  alone =
      λ x. ap (λ (b : Bool). (nat_lt x 64 && nat_lt x 64) && b) (k.alone x)
      ∙ ap (λ (b : Bool). b && is_met (rule_of i e x 0) f) (twice (nat_lt x 64));
}

-- The set without a pair, a meet, and a set with one pair more.
pub none_unordered : IsUnordered no_pairs
unfolding no_pairs
none_unordered = record { swaps = λ x y. refl; alone = λ x. refl }

pub common_unordered : (f g : Pairs) → IsUnordered f → IsUnordered g → IsUnordered (common f g)
unfolding common
common_unordered f g u v = record {
  swaps = λ x y. ap (λ (b : Bool). b && g x y) (u.swaps x y) ∙ ap (λ (b : Bool). f y x && b) (v.swaps x y);
  alone = λ x. ap (λ (b : Bool). b && g x x) (u.alone x) ∙ ap (λ (b : Bool). f x 0 && b) (v.alone x);
}

same_pair_swaps : (a b x y : ℕ) → is_same_pair a b x y ≡ is_same_pair a b y x
same_pair_swaps a b x y =
    or_swaps (eqb x a && eqb y b) (eqb x b && eqb y a) ∙ ap (λ (c : Bool). c || (eqb x a && eqb y b)) (and_comm (eqb x b) (eqb y a))
    ∙ ap (λ (c : Bool). (eqb y a && eqb x b) || c) (and_comm (eqb x a) (eqb y b))

other_apart : (x y : ℕ) → x ≢ y → other_of x y ≡ y
other_apart x y ne = rw (ne_eqb x y ne) refl

other_same : (x : ℕ) → other_of x x ≡ other_of x 0
other_same x = rw (eq-eqb x x refl) (by_bool (eqb x 0))
  where
    by_bool : (b : Bool) → 0 ≡ cond {A = ℕ} b 0 0
    by_bool true = refl
    by_bool false = refl

pub plus_unordered : (f : Pairs) (a b : ℕ) → IsUnordered f → IsUnordered (with_pair f a b)
unfolding with_pair
plus_unordered f a b un = record {
  swaps =
      λ x y. ap (λ (c : Bool). c || is_same_pair a (other_of a b) x (other_of x y)) (un.swaps x y)
      ∙ ap (λ (c : Bool). f y x || c) (pair_swaps x y);
  alone =
      λ x. ap (λ (c : Bool). c || is_same_pair a (other_of a b) x (other_of x x)) (un.alone x)
      ∙ ap (λ (k : ℕ). f x 0 || is_same_pair a (other_of a b) x k) (other_same x);
}
  where
    pair_swaps : (x y : ℕ) → is_same_pair a (other_of a b) x (other_of x y) ≡ is_same_pair a (other_of a b) y (other_of y x)
    pair_swaps x y = elim (cases_eq x y) [
      | inl e ↦ ap (λ (k : ℕ). is_same_pair a (other_of a b) k (other_of k y)) e
          ∙ sym (ap (λ (k : ℕ). is_same_pair a (other_of a b) y (other_of y k)) e)
      | inr ne ↦ rw (other_apart x y ne, other_apart y x (λ e. ne (sym e))) (same_pair_swaps a (other_of a b) x y)
    ]
