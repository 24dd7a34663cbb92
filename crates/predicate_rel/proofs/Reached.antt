-- Which rows have a part in what is known past an instruction.
use Rattle.std.proofs.Common.{◌≡◌, ◌≢◌, ℕ, ◌-◌, ◌<◌, Bool, true, false, cond, ◌&&◌, ◌||◌, not, eqb, eqb-true, refl, sym, ◌∙◌, subst, inl, inr, ◌⊎◌, arith}
use Rattle.std.proofs.lemmas.Bool.{cases_eq, and_parts, and_cases, or_cases, or_parts, or_from, true≢false}
use Rattle.std.specs.Prelude.{nat_lt}
use Rattle.ia_insn.specs.declared.choices.CmpKind.{CmpKind}
use Rattle.ia_insn.specs.declared.choices.CmpKind.TheVariants as cmp
use Rattle.ia_insn.specs.declared.choices.BranchKind.{BranchKind}
use Rattle.ia_insn.specs.declared.choices.BranchKind.TheVariants as branch
use Rattle.ia_meaning.specs.declared.action.Action.{Action}
use Rattle.ia_meaning.specs.declared.action.Action.TheVariants as action
use Rattle.predicate_rel.specs.declared.edge.Edge.{Edge}
use Rattle.predicate_rel.specs.declared.edge.Edge.TheVariants.{Falls, Taken}
use Rattle.predicate_rel.specs.declared.rows.Kept.{Kept}
use Rattle.predicate_rel.specs.declared.rows.Kept.TheVariants.{Own, Guard, Both}
use Rattle.predicate_rel.specs.Pairs.{Pairs, has_bit, in_range}
use Rattle.predicate_rel.specs.Changes.{AgreeOutside}
use Rattle.predicate_rel.specs.Rules.{PairRule, always, never, one, two, is_met, kept_rule, by_written, partner, written_rule, is_target, normal_targets, or_andcm_kept, test_rule, raised_rule, is_moved, falls_rule, static_rule, name_before, rotated_rule, loop_rule, action_rule, pairs_by}
use Rattle.predicate_rel.proofs.PairLemmas.{in_range_parts}

-- Two pairs that are there in one set where they are in the other.
and_same : {a b c d : Bool} → a ≡ c → b ≡ d → (a && b) ≡ (c && d)
and_same p q = λ i. p i && q i

-- A rule that is a choice asks for the same in both sets where each of its two does.
choice_same : (b : Bool) (r s : PairRule) (f h : Pairs) → is_met r f ≡ is_met r h → is_met s f ≡ is_met s h
    → is_met (cond b r s) f ≡ is_met (cond b r s) h
choice_same true r s f h p q = p
choice_same false r s f h p q = q

-- What a written predicate keeps is asked of its own row and that of the guard.
kept_same : (k : Kept) (g x y u : ℕ) (f h : Pairs) → ((z : ℕ) → f x z ≡ h x z) → ((z : ℕ) → f g z ≡ h g z)
    → is_met (kept_rule k g x y u) f ≡ is_met (kept_rule k g x y u) h
kept_same Own g x y u f h own guard = own y
kept_same Guard g x y u f h own guard = guard u
kept_same Both g x y u f h own guard = and_same (own y) (guard u)

written_same : (t : ℕ → Bool) (both : ℕ → ℕ → PairRule) (kept : ℕ → Kept) (g x y : ℕ) (f h : Pairs) → ((z : ℕ) → f x z ≡ h x z)
    → ((z : ℕ) → f g z ≡ h g z) → (t x ≡ true → is_met (both x y) f ≡ is_met (both x y) h)
    → is_met (written_rule t both kept g x y) f ≡ is_met (written_rule t both kept g x y) h
written_same t both kept g x y f h own guard written = by_bools (t x) refl (t (partner t x y)) (partner t x y)
  where
    by_bools : (a : Bool) → t x ≡ a → (b : Bool) (u : ℕ) → is_met
        (by_written a b (both x y) (kept_rule (kept x) g x u u) (kept_rule (kept y) g x y x) (one x y)) f
        ≡ is_met (by_written a b (both x y) (kept_rule (kept x) g x u u) (kept_rule (kept y) g x y x) (one x y)) h
    by_bools true e true u = written e
    by_bools true e false u = kept_same (kept x) g x u u f h own guard
    by_bools false e true u = kept_same (kept y) g x y x f h own guard
    by_bools false e false u = own y

raised_same : (t : ℕ → Bool) (g x y : ℕ) (f h : Pairs) → ((z : ℕ) → f x z ≡ h x z) → ((z : ℕ) → f g z ≡ h g z)
    → is_met (raised_rule t g x y) f ≡ is_met (raised_rule t g x y) h
raised_same t g x y f h own guard = written_same t (λ a b. two a b g 0) (λ _. Both) g x y f h own guard (λ e. and_same (own y) (guard 0))

-- The pair of the targets is asked of the row of the first, also by the second.
targets_same : (p1 p2 g x : ℕ) (f h : Pairs) → is_target p1 p2 x ≡ true → ((z : ℕ) → f x z ≡ h x z)
    → (eqb x p2 ≡ true → (z : ℕ) → f p1 z ≡ h p1 z) → is_met (normal_targets p1 p2 g) f ≡ is_met (normal_targets p1 p2 g) h
targets_same p1 p2 g x f h target own second =
    choice_same (eqb g 0) always (one p1 p2) f h refl (by_target (or_cases (eqb x p1) (eqb x p2)
    (and_parts (not (eqb x 0)) (eqb x p1 || eqb x p2) target).1))
  where
    by_target : (eqb x p1 ≡ true) ⊎ (eqb x p2 ≡ true) → f p1 p2 ≡ h p1 p2
    by_target (inl e) = subst (λ (k : ℕ). f k p2 ≡ h k p2) (eqb-true x p1 e) (own p2)
    by_target (inr e) = second e p2

test_same : (kind : CmpKind) (p1 p2 g x y : ℕ) (f h : Pairs) → ((z : ℕ) → f x z ≡ h x z) → ((z : ℕ) → f g z ≡ h g z)
    → (eqb x p2 ≡ true → (z : ℕ) → f p1 z ≡ h p1 z) → is_met (test_rule kind p1 p2 g x y) f ≡ is_met (test_rule kind p1 p2 g x y) h
test_same cmp.Normal p1 p2 g x y f h own guard second =
    written_same (is_target p1 p2) (λ _ _. normal_targets p1 p2 g)
    (λ _. Both) g x y f h own guard (λ e. targets_same p1 p2 g x f h e own second)
test_same cmp.Unc p1 p2 g x y f h own guard second =
    written_same (is_target p1 p2) (λ _ _. always) (λ _. Guard) g x y f h own guard (λ e. refl)
test_same cmp.Or p1 p2 g x y f h own guard second = raised_same (is_target p1 p2) g x y f h own guard
test_same cmp.And p1 p2 g x y f h own guard second = own y
test_same cmp.OrAndcm p1 p2 g x y f h own guard second =
    written_same (is_target p1 p2) one (or_andcm_kept p1) g x y f h own guard (λ e. own y)

rotated_same : (first : PairRule) (x y : ℕ) (f h : Pairs) → is_met first f ≡ is_met first h
    → ((z : ℕ) → f (name_before x) z ≡ h (name_before x) z) → is_met (rotated_rule first x y) f ≡ is_met (rotated_rule first x y) h
rotated_same first x y f h start before =
    choice_same (eqb x 16 || eqb y 16) first (one (name_before x) (name_before y)) f h start (before (name_before y))

static_same : (x y : ℕ) (f h : Pairs) → ((z : ℕ) → f x z ≡ h x z) → is_met (static_rule x y) f ≡ is_met (static_rule x y) h
static_same x y f h own = choice_same (nat_lt x 16 && nat_lt y 16) (one x y) never f h (own y) refl

loop_same : (kind : BranchKind) (edge : Edge) (x y : ℕ) (f h : Pairs) → ((z : ℕ) → f x z ≡ h x z)
    → ((z : ℕ) → f (name_before x) z ≡ h (name_before x) z) → is_met (loop_rule kind edge x y) f ≡ is_met (loop_rule kind edge x y) h
loop_same branch.Ctop Taken x y f h own before = rotated_same never x y f h refl before
loop_same branch.Cexit Falls x y f h own before = rotated_same never x y f h refl before
loop_same branch.Wtop Taken x y f h own before = rotated_same always x y f h refl before
loop_same branch.Wexit Falls x y f h own before = rotated_same always x y f h refl before
loop_same branch.Ctop Falls x y f h own before = static_same x y f h own
loop_same branch.Cexit Taken x y f h own before = static_same x y f h own
loop_same branch.Wtop Falls x y f h own before = static_same x y f h own
loop_same branch.Wexit Taken x y f h own before = static_same x y f h own
loop_same kind edge x y f h own before = own y

falls_same : (g x y : ℕ) (f h : Pairs) → ((z : ℕ) → f x z ≡ h x z) → is_met (falls_rule g x y) f ≡ is_met (falls_rule g x y) h
falls_same g x y f h own = choice_same (eqb x g || eqb y g || (eqb x y && eqb g 0)) always (one x y) f h refl (own y)

-- Whether a row of the word has a part in the row x past an instruction.
abbrev pub has_part : Action → (g w x : ℕ) → Bool
has_part (action.Test kind p1 p2 r2 r3 c) g w x = (has_bit w x || (has_bit w p1 && eqb x p2)) || has_bit w g
has_part (action.ToPredicates r2 mask word) g w x = has_bit w x || has_bit w g
has_part (action.Loop kind disp) g w x = has_bit w x || has_bit w (x - 1)
has_part a g w x = has_bit w x

-- The name before a rotation is one that has a part.
before_same : (w x : ℕ) (f h : Pairs) → AgreeOutside w f h → has_bit w x ≡ false → has_bit w (x - 1) ≡ false → (z : ℕ)
    → f (name_before x) z ≡ h (name_before x) z
before_same w x f h agree own before z = by_bool (nat_lt x 16)
  where
    by_bool : (b : Bool) → f (cond b x (x - 1)) z ≡ h (cond b x (x - 1)) z
    by_bool true = agree.same x z own
    by_bool false = agree.same (x - 1) z before

-- Rules are met by both sets in each row in which none of those that differ has a part.
action_same : (a : Action) (edge : Edge) (g w x y : ℕ) (f h : Pairs) → AgreeOutside w f h → has_part a g w x ≡ false
    → is_met (action_rule a edge g x y) f ≡ is_met (action_rule a edge g x y) h
action_same (action.Test kind p1 p2 r2 r3 c) edge g w x y f h agree none =
    let parts = or_parts (has_bit w x || (has_bit w p1 && eqb x p2)) (has_bit w g) none in
    let own = or_parts (has_bit w x) (has_bit w p1 && eqb x p2) parts.0 in
    test_same kind p1 p2 g x y f h (λ z. agree.same x z own.0) (λ z. agree.same g z parts.1)
    (λ e z. agree.same p1 z (second (and_cases (has_bit w p1) (eqb x p2) own.1) e))
  where
    second : (has_bit w p1 ≡ false) ⊎ (eqb x p2 ≡ false) → eqb x p2 ≡ true → has_bit w p1 ≡ false
    second (inl n) e = n
    second (inr n) e = absurd (true≢false (sym e ∙ n))
action_same (action.ToPredicates r2 mask word) edge g w x y f h agree none =
    let parts = or_parts (has_bit w x) (has_bit w g) none in
    raised_same (is_moved mask) g x y f h (λ z. agree.same x z parts.0) (λ z. agree.same g z parts.1)
action_same (action.Jump disp) Falls g w x y f h agree none = falls_same g x y f h (λ z. agree.same x z none)
action_same (action.Call b1 callee) Falls g w x y f h agree none = falls_same g x y f h (λ z. agree.same x z none)
action_same (action.JumpIndirect b2) Falls g w x y f h agree none = falls_same g x y f h (λ z. agree.same x z none)
action_same (action.Return b2) Falls g w x y f h agree none = falls_same g x y f h (λ z. agree.same x z none)
action_same (action.Stop unit imm) Falls g w x y f h agree none = falls_same g x y f h (λ z. agree.same x z none)
action_same (action.Call b1 callee) Taken g w x y f h agree none = static_same x y f h (λ z. agree.same x z none)
action_same (action.ClearBases pred_only) edge g w x y f h agree none = static_same x y f h (λ z. agree.same x z none)
action_same (action.Loop kind disp) edge g w x y f h agree none =
    let parts = or_parts (has_bit w x) (has_bit w (x - 1)) none in
    loop_same kind edge x y f h (λ z. agree.same x z parts.0) (before_same w x f h agree parts.0 parts.1)
action_same a edge g w x y f h agree none = agree.same x y none

-- What follows from two sets agrees in the rows in which none of the differing rows has a part.
pub agree_past : (a : Action) (g w r : ℕ) → ((x : ℕ) → x < 64 → has_bit r x ≡ false → has_part a g w x ≡ false)
    → (edge : Edge) (f h : Pairs) → AgreeOutside w f h → AgreeOutside r (pairs_by f (action_rule a edge g))
    (pairs_by h (action_rule a edge g))
agree_past a g w r parts edge f h agree = record { same = λ x y none. by_range x y none (in_range x y) refl }
  where
    by_range : (x y : ℕ) → has_bit r x ≡ false → (b : Bool) → in_range x y ≡ b
        → (b && is_met (action_rule a edge g x y) f) ≡ (b && is_met (action_rule a edge g x y) h)
    by_range x y none true e = action_same a edge g w x y f h agree (parts x (in_range_parts x y e).0 none)
    by_range x y none false e = refl

-- The row before has a part in a loop's where a word that is moved up has the bit.
pub before_part : (w moved r x : ℕ) → (x ≢ 0 → has_bit moved x ≡ has_bit w (x - 1)) → has_bit r x ≡ (has_bit w x || has_bit moved x)
    → has_bit r x ≡ false → (has_bit w x || has_bit w (x - 1)) ≡ false
before_part w moved r x up is none = or_from (has_bit w x) (has_bit w (x - 1)) parts.0 (by_zero (cases_eq x 0))
  where
    parts : (has_bit w x ≡ false) × (has_bit moved x ≡ false)
    parts = or_parts (has_bit w x) (has_bit moved x) (sym is ∙ none)

    by_zero : (x ≡ 0) ⊎ (x ≡ 0 → ⊥) → has_bit w (x - 1) ≡ false
    by_zero (inl e) = let first : x - 1 ≡ x = omega arith in rw first parts.0
    by_zero (inr ne) = sym (up ne) ∙ parts.1
