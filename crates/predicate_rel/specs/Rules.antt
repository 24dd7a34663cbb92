-- What is known of a pair of predicates after an instruction (volume 3, chapter 2): one rule for each pair, by the action
-- of the instruction, its qualifying predicate g and the edge on which control goes on.
use Rattle.std.specs.Prelude.{ℕ, ◌-◌, Bool, true, false, ◌&&◌, ◌||◌, not, nat_lt, ◌==◌, if◌then◌else◌}
use Rattle.ia_insn.specs.declared.choices.CmpKind.{CmpKind}
use Rattle.ia_insn.specs.declared.choices.CmpKind.TheVariants as cmp
use Rattle.ia_insn.specs.declared.choices.BranchKind.{BranchKind}
use Rattle.ia_insn.specs.declared.choices.BranchKind.TheVariants as branch
use Rattle.ia_insn.specs.declared.insn.Insn.{Insn}
use Rattle.ia_meaning.specs.declared.action.Action.{Action}
use Rattle.ia_meaning.specs.declared.action.Action.TheVariants as action
use Rattle.ia_meaning.specs.Actions.{insn_action}
use Rattle.ia_meaning.specs.Moves.{is_masked}
use Rattle.predicate_rel.specs.declared.edge.Edge.{Edge}
use Rattle.predicate_rel.specs.declared.edge.Edge.TheVariants.{Falls, Taken}
use Rattle.predicate_rel.specs.declared.rows.Kept.{Kept}
use Rattle.predicate_rel.specs.declared.rows.Kept.TheVariants.{Own, Guard, Both}
use Rattle.predicate_rel.specs.Pairs.{Pairs, in_range}

-- When a pair is there after an instruction: always, never, where one pair was there before, or where two were.
pub data PairRule : Type 0 where
  always : PairRule
  never : PairRule
  one : ℕ → ℕ → PairRule
  two : ℕ → ℕ → ℕ → ℕ → PairRule

-- The set before the instruction has what the rule asks for.
abbrev pub is_met : PairRule → Pairs → Bool
is_met always f = true
is_met never f = false
is_met (one a b) f = f a b
is_met (two a b c d) f = f a b && f c d

-- The rule of the pair (x, y) of a predicate that is written and one that isn't, which is u.
abbrev pub kept_rule : Kept → (g x y u : ℕ) → PairRule
kept_rule Own g x y u = one x y
kept_rule Guard g x y u = one g u
kept_rule Both g x y u = two x y g u

-- A choice by whether the first and the second of a pair are written.
abbrev pub by_written : Bool → Bool → (both first second neither : PairRule) → PairRule
by_written true true both first second neither = both
by_written true false both first second neither = first
by_written false true both first second neither = second
by_written false false both first second neither = neither

-- The second of a pair: (x, x) stands for (x, p0), where x is written.
abbrev pub partner : (ℕ → Bool) → ℕ → ℕ → ℕ
partner is_written x y = if is_written x && x == y then 0 else y

-- Some predicates are written. Two of them have the pair by `both`, and one of them keeps its pairs with others by `kept`.
-- A pair of predicates that aren't written stays.
abbrev pub written_rule : (ℕ → Bool) → (both : ℕ → ℕ → PairRule) → (kept : ℕ → Kept) → (g x y : ℕ) → PairRule
written_rule is_written both kept g x y =
    by_written (is_written x) (is_written (partner is_written x y)) (both x y)
    (kept_rule (kept x) g x (partner is_written x y) (partner is_written x y))
    (kept_rule (kept y) g x y x) (one x y)

-- A test writes its targets, but for p0.
abbrev pub is_target : ℕ → ℕ → ℕ → Bool
is_target p1 p2 x = not (x == 0) && (x == p1 || x == p2)

-- What is written may become 1 where g is 1: (x, y) stays where (g, y) was there too, and the pair of two written ones where
-- (g, p0) was, that is, where g is 0.
abbrev pub raised_rule : (ℕ → Bool) → (g x y : ℕ) → PairRule
raised_rule is_written g x y = written_rule is_written (λ a b. two a b g 0) (λ _. Both) g x y

-- Where a normal test is executed, one of its targets becomes 0 at least; where it isn't, both stay.
abbrev pub normal_targets : (p1 p2 g : ℕ) → PairRule
normal_targets p1 p2 g = if g == 0 then always else one p1 p2

-- `or.andcm` makes its first target 1 or leaves it, and its second 0 or leaves it
abbrev pub or_andcm_kept : ℕ → ℕ → Kept
or_andcm_kept p1 x = if x == p1 then Both else Own

-- Tests, by their kind (`cmp`, comparison types). Where x is a target and y isn't written, these are there afterwards:
-- normal: (x, y) where it and (g, y) were; the pair of the targets where g is p0, or where it was;
-- unc: (x, y) where (g, y) was; the pair of the targets always;
-- or: (x, y) where it and (g, y) were; the pair of the targets where it and (g, p0) were;
-- and: all pairs stay, since the targets only become 0;
-- or.andcm: of the first target (x, y) where it and (g, y) were; all other pairs stay.
abbrev pub test_rule : CmpKind → (p1 p2 g x y : ℕ) → PairRule
test_rule cmp.Normal p1 p2 g x y = written_rule (is_target p1 p2) (λ _ _. normal_targets p1 p2 g) (λ _. Both) g x y
test_rule cmp.Unc p1 p2 g x y = written_rule (is_target p1 p2) (λ _ _. always) (λ _. Guard) g x y
test_rule cmp.Or p1 p2 g x y = raised_rule (is_target p1 p2) g x y
test_rule cmp.And p1 p2 g x y = one x y
test_rule cmp.OrAndcm p1 p2 g x y = written_rule (is_target p1 p2) one (or_andcm_kept p1) g x y

-- A move to the predicates writes those under its mask, but for p0.
abbrev pub is_moved : ℕ → ℕ → Bool
is_moved mask x = not (x == 0) && is_masked mask x

abbrev pub move_rule : (mask g x y : ℕ) → PairRule
move_rule mask g x y = raised_rule (is_moved mask) g x y

-- Where a branch or a `break` falls through, its qualifying predicate g is 0: all pairs of g are there, and the others stay.
-- Where g is p0 it never falls through, and each predicate may be said to be 0.
abbrev pub falls_rule : (g x y : ℕ) → PairRule
falls_rule g x y = if x == g || y == g || (x == y && g == 0) then always else one x y

-- The pairs of which both are below p16 stay: the other predicates may have got other names.
abbrev pub static_rule : (x y : ℕ) → PairRule
static_rule x y = if nat_lt x 16 && nat_lt y 16 then one x y else never

-- The name before a rotation of what is named x after it, which isn't p16.
abbrev pub name_before : ℕ → ℕ
name_before x = if nat_lt x 16 then x else (x - 1)

-- A rotation: each of p16 to p62 gets the next name, and p63 becomes p16, of whose pairs `first` says what is known.
abbrev pub rotated_rule : (first : PairRule) → (x y : ℕ) → PairRule
rotated_rule first x y = if x == 16 || y == 16 then first else one (name_before x) (name_before y)

-- The loop branches. On one edge the registers have rotated, `wtop` and `wexit` with p63 at 0; on the other they may have.
-- `cloop` touches no predicate.
abbrev pub loop_rule : BranchKind → Edge → (x y : ℕ) → PairRule
loop_rule branch.Ctop Taken x y = rotated_rule never x y
loop_rule branch.Cexit Falls x y = rotated_rule never x y
loop_rule branch.Wtop Taken x y = rotated_rule always x y
loop_rule branch.Wexit Falls x y = rotated_rule always x y
loop_rule branch.Ctop Falls x y = static_rule x y
loop_rule branch.Cexit Taken x y = static_rule x y
loop_rule branch.Wtop Falls x y = static_rule x y
loop_rule branch.Wexit Taken x y = static_rule x y
loop_rule kind edge x y = one x y

-- The rule by the action. A call that is taken and `clrrrb` rename p16 to p63. All other actions, and taken branches,
-- leave the set as it is.
abbrev pub action_rule : Action → Edge → (g x y : ℕ) → PairRule
action_rule (action.Test kind p1 p2 r2 r3 c) edge g x y = test_rule kind p1 p2 g x y
action_rule (action.ToPredicates r2 mask w) edge g x y = move_rule mask g x y
action_rule (action.Jump disp) Falls g x y = falls_rule g x y
action_rule (action.Call b1 callee) Falls g x y = falls_rule g x y
action_rule (action.JumpIndirect b2) Falls g x y = falls_rule g x y
action_rule (action.Return b2) Falls g x y = falls_rule g x y
action_rule (action.Stop unit imm) Falls g x y = falls_rule g x y
action_rule (action.Call b1 callee) Taken g x y = static_rule x y
action_rule (action.ClearBases pred_only) edge g x y = static_rule x y
action_rule (action.Loop kind disp) edge g x y = loop_rule kind edge x y
action_rule f edge g x y = one x y

-- The rule of a pair.
unfoldable pub rule_of : Insn → Edge → ℕ → ℕ → PairRule
rule_of insn edge x y = action_rule (insn_action insn) edge insn.qp x y

-- The pairs of predicates whose rules are met.
abbrev pub pairs_by : Pairs → (ℕ → ℕ → PairRule) → Pairs
pairs_by f rules = λ x y. in_range x y && is_met (rules x y) f

-- The pairs after an instruction.
unfoldable pub pairs_after : Pairs → Insn → Edge → Pairs
pairs_after f insn edge = pairs_by f (rule_of insn edge)
