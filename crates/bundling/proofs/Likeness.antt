-- An instruction with an address put in does the same within a group.
use Rattle.std.proofs.Common.{◌≡◌, ℕ, ◌==◌, ◌&&◌, not, refl, sym, ◌∙◌, ap, ℤ, pos, ◌-ℤ◌, Option, Some, None}
use mathlib.Core.Path.{fun_ext}
use Rattle.std.specs.Prelude.{unwrap_or}
use Rattle.ia_insn.specs.declared.insn.Insn.{Insn}
use Rattle.ia_insn.specs.declared.insn.Op.{Op}
use Rattle.ia_insn.specs.declared.insn.Op.TheVariants as op
use Rattle.ia_insn.specs.declared.choices.BranchKind.TheVariants as branch
use Rattle.ia_meaning.specs.declared.action.Action.TheVariants as action
use Rattle.ia_meaning.specs.declared.action.CallTarget.{CallTarget}
use Rattle.ia_meaning.specs.declared.action.CallTarget.TheVariants as callee
use Rattle.ia_meaning.specs.Actions.{action_of, is_alloc}
use Rattle.resource_sets.specs.Rows.{listed}
use Rattle.resource_sets.specs.Accesses.{rows}
use Rattle.predicate_rel.specs.declared.edge.Edge.{Edge}
use Rattle.predicate_rel.specs.declared.edge.Edge.TheVariants.{Falls, Taken}
use Rattle.predicate_rel.specs.Pairs.{Pairs, in_range}
use Rattle.predicate_rel.specs.Rules.{is_met, action_rule, rule_of, pairs_after}
use Rattle.predicate_rel.specs.Edges.{leaves}
use Rattle.order_laws.specs.Violations.{clears}
use Rattle.sequence_laws.specs.Spreads.{DoesLike}
use Rattle.asm_build.specs.declared.address.Address.{Address}
use Rattle.asm_build.specs.declared.address.Address.TheVariants.{Bundle, Byte}
use Rattle.asm_build.specs.Addresses.{addressed}
use Rattle.bundling.specs.Bundled.{relocated, put_in}

abbrev under : ℕ → Op → Insn
under qp x = record { qp = qp; op = x }

abbrev SameRules : Op → Op → Type 0
SameRules x y = (e : Edge) (g p q : ℕ) → action_rule (action_of x) e g p q ≡ action_rule (action_of y) e g p q

same_pairs : (qp : ℕ) (x y : Op) → SameRules x y → (f : Pairs) (e : Edge) → pairs_after f (under qp x) e ≡ pairs_after f (under qp y) e
unfolding pairs_after rule_of
same_pairs qp x y same f e = fun_ext (λ p. fun_ext (λ q. ap (λ r. in_range p q && is_met r f) (same e qp p q)))

alike : (qp : ℕ) (x y : Op) → rows qp (action_of x) ≡ rows qp (action_of y) → leaves (action_of x) ≡ leaves (action_of y) → SameRules x y
    → is_alloc (action_of x) ≡ is_alloc (action_of y) → clears (action_of x) ≡ clears (action_of y) → DoesLike (under qp x) (under qp y)
alike qp x y same_rows same_leaves same_rules same_alloc same_clears = record {
  accesses = ap (listed qp) same_rows;
  falls = ap (λ b. not ((qp == 0) && b)) same_leaves;
  pairs = same_pairs qp x y same_rules;
  allocates = same_alloc;
  clears = same_clears;
}

like_itself : (i : Insn) → DoesLike i i
like_itself i = record { accesses = refl; falls = refl; pairs = λ f e. refl; allocates = refl; clears = refl }

like_both : (i j k : Insn) → DoesLike i j → DoesLike i k → DoesLike j k
like_both i j k one two = record {
  accesses = sym one.accesses ∙ two.accesses;
  falls = sym one.falls ∙ two.falls;
  pairs = λ f e. sym (one.pairs f e) ∙ two.pairs f e;
  allocates = sym one.allocates ∙ two.allocates;
  clears = sym one.clears ∙ two.clears;
}

jump_rule : (a b : ℤ) (e : Edge) (g p q : ℕ) → action_rule (action.Jump a) e g p q ≡ action_rule (action.Jump b) e g p q
jump_rule a b Falls g p q = refl
jump_rule a b Taken g p q = refl

call_rule : (b1 : ℕ) (a b : CallTarget) (e : Edge) (g p q : ℕ)
    → action_rule (action.Call b1 a) e g p q ≡ action_rule (action.Call b1 b) e g p q
call_rule b1 a b Falls g p q = refl
call_rule b1 a b Taken g p q = refl

like_addressed : (qp : ℕ) (x : Op) (a : Address) (n : ℕ) → DoesLike (under qp x) (under qp (unwrap_or (addressed x a n) x))
unfolding rows
like_addressed qp (op.ChkS unit r2 disp) (Bundle m) n = alike qp _ _ refl refl (λ e g p q. refl) refl refl
like_addressed qp (op.ChkA clear r1 disp) (Bundle m) n = alike qp _ _ refl refl (λ e g p q. refl) refl refl
like_addressed qp (op.Br branch.Cond wh many clr disp) (Bundle m) n = alike qp _ _ refl refl (jump_rule disp (pos m -ℤ pos n)) refl refl
like_addressed qp (op.Br kind wh many clr disp) (Bundle m) n = alike qp _ _ refl refl (λ e g p q. refl) refl refl
like_addressed qp (op.BrCall b1 wh many clr disp) (Bundle m) n =
    alike qp _ _ refl refl (call_rule b1 (callee.Direct disp) (callee.Direct (pos m -ℤ pos n))) refl refl
like_addressed qp (op.Movl r1 imm) (Bundle m) n = alike qp _ _ refl refl (λ e g p q. refl) refl refl
like_addressed qp (op.Movl r1 imm) (Byte at) n = alike qp _ _ refl refl (λ e g p q. refl) refl refl
like_addressed qp x a n = like_itself (under qp x)

like_put : (f : ℕ → ℕ) (own : ℕ) (i : Insn) (target : Option Address) → DoesLike i (under i.qp (put_in f own i.op target))
like_put f own i None = like_itself i
like_put f own i (Some a) = like_addressed i.qp i.op (relocated f a) own

-- An instruction does the same with its target put in by one counting and by another.
pub like_puts : (f g : ℕ → ℕ) (own other : ℕ) (i : Insn) (target : Option Address)
    → DoesLike (record { qp = i.qp; op = put_in f own i.op target }) (record { qp = i.qp; op = put_in g other i.op target })
like_puts f g own other i target = like_both i _ _ (like_put f own i target) (like_put g other i target)

-- An instruction with its target put in allocates or clears exactly where its item does.
pub allocates_put : (f : ℕ → ℕ) (own : ℕ) (i : Insn) (target : Option Address)
    → is_alloc (action_of (put_in f own i.op target)) ≡ is_alloc (action_of i.op)
allocates_put f own i target = sym (like_put f own i target).allocates

pub clears_put : (f : ℕ → ℕ) (own : ℕ) (i : Insn) (target : Option Address)
    → clears (action_of (put_in f own i.op target)) ≡ clears (action_of i.op)
clears_put f own i target = sym (like_put f own i target).clears
