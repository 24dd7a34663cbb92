-- Along the edge that a step follows, what is known of the predicates stays true.
use Rattle.std.proofs.Common.{◌≡◌, ◌≢◌, ℕ, zero, suc, ◌%◌, ◌<◌, Bool, true, false, not, List, [], ◌∷◌, length, Option, Some, None, refl, sym, ap, ◌∙◌, subst, arith}
use Rattle.std.specs.Prelude.{⊤, ℤ, IsSome}
use Rattle.std.specs.List.{AllByRecursion as Each}
use Rattle.std.proofs.lemmas.Bool.{and_parts}
use Rattle.ia_insn.specs.declared.choices.CmpKind.{CmpKind}
use Rattle.ia_insn.specs.declared.choices.CmpKind.TheVariants as cmp
use Rattle.ia_insn.specs.declared.choices.BranchKind.{BranchKind}
use Rattle.ia_insn.specs.declared.choices.BranchKind.TheVariants as branch
use Rattle.ia_insn.specs.declared.choices.Update.{Update}
use Rattle.ia_insn.specs.declared.choices.Update.TheVariants as update
use Rattle.ia_insn.specs.declared.registers.Ar.{Ar}
use Rattle.ia_insn.specs.declared.registers.Ar.TheVariants as ar
use Rattle.ia_insn.specs.declared.insn.Insn.{Insn}
use Rattle.ia_insn.specs.Ranges.{IsQualifier}
use Rattle.ia_program.specs.declared.place.Place.{Place}
use Rattle.ia_program.specs.Places.{insn_at}
use Rattle.ia_program.specs.Programs.{Program, IsProgram}
use Rattle.ia_program.proofs.ListedSlots.{listed_at}
use Rattle.ia_meaning.specs.declared.next.Next.{Next}
use Rattle.ia_meaning.specs.declared.next.Next.TheVariants as next
use Rattle.ia_meaning.specs.declared.state.Cell.{Cell}
use Rattle.ia_meaning.specs.declared.state.FrameShape.{FrameShape}
use Rattle.ia_meaning.specs.declared.state.Spot.{Spot}
use Rattle.ia_meaning.specs.declared.state.Spot.TheVariants.{Static, Stacked}
use Rattle.ia_meaning.specs.declared.turn.Turn.{Turn}
use Rattle.ia_meaning.specs.declared.action.CallTarget.TheVariants.{Direct, Indirect}
use Rattle.ia_meaning.specs.State.{zero_cell, Registers, Memory, State, IsFrame, IsState}
use Rattle.ia_meaning.specs.declared.write.Write.{Write}
use Rattle.ia_meaning.specs.declared.write.Write.TheVariants.{SetPredicate, SetBranch, SetUnat, SetPfs, SetLc, SetEc, SetFrame}
use Rattle.ia_meaning.specs.declared.write.FrameCause.TheVariants.{Resized, Renamed}
use Rattle.ia_meaning.specs.Writes.{apply}
use Rattle.ia_meaning.specs.Names.{predicate_index, holds, predicate_spot, set_spot, set_predicate}
use Rattle.ia_meaning.specs.Outcomes.{Outcome}
use Rattle.ia_meaning.specs.declared.action.MovedWord.{MovedWord}
use Rattle.ia_meaning.specs.declared.action.Action.{Action}
use Rattle.ia_meaning.specs.declared.action.Action.TheVariants.{Compute, Fetch, Test, ToPredicates, ToBranch, ToApplication, FromMemory, ToMemory, Exchange, CheckNat, CheckAlat, InvalidateAll, Invalidate, Allocate, Jump, JumpIndirect, Loop, Call, Return, ClearBases, Stop, Idle}
use Rattle.ia_meaning.specs.Actions.{action_of, result_of, moved}
use Rattle.ia_meaning.specs.Moves.{test_writes}
use Rattle.ia_meaning.specs.Loads.{base_writes}
use Rattle.ia_meaning.specs.Frames.{with_sizes, call_writes, rotated, cleared}
use Rattle.ia_meaning.specs.Landings.{target_of}
use Rattle.ia_meaning.specs.Loops.{counted_turn, while_turn, simple_turn, turn_of, turn_writes}
use Rattle.ia_meaning.specs.Effects.{Site, site, effect}
use Rattle.ia_meaning.specs.Sequence.{first_of, next_of, is_stopped}
use Rattle.ia_meaning.specs.Steps.{Step, settled, outcome_of, spilled, registers_after, step_by, step_of}
use Rattle.ia_meaning.proofs.StepHere.{by_insn}
use Rattle.ia_meaning.proofs.WriteLists.{may_write, each_written}
use Rattle.ia_meaning.proofs.ListedNames.{HasNames, has_names}
use Rattle.ia_meaning.proofs.PredicateIndexes.{off_some, place_high}
use Rattle.ia_meaning.proofs.Inversions.{ApplicationCases, ActCases, SkipCases, TurnCases, guarded_cases}
use Rattle.predicate_rel.specs.declared.edge.Edge.{Edge}
use Rattle.predicate_rel.specs.declared.edge.Edge.TheVariants.{Falls, Taken}
use Rattle.predicate_rel.specs.Pairs.{Pairs, in_range}
use Rattle.predicate_rel.specs.Rules.{PairRule, always, never, one, is_met, is_moved, test_rule, falls_rule, static_rule, rotated_rule, action_rule, rule_of, pairs_after}
use Rattle.predicate_rel.specs.Truth.{AreNeverBothOne}
use Rattle.predicate_rel.specs.Edges.{displacement_of, target_at, edge_of, edge_end, HasEdge, pairs_past_insn, pairs_past}
use Rattle.predicate_rel.specs.Steps.{edge_by, KeepsFacts}
use Rattle.predicate_rel.proofs.PairLemmas.{in_range_parts}
use Rattle.predicate_rel.proofs.RuleTruth.{IsRuleApart, below_itself, kept_apart, fallen_apart, static_apart, rotated_apart, raised_same, raised_written}
use Rattle.predicate_rel.proofs.TestTruth.{test_off, or_same, and_same, or_andcm_same, TestWritten, normal_written, unc_written, unc_cleared, or_written, and_written, or_andcm_written}
use Rattle.predicate_rel.proofs.AfterWrites.{same_holds, IsPlain, apply_plain, spilled_names, names_then, IsHigh, high_holds, test_written, moved_other, turned, turned_holds, turned_last}
use Rattle.predicate_rel.proofs.StepEdges.{edge_falling}

-- What a way of going on leaves is true: along a fall, and along a taken branch that has a target.
abbrev KeepsOn : Pairs → Action → ℕ → Registers → Next → Type 0
KeepsOn f action g now next.Falls = IsRuleApart (action_rule action Falls g) f now
KeepsOn f action g now (next.Goes to) = IsSome (displacement_of action) → IsRuleApart (action_rule action Taken g) f now
KeepsOn f action g now (next.Breaks imm) = ⊤
KeepsOn f action g now (next.Faults kind) = ⊤

-- What an outcome leaves is true where control goes on.
abbrev Keeps : Pairs → Action → ℕ → Registers → Outcome → Type 0
Keeps f action g r o = KeepsOn f action g (registers_after o r) o.next

-- Writes of general registers touch no predicate.
spot_plain : (pr : ℕ) (d : Spot) (c : Cell) (ws : List Write) → Each (IsPlain pr) ws → Each (IsPlain pr) (set_spot d c ws)
spot_plain pr (Static zero) c ws rest = rest
spot_plain pr (Static (suc n)) c ws rest = (tt, rest)
spot_plain pr (Stacked n) c ws rest = (tt, rest)

base_plain : (pr : ℕ) (u : Update) (e : Spot) (base more : Cell) → Each (IsPlain pr) (base_writes u e base more)
base_plain pr update.None e base more = tt
base_plain pr (update.Reg r2) e base more = spot_plain pr e _ [] tt
base_plain pr (update.Imm imm) e base more = spot_plain pr e _ [] tt

-- The writes of a loop branch.
turn_high : (t : Turn) (f : FrameShape) → Each IsHigh (turn_writes t f)
turn_high t f =
    each_written IsHigh SetLc t.lc _ (λ x e. tt)
    (each_written IsHigh SetEc t.ec _ (λ x e. tt)
    (each_written IsHigh (SetPredicate (predicate_index f 63)) t.p63 _ (λ x e. place_high f 63 (omega arith))
    (may_write IsHigh t.rotates (SetFrame Renamed (rotated f)) [] (λ e. tt) tt)))

-- A turn that rotates, and what it writes into p63.
record IsRotation (t : Turn) (b : Bool) : Type 0 where
  rotates : t.rotates ≡ true
  p63 : t.p63 ≡ Some b

-- A counted loop goes on while LC isn't 0.
abbrev counts_on : ℕ → Bool
counts_on zero = false
counts_on (suc lc) = true

counted_rotates : (top : Bool) (lc ec : ℕ) → (counted_turn top lc ec).taken ≡ top → IsRotation (counted_turn top lc ec) (counts_on lc)
counted_rotates true zero zero h = absurd (cc)
counted_rotates false zero zero h = absurd (cc)
counted_rotates true zero (suc zero) h = absurd (cc)
counted_rotates false zero (suc zero) h = absurd (cc)
counted_rotates top zero (suc (suc ec)) h = record { rotates = refl; p63 = refl }
counted_rotates top (suc lc) ec h = record { rotates = refl; p63 = refl }

while_rotates : (top qp : Bool) (ec : ℕ) → (while_turn top qp ec).taken ≡ top → IsRotation (while_turn top qp ec) false
while_rotates top true ec h = record { rotates = refl; p63 = refl }
while_rotates top false ec h = counted_rotates top 0 ec h

module _ (f : Pairs) (g : ℕ) (r : Registers) (frame : IsFrame r.frame) (long : length r.predicates ≡ 64) (a : AreNeverBothOne f r) where
  -- Writes that touch no predicate.
  plain : (ws : List Write) → Each (IsPlain r.frame.rrbs.pr) ws → IsRuleApart one f (apply ws r)
  plain ws h =
      let s = apply_plain ws r h in kept_apart f r (apply ws r) (record { was = λ x i k. sym (same_holds r (apply ws r) s x) ∙ k }) a

  plain_spilled : (o : Option (ℕ × Bool)) (ws : List Write) → Each (IsPlain r.frame.rrbs.pr) ws → IsRuleApart one f (apply ws (spilled o r))
  plain_spilled o ws h =
      let first = spilled_names o r in
      let plain : Each (IsPlain (spilled o r).frame.rrbs.pr) ws = subst (λ (n : ℕ). Each (IsPlain n) ws) (sym first.pr) h in
      let s = names_then r (spilled o r) (apply ws (spilled o r)) first (apply_plain ws (spilled o r) plain) in
      kept_apart f r (apply ws (spilled o r)) (record { was = λ x i k. sym (same_holds r (apply ws (spilled o r)) s x) ∙ k }) a

  -- Writes that touch p16 to p63 alone.
  static : (ws : List Write) → Each IsHigh ws → IsRuleApart static_rule f (apply ws r)
  static ws h = static_apart f r (apply ws r) (high_holds ws r h) a

  fallen : holds r g ≡ false → IsRuleApart (falls_rule g) f r
  fallen off = fallen_apart g f r r off (below_itself r) a

  still : IsRuleApart one f r
  still = kept_apart f r r (below_itself r) a

  -- tests
  differ_not : (b : Bool) → b ≡ true → not b ≡ true → ⊥
  differ_not true h k = absurd (cc)
  differ_not false h k = absurd (cc)

  module _ (p q : ℕ) (ne : p ≢ q) (p_small : p < 64) (q_small : q < 64) where
    wrote : (b c : Bool) → TestWritten r p q b c (apply (set_predicate (predicate_spot r.frame p) b
        (set_predicate (predicate_spot r.frame q) c [])) r)
    wrote b c = test_written r p q b c frame long p_small q_small ne

    test_on : (kind : CmpKind) (x : Option Bool) → holds r g ≡ true
        → IsRuleApart (test_rule kind p q g) f (apply (test_writes kind (predicate_spot r.frame p) (predicate_spot r.frame q) x) r)
    test_on cmp.Normal (Some b) on = normal_written p q g b (not b) f r _ (wrote b (not b)) ne a on (differ_not b)
    test_on cmp.Normal None on = normal_written p q g false false f r _ (wrote false false) ne a on (λ h k. cc)
    test_on cmp.Unc (Some b) on = unc_written p q g b (not b) f r _ (wrote b (not b)) ne a on (differ_not b)
    test_on cmp.Unc None on = unc_written p q g false false f r _ (wrote false false) ne a on (λ h k. cc)
    test_on cmp.Or (Some true) on = or_written p q g true true f r _ (wrote true true) ne a on
    test_on cmp.Or (Some false) on = or_same p q g f r a
    test_on cmp.Or None on = or_same p q g f r a
    test_on cmp.And (Some true) on = and_same p q g f r a
    test_on cmp.And (Some false) on = and_written p q g false false f r _ (wrote false false) ne a refl refl
    test_on cmp.And None on = and_written p q g false false f r _ (wrote false false) ne a refl refl
    test_on cmp.OrAndcm (Some true) on = or_andcm_written p q g true false f r _ (wrote true false) ne a on refl
    test_on cmp.OrAndcm (Some false) on = or_andcm_same p q g f r a
    test_on cmp.OrAndcm None on = or_andcm_same p q g f r a

    test_cleared : (kind : CmpKind) → kind ≡ cmp.Unc → IsRuleApart (test_rule kind p q g) f
        (apply (set_predicate (predicate_spot r.frame p) false (set_predicate (predicate_spot r.frame q) false [])) r)
    test_cleared kind e =
        subst (λ (k : CmpKind). IsRuleApart (test_rule k p q g) f (apply
        (set_predicate (predicate_spot r.frame p) false (set_predicate (predicate_spot r.frame q) false [])) r)) (sym e)
        (unc_cleared p q g false false f r _ (wrote false false) ne a refl refl)

  -- loop branches.
  rotation : (t : Turn) (b : Bool) (first : PairRule) → IsRotation t b → (is_met first f ≡ true → b ≡ false)
      → IsRuleApart (rotated_rule first) f (apply (turn_writes t r.frame) r)
  rotation t b first is low =
      let now = turned t b r is.rotates is.p63 in
      rotated_apart first f r (apply (turn_writes t r.frame) r) (turned_holds r (apply (turn_writes t r.frame) r) b frame long now)
      (λ m h. let z = low m in let l = turned_last r (apply (turn_writes t r.frame) r) b frame long now in cc) a

  static_turn : (t : Turn) → IsRuleApart static_rule f (apply (turn_writes t r.frame) r)
  static_turn t = static (turn_writes t r.frame) (turn_high t r.frame)

  counted_rotation : (top : Bool) (lc ec : ℕ) → (counted_turn top lc ec).taken ≡ top
      → IsRuleApart (rotated_rule never) f (apply (turn_writes (counted_turn top lc ec) r.frame) r)
  counted_rotation top lc ec h = rotation (counted_turn top lc ec) (counts_on lc) never (counted_rotates top lc ec h) (λ m. absurd (cc))

  while_rotation : (top qp : Bool) (ec : ℕ) → (while_turn top qp ec).taken ≡ top
      → IsRuleApart (rotated_rule always) f (apply (turn_writes (while_turn top qp ec) r.frame) r)
  while_rotation top qp ec h = rotation (while_turn top qp ec) false always (while_rotates top qp ec h) (λ m. refl)

  simple_kept : (lc : ℕ) → IsRuleApart one f (apply (turn_writes (simple_turn lc) r.frame) r)
  simple_kept zero = plain [] tt
  simple_kept (suc lc) = plain (SetLc lc ∷ []) (tt, tt)

  -- Of a loop branch, taken and falling; a counted one has no qualifying predicate.
  loop_keeps : (qp : Bool) → holds r g ≡ qp → (kind : BranchKind) (disp : ℤ) (bundle : ℕ) (m : Memory) → IsQualifier kind g
      → TurnCases (Keeps f (Loop kind disp) g r) (turn_of kind qp r.lc r.ec) r.frame bundle m
  loop_keeps qp is branch.Cond disp bundle m q = (λ t d. plain [] tt, λ t. plain [] tt)
  loop_keeps qp is branch.Wexit disp bundle m q = (λ t d. static_turn (while_turn false qp r.ec), λ t. while_rotation false qp r.ec t)
  loop_keeps qp is branch.Wtop disp bundle m q = (λ t d. while_rotation true qp r.ec t, λ t. static_turn (while_turn true qp r.ec))
  loop_keeps true is branch.Cloop disp bundle m q = (λ t d. simple_kept r.lc, λ t. simple_kept r.lc)
  loop_keeps false is branch.Cloop disp bundle m q = (λ t d. plain [] tt, λ t. plain [] tt)
  loop_keeps true is branch.Cexit disp bundle m q =
      (λ t d. static_turn (counted_turn false r.lc r.ec), λ t. counted_rotation false r.lc r.ec t)
  loop_keeps true is branch.Ctop disp bundle m q =
      (λ t d. counted_rotation true r.lc r.ec t, λ t. static_turn (counted_turn true r.lc r.ec))
  loop_keeps false is branch.Cexit disp bundle m q = absurd (off_some r g is q)
  loop_keeps false is branch.Ctop disp bundle m q = absurd (off_some r g is q)

  application_keeps : (x : Ar) (r2 : ℕ) (w : MovedWord) (v : ℕ) (m : Memory) → ApplicationCases (Keeps f (ToApplication x r2 w) g r) x v m
  application_keeps ar.Unat r2 w v m = plain (SetUnat v ∷ []) (tt, tt)
  application_keeps ar.Pfs r2 w v m = λ z. plain (SetPfs v ∷ []) (tt, tt)
  application_keeps ar.Lc r2 w v m = plain (SetLc v ∷ []) (tt, tt)
  application_keeps ar.Ec r2 w v m = plain (SetEc (v % 64) ∷ []) (tt, tt)

  -- Of an action that is executed.
  act_keeps : (s : Site) (action : Action) (m : Memory) (unat : ℕ) → HasNames g action → holds r g ≡ true
      → ActCases (Keeps f action g r) s action r m unat
  act_keeps s (Compute r1 r2 r3 h) m unat n on = (λ k. tt, λ d b c _ _ _. plain _ (spot_plain _ d _ [] tt))
  act_keeps s (Fetch r1 source) m unat n on = (λ k. tt, λ d _. plain _ (spot_plain _ d _ [] tt))
  act_keeps s (Test kind p1 p2 r2 r3 h) m unat n on = (λ k. tt, λ b c _ _. test_on p1 p2 n.0 n.1 n.2 kind (result_of h b c) on)
  act_keeps s (ToPredicates r2 mask w) m unat n on =
      (λ k. tt, λ b _ _. raised_written (is_moved mask) g f r _ refl on (λ x i e k. sym (moved_other mask (moved w b.value) r x e) ∙ k) a)
  act_keeps s (ToBranch b1 r2) m unat n on = (λ k. tt, λ b _ _. plain (SetBranch b1 b.value ∷ []) (tt, tt))
  act_keeps s (ToApplication x r2 w) m unat n on = (λ k. tt, λ c _ _. application_keeps x r2 w (moved w c.value) m)
  act_keeps s (FromMemory size kind r1 r3 u) m unat n on = (
    λ k. tt,
    λ d e base more _ _ _ _. record {
      loads = λ _ _. plain _ (spot_plain _ d _ _ (base_plain _ u e base more));
      defers = λ _ es _. plain _ (spot_plain _ d _ _ (base_plain _ u e base more));
      hits = λ _ _ _ es _. plain _ (base_plain _ u e base more);
    },
  )
  act_keeps s (ToMemory size kind r3 r2 u) m unat n on =
      (λ k. tt, λ e base x _ _ _ _ _ _. plain_spilled _ _ (base_plain _ u e base zero_cell))
  act_keeps s (Exchange size r1 r3 r2 inc) m unat n on = (λ k. tt, λ d base x _ _ _ _ _ _. plain _ (spot_plain _ d _ [] tt))
  act_keeps s (CheckNat r2 disp) m unat n on = (λ k. tt, λ b _ _ d. still, λ b _ _. still)
  act_keeps s (CheckAlat clear r1 disp) m unat n on = (λ k. tt, λ d _ _ t. still, λ d _ _ es _. still)
  act_keeps s InvalidateAll m unat n on = still
  act_keeps s (Invalidate r1) m unat n on = (λ k. tt, λ d _. still)
  act_keeps s (Allocate r1 sof sol sor) m unat n on = (
    λ k. tt,
    λ d _ _ _. plain (SetFrame Resized (with_sizes r.frame sof sol sor) ∷ set_spot d (record { value = r.pfs; nat = false }) [])
        (refl, spot_plain _ d _ [] tt),
  )
  act_keeps s (Jump disp) m unat n on = λ d. still
  act_keeps s (JumpIndirect b2) m unat n on = (λ k. tt, λ to _ d. absurd (cc))
  act_keeps s (Loop kind disp) m unat n on = loop_keeps true on kind disp (target_of s.bundle disp) m n
  act_keeps s (Call b1 (Direct disp)) m unat n on = λ d. static (call_writes s.bundle b1 r.frame r.ec) (tt, (tt, (tt, tt)))
  act_keeps s (Call b1 (Indirect b2)) m unat n on = (λ k. tt, λ to _ d. absurd (cc))
  act_keeps s (Return b2) m unat n on = (λ k. tt, λ to _ _ d. absurd (cc))
  act_keeps s (ClearBases pred_only) m unat n on = static (SetFrame Renamed (cleared pred_only r.frame) ∷ []) (tt, tt)
  act_keeps s (Stop unit imm) m unat n on = tt
  act_keeps s (Idle unit) m unat n on = still

  -- Of one that isn't.
  skip_keeps : (s : Site) (action : Action) (m : Memory) → HasNames g action → holds r g ≡ false
      → SkipCases (Keeps f action g r) s action r m
  skip_keeps s (Test kind p1 p2 r2 r3 h) m n off = (λ e. test_cleared p1 p2 n.0 n.1 n.2 kind e, λ e. test_off kind p1 p2 g f r off e a)
  skip_keeps s (ToPredicates r2 mask w) m n off = raised_same (is_moved mask) g f r refl a
  skip_keeps s (Jump disp) m n off = fallen off
  skip_keeps s (JumpIndirect b2) m n off = fallen off
  skip_keeps s (Loop kind disp) m n off = loop_keeps false off kind disp (target_of s.bundle disp) m n
  skip_keeps s (Call b1 callee) m n off = fallen off
  skip_keeps s (Return b2) m n off = fallen off
  skip_keeps s (ClearBases pred_only) m n off = static [] tt
  skip_keeps s (Stop unit imm) m n off = fallen off
  skip_keeps s action m n off = still

-- The rules of all pairs, as the set that they leave.
rules_apart : (f : Pairs) (insn : Insn) (e : Edge) (now : Registers) → IsRuleApart (action_rule (action_of insn.op) e insn.qp) f now
    → AreNeverBothOne (pairs_after f insn e) now
unfolding pairs_after rule_of
rules_apart f insn e now h = record {
  apart = λ x y m i j.
      let both = and_parts (in_range x y) (is_met (action_rule (action_of insn.op) e insn.qp x y) f) m in
      let small = in_range_parts x y both.0 in
      h.apart x y small.0 small.1 both.1 i j;
}

-- What is shown of a step.
abbrev KeepsAlong : Program → State → Pairs → Step → Type 0
KeepsAlong p s f step =
    HasEdge p s.place (edge_by step.how) step.state.place → AreNeverBothOne (pairs_past p s.place (edge_by step.how) f) step.state.registers

module _ (p : Program) (s : State) (f : Pairs) (insn : Insn) (program : IsProgram p) (is : IsState p s)
    (here : insn_at p.bundles s.place ≡ Some insn) (a : AreNeverBothOne f s.registers) where
  abbrev Here : Outcome
  Here = effect (site p s.place.bundle) insn s.registers s.memory s.registers.unat

  here_keeps : Keeps f (action_of insn.op) insn.qp s.registers Here
  here_keeps =
      let n = has_names insn.qp insn.op (listed_at p s.place insn program here) in
      let frame = is.registers.frame in
      let long = is.registers.predicate_count in
      guarded_cases (Keeps f (action_of insn.op) insn.qp s.registers)
      (site p s.place.bundle) insn.qp (action_of insn.op) s.registers s.memory s.registers.unat
      (act_keeps f insn.qp s.registers frame long a (site p s.place.bundle) (action_of insn.op) s.memory s.registers.unat n)
      (skip_keeps f insn.qp s.registers frame long a (site p s.place.bundle) (action_of insn.op) s.memory n)

  settled_keeps : (to : Option Place) (way : Next) (o : Outcome) → o.next ≡ way → Keeps f (action_of insn.op) insn.qp s.registers o
      → Keeps f (action_of insn.op) insn.qp s.registers (settled to s.memory way o)
  settled_keeps None next.Falls o e h = tt
  settled_keeps None (next.Goes bundle) o e h = h
  settled_keeps None (next.Breaks imm) o e h = h
  settled_keeps None (next.Faults kind) o e h = h
  settled_keeps (Some to) way o e h = h

  -- A taken edge has a target.
  has_target : (to : Place) → edge_of p.bundles s.place (Some insn) Taken ≡ Some to → IsSome (displacement_of (action_of insn.op))
  has_target to leads = of (displacement_of (action_of insn.op)) leads
    where
      of : (o : Option ℤ) → target_at s.place.bundle o ≡ Some to → IsSome o
      of None e = absurd (cc)
      of (Some disp) e = refl

  edge_leads : (e : Edge) (to : Place) → HasEdge p s.place e to → edge_of p.bundles s.place (Some insn) e ≡ Some to
  unfolding edge_end
  edge_leads e to edge = sym (ap (λ (o : Option Insn). edge_of p.bundles s.place o e) here) ∙ edge.leads

  -- What is known past the place is what the instruction leaves.
  past_here : (e : Edge) (now : Registers) → AreNeverBothOne (pairs_after f insn e) now → AreNeverBothOne (pairs_past p s.place e f) now
  unfolding pairs_past
  past_here e now h = subst (λ (o : Option Insn). AreNeverBothOne (pairs_past_insn o e f) now) (sym here) h

  stepping : (o : Outcome) (way : Next) → KeepsOn f (action_of insn.op) insn.qp (registers_after o s.registers) way
      → (step_by p s o way).end ≡ None → KeepsAlong p s f (step_by p s o way)
  stepping o next.Falls h goes =
      λ edge. subst (λ (e : Edge). AreNeverBothOne (pairs_past p s.place e f) (registers_after o s.registers))
      (sym (edge_falling (is_stopped p.bundles s.place))) (past_here Falls (registers_after o s.registers)
      (rules_apart f insn Falls (registers_after o s.registers) h))
  stepping o (next.Goes bundle) h goes =
      λ edge. past_here Taken (registers_after o s.registers) (rules_apart f insn Taken (registers_after o s.registers)
      (h (has_target (first_of bundle) (edge_leads Taken (first_of bundle) edge))))
  stepping o (next.Breaks imm) h goes = absurd (cc)
  stepping o (next.Faults kind) h goes = absurd (cc)

  keeps_here : (step_of p s (Some insn)).end ≡ None → KeepsAlong p s f (step_of p s (Some insn))
  keeps_here goes =
      stepping (outcome_of p s insn) (outcome_of p s insn).next (settled_keeps (next_of p.bundles s.place) Here.next Here refl here_keeps)
      goes

pub keeps_apart : KeepsFacts
keeps_apart p s f program is goes edge a =
    by_insn (λ step. step.end ≡ None → KeepsAlong p s f step) p s is.place (λ insn here. keeps_here p s f insn program is here a) goes edge
