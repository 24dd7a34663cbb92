-- A listed instruction writes nothing twice.
use Rattle.std.proofs.Common.{◌≡◌, ◌≢◌, ℕ, zero, suc, Bool, true, false, List, [], ◌∷◌, Option, Some, None, arith}
use Rattle.std.specs.List.{AllPairs, AllByRecursion as Each}
use Rattle.std.proofs.lemmas.List.Elements.{All-from_recursion}
use Rattle.std.proofs.lemmas.List.Kept.{AllPairs-cons}
use Rattle.ia_insn.specs.declared.choices.CmpKind.{CmpKind}
use Rattle.ia_insn.specs.declared.choices.CmpKind.TheVariants.{Normal, Unc, And, Or, OrAndcm}
use Rattle.ia_insn.specs.declared.choices.Update.{Update}
use Rattle.ia_insn.specs.declared.choices.Update.TheVariants as update
use Rattle.ia_insn.specs.declared.registers.Ar.{Ar}
use Rattle.ia_insn.specs.declared.registers.Ar.TheVariants as ar
use Rattle.ia_insn.specs.Ranges.{IsLoadUpdate}
use Rattle.ia_meaning.specs.declared.state.Cell.{Cell}
use Rattle.ia_meaning.specs.declared.state.FrameShape.{FrameShape}
use Rattle.ia_meaning.specs.declared.state.Spot.{Spot}
use Rattle.ia_meaning.specs.declared.state.Spot.TheVariants.{Static, Stacked}
use Rattle.ia_meaning.specs.declared.turn.Turn.{Turn}
use Rattle.ia_meaning.specs.declared.action.Action.{Action}
use Rattle.ia_meaning.specs.declared.action.CallTarget.TheVariants.{Direct, Indirect}
use Rattle.ia_meaning.specs.State.{zero_cell, Registers, Memory, IsFrame}
use Rattle.ia_meaning.specs.declared.write.Write.{Write}
use Rattle.ia_meaning.specs.declared.write.Write.TheVariants.{SetPredicate, SetLc, SetEc, SetFrame}
use Rattle.ia_meaning.specs.declared.write.FrameCause.TheVariants.{Resized, Renamed}
use Rattle.ia_meaning.specs.Names.{spot, predicate_spot, predicate_index, set_spot, set_predicate}
use Rattle.ia_meaning.specs.Arithmetic.{bit}
use Rattle.ia_meaning.specs.Outcomes.{Outcome}
use Rattle.ia_meaning.specs.declared.action.Action.TheVariants.{Compute, Fetch, Test, ToPredicates, ToBranch, ToApplication, FromMemory, ToMemory, Exchange, CheckNat, CheckAlat, InvalidateAll, Invalidate, Allocate, Jump, JumpIndirect, Loop, Call, Return, ClearBases, Stop, Idle}
use Rattle.ia_meaning.specs.Actions.{action_of, result_of, moved}
use Rattle.ia_meaning.specs.Moves.{test_writes, is_masked, masked_writes, predicate_writes}
use Rattle.ia_meaning.specs.Loads.{base_writes}
use Rattle.ia_meaning.specs.Frames.{with_sizes, call_writes, rotated}
use Rattle.ia_meaning.specs.Loops.{turn_of, written, turn_writes}
use Rattle.ia_meaning.specs.Effects.{Site}
use Rattle.ia_meaning.proofs.ListedNames.{AreTargets, HasNames, has_names}
use Rattle.ia_meaning.proofs.Inversions.{ApplicationCases, ActCases, SkipCases, guarded_cases}
use Rattle.rotation.proofs.Indexes.{predicates_apart}
use Rattle.resource_sets.specs.AccessLaws.{location, WritesAreApart}
use Rattle.resource_sets.proofs.Coverage.{may_write, each_masked, each_written, each_rotation, either_way}
use Rattle.resource_sets.proofs.Renaming.{spots_apart}

-- No two writes of a list go to one location.
abbrev Differ : Write → Write → Type 0
Differ a b = location a ≢ location b

abbrev AreApart : List Write → Type 0
AreApart [] = Unit {0}
AreApart (w ∷ ws) = Each (Differ w) ws × AreApart ws

apart_pairs : (ws : List Write) → AreApart ws → AllPairs Differ ws
apart_pairs [] h = λ i j d below within. absurd (omega arith)
apart_pairs (w ∷ ws) h = AllPairs-cons Differ w ws (All-from_recursion (Differ w) ws h.0) (apart_pairs ws h.1)

-- Writes of general registers.
one_spot : (d : Spot) (c : Cell) → AreApart (set_spot d c [])
one_spot (Static zero) c = tt
one_spot (Static (suc n)) c = (tt, tt)
one_spot (Stacked n) c = (tt, tt)

two_spots : (d e : Spot) (b c : Cell) → d ≢ e → AreApart (set_spot d b (set_spot e c []))
two_spots (Static zero) e b c differ = one_spot e c
two_spots (Static (suc n)) (Static zero) b c differ = (tt, tt)
two_spots (Static (suc n)) (Static (suc k)) b c differ = ((λ same. differ (cc), tt), (tt, tt))
two_spots (Static (suc n)) (Stacked k) b c differ = ((λ same. cc, tt), (tt, tt))
two_spots (Stacked n) (Static zero) b c differ = (tt, tt)
two_spots (Stacked n) (Static (suc k)) b c differ = ((λ same. cc, tt), (tt, tt))
two_spots (Stacked n) (Stacked k) b c differ = ((λ same. differ (cc), tt), (tt, tt))

frame_and_spot : (f : FrameShape) (d : Spot) (c : Cell) → AreApart (SetFrame Resized f ∷ set_spot d c [])
frame_and_spot f (Static zero) c = (tt, tt)
frame_and_spot f (Static (suc n)) c = ((λ same. cc, tt), (tt, tt))
frame_and_spot f (Stacked n) c = ((λ same. cc, tt), (tt, tt))

base_apart : (u : Update) (e : Spot) (base more : Cell) → AreApart (base_writes u e base more)
base_apart update.None e base more = tt
base_apart (update.Reg r2) e base more = one_spot e _
base_apart (update.Imm imm) e base more = one_spot e _

load_apart : (f : FrameShape) → IsFrame f → (r1 r3 : ℕ) (u : Update) (d e : Spot) (c base more : Cell) → IsLoadUpdate r1 r3 u
    → spot f r1 ≡ Some d → spot f r3 ≡ Some e → AreApart (set_spot d c (base_writes u e base more))
load_apart f frame r1 r3 update.None d e c base more l h i = one_spot d c
load_apart f frame r1 r3 (update.Reg r2) d e c base more l h i = two_spots d e c _ (spots_apart f frame r1 r3 d e l.1 h i)
load_apart f frame r1 r3 (update.Imm imm) d e c base more l h i = two_spots d e c _ (spots_apart f frame r1 r3 d e l.1 h i)

-- Writes of predicates.
module _ (f : FrameShape) (frame : IsFrame f) where
  two_predicates : (p q : ℕ) (b c : Bool) → AreTargets p q
      → AreApart (set_predicate (predicate_spot f p) b (set_predicate (predicate_spot f q) c []))
  unfolding predicate_spot
  two_predicates zero zero b c h = tt
  two_predicates zero (suc q) b c h = (tt, tt)
  two_predicates (suc p) zero b c h = (tt, tt)
  two_predicates (suc p) (suc q) b c h = ((λ same. predicates_apart f frame (suc p) (suc q) h.1 h.2 h.0 (cc), tt), (tt, tt))

  test_apart : (kind : CmpKind) (p q : ℕ) (x : Option Bool) → AreTargets p q
      → AreApart (test_writes kind (predicate_spot f p) (predicate_spot f q) x)
  test_apart Normal p q (Some b) h = two_predicates p q _ _ h
  test_apart Normal p q None h = two_predicates p q _ _ h
  test_apart Unc p q (Some b) h = two_predicates p q _ _ h
  test_apart Unc p q None h = two_predicates p q _ _ h
  test_apart Or p q (Some true) h = two_predicates p q _ _ h
  test_apart And p q (Some false) h = two_predicates p q _ _ h
  test_apart And p q None h = two_predicates p q _ _ h
  test_apart OrAndcm p q (Some true) h = two_predicates p q _ _ h
  test_apart kind p q x h = tt

masked_apart : (left n mask x : ℕ) → AreApart (masked_writes left n mask x)
masked_apart zero n mask x = tt
masked_apart (suc left) n mask x =
    let later : Each (Differ (SetPredicate n (bit x n))) (masked_writes left (suc n) mask x) =
    each_masked _ left (suc n) mask x (λ k b above _ _ same. let e : n ≡ k = cc in omega arith) in
    let rest : AreApart (masked_writes left (suc n) mask x) = masked_apart left (suc n) mask x in
    may_write AreApart (is_masked mask n) (SetPredicate n (bit x n)) _ (λ _. (later, rest)) rest

places_apart : (mask x : ℕ) → AreApart (predicate_writes mask x)
unfolding predicate_writes
places_apart mask x = masked_apart 63 1 mask x

-- Writes of a loop branch and of a call.
written_apart : {X : Type 0} (g : X → Write) (o : Option X) (ws : List Write) → ((x : X) → Each (Differ (g x)) ws) → AreApart ws
    → AreApart (written g o ws)
written_apart g None ws h rest = rest
written_apart g (Some x) ws h rest = (h x, rest)

turn_apart : (t : Turn) (f : FrameShape) → AreApart (turn_writes t f)
turn_apart t f =
    let p63 : Bool → Write = SetPredicate (predicate_index f 63) in
    written_apart SetLc t.lc _
    (λ x. each_written _ SetEc t.ec _ (λ y _ same. cc)
    (each_written _ p63 t.p63 _ (λ y _ same. cc) (each_rotation _ f t.rotates (λ same. cc))))
    (written_apart SetEc t.ec _ (λ x. each_written _ p63 t.p63 _ (λ y _ same. cc) (each_rotation _ f t.rotates (λ same. cc)))
    (written_apart p63 t.p63 _ (λ x. each_rotation _ f t.rotates (λ same. cc))
    (may_write AreApart t.rotates (SetFrame Renamed (rotated f)) [] (λ _. (tt, tt)) tt)))

call_apart : (bundle b1 : ℕ) (f : FrameShape) (ec : ℕ) → AreApart (call_writes bundle b1 f ec)
call_apart bundle b1 f ec = ((λ same. cc, (λ same. cc, tt)), ((λ same. cc, tt), (tt, tt)))

-- Each action.
abbrev WritesApart : Outcome → Type 0
WritesApart o = AreApart o.writes

application_apart : (a : Ar) (x : ℕ) (m : Memory) → ApplicationCases WritesApart a x m
application_apart ar.Unat x m = (tt, tt)
application_apart ar.Pfs x m = λ _. (tt, tt)
application_apart ar.Lc x m = (tt, tt)
application_apart ar.Ec x m = (tt, tt)

act_apart : (s : Site) (qp : ℕ) (action : Action) (v : Registers) (m : Memory) (x : ℕ) → IsFrame v.frame → HasNames qp action
    → ActCases WritesApart s action v m x
act_apart s qp (Compute r1 r2 r3 f) v m x frame l = (λ _. tt, λ d a b _ _ _. one_spot d _)
act_apart s qp (Fetch r1 source) v m x frame l = (λ _. tt, λ d _. one_spot d _)
act_apart s qp (Test kind p1 p2 r2 r3 c) v m x frame l = (λ _. tt, λ a b _ _. test_apart v.frame frame kind p1 p2 (result_of c a b) l)
act_apart s qp (ToPredicates r2 mask w) v m x frame l = (λ _. tt, λ a _ _. places_apart mask (moved w a.value))
act_apart s qp (ToBranch b1 r2) v m x frame l = (λ _. tt, λ a _ _. (tt, tt))
act_apart s qp (ToApplication a r2 w) v m x frame l = (λ _. tt, λ c _ _. application_apart a (moved w c.value) m)
act_apart s qp (FromMemory size kind r1 r3 u) v m x frame l = (
  λ _. tt,
  λ d e y z h i _ _. record {
    loads = λ _ _. load_apart v.frame frame r1 r3 u d e _ y z l h i;
    defers = λ _ es _. load_apart v.frame frame r1 r3 u d e _ y z l h i;
    hits = λ _ _ _ es _. base_apart u e y z;
  },
)
act_apart s qp (ToMemory size kind r3 r2 u) v m x frame l = (λ _. tt, λ e y z _ _ _ _ _ _. base_apart u e y zero_cell)
act_apart s qp (Exchange size r1 r3 r2 inc) v m x frame l = (λ _. tt, λ d y z _ _ _ _ _ _. one_spot d _)
act_apart s qp (CheckNat r2 disp) v m x frame l = (λ _. tt, λ a _ _. tt, λ a _ _. tt)
act_apart s qp (CheckAlat clear r1 disp) v m x frame l = (λ _. tt, λ d _ _. tt, λ d _ _ es _. tt)
act_apart s qp InvalidateAll v m x frame l = tt
act_apart s qp (Invalidate r1) v m x frame l = (λ _. tt, λ d _. tt)
act_apart s qp (Allocate r1 sof sol sor) v m x frame l = (λ _. tt, λ d _ _ _. frame_and_spot (with_sizes v.frame sof sol sor) d _)
act_apart s qp (Jump disp) v m x frame l = tt
act_apart s qp (JumpIndirect b2) v m x frame l = (λ _. tt, λ to _. tt)
act_apart s qp (Loop kind disp) v m x frame l = either_way (turn_apart (turn_of kind true v.lc v.ec) v.frame)
act_apart s qp (Call b1 (Direct disp)) v m x frame l = call_apart s.bundle b1 v.frame v.ec
act_apart s qp (Call b1 (Indirect b2)) v m x frame l = (λ _. tt, λ to _. call_apart s.bundle b1 v.frame v.ec)
act_apart s qp (Return b2) v m x frame l = (λ _. tt, λ to _ _. ((λ same. cc, tt), (tt, tt)))
act_apart s qp (ClearBases pred_only) v m x frame l = (tt, tt)
act_apart s qp (Stop unit imm) v m x frame l = tt
act_apart s qp (Idle unit) v m x frame l = tt

skip_apart : (s : Site) (qp : ℕ) (action : Action) (v : Registers) (m : Memory) → IsFrame v.frame → HasNames qp action
    → SkipCases WritesApart s action v m
skip_apart s qp (Test kind p1 p2 r2 r3 c) v m frame l = (λ _. two_predicates v.frame frame p1 p2 false false l, λ _. tt)
skip_apart s qp (Loop kind disp) v m frame l = either_way (turn_apart (turn_of kind false v.lc v.ec) v.frame)
skip_apart s qp action v m frame l = tt

-- No two writes of a listed instruction go to one location.
pub apart : WritesAreApart
apart s insn v m x listed frame =
    let action : Action = action_of insn.op in
    let l : HasNames insn.qp action = has_names insn.qp insn.op listed in
    apart_pairs _
    (guarded_cases WritesApart s insn.qp action v m x (λ _. act_apart s insn.qp action v m x frame l)
    (λ _. skip_apart s insn.qp action v m frame l))
