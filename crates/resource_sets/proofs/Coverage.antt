-- What an instruction writes is what it accesses so.
use Rattle.std.proofs.Common.{◌≡◌, ℕ, zero, suc, ◌+◌, ◌-◌, ◌%◌, ◌<◌, ◌≤◌, ⊎_elim, inl, inr, Bool, true, false, if◌then◌else◌, List, [], ◌∷◌, Option, Some, None, refl, ap, ◌∙◌, arith, le-leb}
use Rattle.std.specs.Prelude.{ℤ}
use Rattle.std.specs.List.{AllByRecursion as Each}
use Rattle.std.proofs.lemmas.Bool.{cases_lt, and_from}
use Rattle.std.proofs.lemmas.Bool.Decides.{nat_tests}
use Rattle.std.proofs.lemmas.List.Elements.{All-from_recursion}
use Rattle.ia_insn.specs.declared.choices.CmpKind.{CmpKind}
use Rattle.ia_insn.specs.declared.choices.CmpKind.TheVariants.{Normal, Unc, And, Or, OrAndcm}
use Rattle.ia_insn.specs.declared.choices.BranchKind.{BranchKind}
use Rattle.ia_insn.specs.declared.choices.BranchKind.TheVariants as branch
use Rattle.ia_insn.specs.declared.choices.StoreKind.TheVariants as store
use Rattle.ia_insn.specs.declared.choices.Update.{Update}
use Rattle.ia_insn.specs.declared.choices.Update.TheVariants as update
use Rattle.ia_insn.specs.declared.registers.Ar.{Ar}
use Rattle.ia_insn.specs.declared.registers.Ar.TheVariants as ar
use Rattle.ia_meaning.specs.declared.state.Cell.{Cell}
use Rattle.ia_meaning.specs.declared.state.FrameShape.{FrameShape}
use Rattle.ia_meaning.specs.declared.state.Spot.{Spot}
use Rattle.ia_meaning.specs.declared.state.Spot.TheVariants.{Static, Stacked}
use Rattle.ia_meaning.specs.declared.turn.Turn.{Turn}
use Rattle.ia_meaning.specs.declared.action.Condition.{Condition}
use Rattle.ia_meaning.specs.declared.action.MovedWord.{MovedWord}
use Rattle.ia_meaning.specs.declared.action.Action.{Action}
use Rattle.ia_meaning.specs.declared.action.CallTarget.{CallTarget}
use Rattle.ia_meaning.specs.declared.action.CallTarget.TheVariants.{Direct, Indirect}
use Rattle.ia_meaning.specs.State.{zero_cell, Registers, Memory}
use Rattle.ia_meaning.specs.declared.write.Write.{Write}
use Rattle.ia_meaning.specs.declared.write.Write.TheVariants.{SetPredicate, SetUnat, SetPfs, SetLc, SetEc, SetFrame}
use Rattle.ia_meaning.specs.declared.write.FrameCause.TheVariants.{Renamed}
use Rattle.ia_meaning.specs.Names.{spot, holds, predicate_spot, predicate_index, set_spot, set_predicate}
use Rattle.ia_meaning.specs.Arithmetic.{bit}
use Rattle.ia_meaning.specs.Outcomes.{Outcome}
use Rattle.ia_meaning.specs.declared.action.Action.TheVariants.{Compute, Fetch, Test, ToPredicates, ToBranch, ToApplication, FromMemory, ToMemory, Exchange, CheckNat, CheckAlat, InvalidateAll, Invalidate, Allocate, Jump, JumpIndirect, Loop, Call, Return, ClearBases, Stop, Idle}
use Rattle.ia_meaning.specs.Actions.{action_of, result_of, moved}
use Rattle.ia_meaning.specs.Moves.{test_writes, is_masked, masked_writes, predicate_writes}
use Rattle.ia_meaning.specs.Loads.{base_writes}
use Rattle.ia_meaning.specs.Frames.{with_sizes, call_writes, rotated}
use Rattle.ia_meaning.specs.Loops.{while_turn, turn_of, written, turn_writes}
use Rattle.ia_meaning.specs.Effects.{Site}
use Rattle.ia_meaning.proofs.Inversions.{ApplicationCases, ActCases, SkipCases, guarded_cases}
use Rattle.resource_sets.specs.declared.access.Resource.{Resource}
use Rattle.resource_sets.specs.declared.access.Resource.TheVariants.{Gr, Pr, Br, Unat, Pfs, Lc, Ec, Cfm}
use Rattle.resource_sets.specs.declared.access.Kind.{Kind}
use Rattle.resource_sets.specs.declared.access.Kind.TheVariants.{Write as Writes, AllocWrite, LoopWrite, OrWrite, AndWrite, Spill}
use Rattle.resource_sets.specs.declared.access.Access.{Access}
use Rattle.resource_sets.specs.Rows.{is_not_zero}
use Rattle.resource_sets.specs.Accesses.{test_rows, is_updated, own_rows, placed_rows, qp_rows, mask_rows, rotating_rows, counting_rows, rows_by_name, rows}
use Rattle.resource_sets.proofs.Listing.{has_left, has_right, mask_row}
use Rattle.ia_meaning.proofs.PredicateIndexes.{holds_zero, low_place}
use Rattle.resource_sets.specs.AccessLaws.{location, spot_location, location_of, naming_frame, writes_registers, MayPut, HasRow, IsCovered, WritesAreAccesses, CellsAreInside, SpillsAreAccesses, PredicateAt, CellAt}
use Rattle.resource_sets.proofs.Renaming.{spot_inside}

-- The rows of an instruction are those of its parts.
module _ (qp : ℕ) (f : Action) (a : Access) where
  in_own : HasRow qp a (own_rows f) → HasRow qp a (rows qp f)
  unfolding rows
  in_own h = has_left qp a (rows_by_name qp f) (placed_rows f) (inr (has_right qp a (qp_rows qp f) (own_rows f) h))

  in_placed : HasRow qp a (placed_rows f) → HasRow qp a (rows qp f)
  unfolding rows
  in_placed h = has_right qp a (rows_by_name qp f) (placed_rows f) h

-- An access under a guard.
abbrev under : ℕ → Resource → Kind → Access
under guard q kind = record { resource = q; kind = kind; guard = guard }

module _ (qp : ℕ) (f : Action) (v : Registers) where
  row_covered : (a : Access) (w : Write) → HasRow qp a (rows qp f) → writes_registers a.kind ≡ true → holds v a.guard ≡ true
      → location_of (naming_frame f v.frame) a.resource ≡ Some (location w) → MayPut a.kind w → IsCovered qp f v w
  row_covered a w h i g n p = record { access = a; has = h; writing = i; guarded = g; names = n; puts = p }

  -- A plain write under the qualifying predicate.
  own_covered : (q : Resource) (w : Write) → holds v qp ≡ true → HasRow qp (under qp q Writes) (own_rows f)
      → location_of (naming_frame f v.frame) q ≡ Some (location w) → IsCovered qp f v w
  own_covered q w g h n = row_covered (under qp q Writes) w (in_own qp f (under qp q Writes) h) refl g n tt

-- A list with a write that may be there.
pub may_write : (P : List Write → Type 0) (t : Bool) (w : Write) (ws : List Write) → (t ≡ true → P (w ∷ ws)) → P ws
    → P (if t then w ∷ ws else ws)
may_write P true w ws h rest = h refl
may_write P false w ws h rest = rest

-- The writes of general register r, of which r0 has none.
abbrev WritesOf : (Write → Type 0) → FrameShape → ℕ → Type 0
WritesOf P f r = (w : Write) → is_not_zero r ≡ true → location_of f (Gr r) ≡ Some (location w) → P w

spot_zero : (f : FrameShape) → spot f 0 ≡ Some (Static 0)
unfolding spot
spot_zero f = refl

each_spot : (P : Write → Type 0) (f : FrameShape) (r : ℕ) (d : Spot) (c : Cell) (ws : List Write) → spot f r ≡ Some d
    → WritesOf P f r → Each P ws → Each P (set_spot d c ws)
each_spot P f r (Static zero) c ws e h rest = rest
each_spot P f zero (Static (suc n)) c ws e h rest = let z = spot_zero f in absurd (cc)
each_spot P f (suc r) (Static (suc n)) c ws e h rest = (h _ refl (ap spot_location e), rest)
each_spot P f zero (Stacked n) c ws e h rest = let z = spot_zero f in absurd (cc)
each_spot P f (suc r) (Stacked n) c ws e h rest = (h _ refl (ap spot_location e), rest)

each_base : (P : Write → Type 0) (f : FrameShape) (r : ℕ) (u : Update) (d : Spot) (base more : Cell) → spot f r ≡ Some d
    → (is_updated u ≡ true → WritesOf P f r) → Each P (base_writes u d base more)
each_base P f r update.None d base more e h = tt
each_base P f r (update.Reg r2) d base more e h = each_spot P f r d _ [] e (h refl) tt
each_base P f r (update.Imm imm) d base more e h = each_spot P f r d _ [] e (h refl) tt

-- The kinds of the accesses of a test's two targets, and their guard.
abbrev first_kind : CmpKind → Kind
first_kind Or = OrWrite
first_kind And = AndWrite
first_kind OrAndcm = OrWrite
first_kind kind = Writes

abbrev second_kind : CmpKind → Kind
second_kind Or = OrWrite
second_kind And = AndWrite
second_kind OrAndcm = AndWrite
second_kind kind = Writes

abbrev test_guard : CmpKind → ℕ → ℕ
test_guard Unc qp = 0
test_guard kind qp = qp

test_holds : (v : Registers) (kind : CmpKind) (qp : ℕ) → holds v qp ≡ true → holds v (test_guard kind qp) ≡ true
test_holds v Unc qp g = holds_zero v
test_holds v kind qp g = g

first_writes : (kind : CmpKind) → writes_registers (first_kind kind) ≡ true
first_writes Normal = refl
first_writes kind = refl

second_writes : (kind : CmpKind) → writes_registers (second_kind kind) ≡ true
second_writes Normal = refl
second_writes kind = refl

-- Target t of the test of p and q is accessed so.
abbrev TargetRow : (qp : ℕ) → CmpKind → (p q t : ℕ) → Kind → Type 0
TargetRow qp kind p q t k = HasRow qp (under (test_guard kind qp) (Pr t) k) (test_rows kind p q)

first_row : (qp : ℕ) (kind : CmpKind) (p q : ℕ) → is_not_zero p ≡ true → TargetRow qp kind p q p (first_kind kind)
first_row qp Normal p q n = inl (n, refl)
first_row qp kind p q n = inl (n, refl)

second_row : (qp : ℕ) (kind : CmpKind) (p q : ℕ) → is_not_zero q ≡ true → TargetRow qp kind p q q (second_kind kind)
second_row qp Normal p q n = inr (inl (n, refl))
second_row qp kind p q n = inr (inl (n, refl))

-- The writes of predicate p that an access of a kind allows; p0 has none.
abbrev PredicateWrites : (Write → Type 0) → FrameShape → Kind → ℕ → Type 0
PredicateWrites P f kind p =
    (b : Bool) → MayPut kind (SetPredicate (predicate_index f p) b) → is_not_zero p ≡ true → P (SetPredicate (predicate_index f p) b)

module _ (P : Write → Type 0) (f : FrameShape) where
  each_predicate : (p : ℕ) (b : Bool) (ws : List Write) → (is_not_zero p ≡ true → P (SetPredicate (predicate_index f p) b))
      → Each P ws → Each P (set_predicate (predicate_spot f p) b ws)
  unfolding predicate_spot
  each_predicate zero b ws h rest = rest
  each_predicate (suc p) b ws h rest = (h refl, rest)

  each_target : (j k : Kind) (p q : ℕ) (b c : Bool) → PredicateWrites P f j p → PredicateWrites P f k q
      → MayPut j (SetPredicate (predicate_index f p) b) → MayPut k (SetPredicate (predicate_index f q) c)
      → Each P (set_predicate (predicate_spot f p) b (set_predicate (predicate_spot f q) c []))
  each_target j k p q b c h i m n = each_predicate p b _ (h b m) (each_predicate q c [] (i c n) tt)

  each_test : (kind : CmpKind) (p q : ℕ) (x : Option Bool) → PredicateWrites P f (first_kind kind) p
      → PredicateWrites P f (second_kind kind) q → Each P (test_writes kind (predicate_spot f p) (predicate_spot f q) x)
  each_test Normal p q (Some b) h i = each_target Writes Writes p q _ _ h i tt tt
  each_test Normal p q None h i = each_target Writes Writes p q _ _ h i tt tt
  each_test Unc p q (Some b) h i = each_target Writes Writes p q _ _ h i tt tt
  each_test Unc p q None h i = each_target Writes Writes p q _ _ h i tt tt
  each_test Or p q (Some true) h i = each_target OrWrite OrWrite p q _ _ h i refl refl
  each_test And p q (Some false) h i = each_target AndWrite AndWrite p q _ _ h i refl refl
  each_test And p q None h i = each_target AndWrite AndWrite p q _ _ h i refl refl
  each_test OrAndcm p q (Some true) h i = each_target OrWrite AndWrite p q _ _ h i refl refl
  each_test kind p q x h i = tt

module _ (qp : ℕ) (kind : CmpKind) (p1 p2 r2 r3 : ℕ) (c : Condition) (v : Registers) (g : holds v (test_guard kind qp) ≡ true) where
  abbrev test_action : Action
  test_action = Test kind p1 p2 r2 r3 c

  target_covered : (p : ℕ) (k : Kind) → (is_not_zero p ≡ true → TargetRow qp kind p1 p2 p k) → writes_registers k ≡ true
      → PredicateWrites (IsCovered qp test_action v) v.frame k p
  target_covered p k row i b m n =
      let a : Access = under (test_guard kind qp) (Pr p) k in
      row_covered qp test_action v a (SetPredicate (predicate_index v.frame p) b)
      (in_own qp test_action a (inr (inr (row n)))) i g refl m

  test_covered : (x : Option Bool)
      → Each (IsCovered qp test_action v) (test_writes kind (predicate_spot v.frame p1) (predicate_spot v.frame p2) x)
  test_covered x =
      each_test _ v.frame kind p1 p2 x
      (target_covered p1 (first_kind kind) (first_row qp kind p1 p2) (first_writes kind))
      (target_covered p2 (second_kind kind) (second_row qp kind p1 p2) (second_writes kind))

-- Writes under a mask are by place, and their rows by name: each place has a name, which the mask has too.
abbrev PlacesFrom : (Write → Type 0) → ℕ → ℕ → ℕ → Type 0
PlacesFrom P left n mask = (k : ℕ) (b : Bool) → n ≤ k → k < n + left → is_masked mask k ≡ true → P (SetPredicate k b)

pub each_masked : (P : Write → Type 0) (left n mask x : ℕ) → PlacesFrom P left n mask → Each P (masked_writes left n mask x)
each_masked P zero n mask x h = tt
each_masked P (suc left) n mask x h =
    let rest : Each P (masked_writes left (suc n) mask x) =
    each_masked P left (suc n) mask x (λ k b i j. h k b (omega arith) (omega arith)) in
    may_write (Each P) (is_masked mask n) (SetPredicate n (bit x n)) _
    (λ e. (h n (bit x n) (omega arith) (omega arith) e, rest)) rest

each_place : (P : Write → Type 0) (mask x : ℕ) → PlacesFrom P 63 1 mask → Each P (predicate_writes mask x)
unfolding predicate_writes
each_place P mask x h = each_masked P 63 1 mask x h

high_name : (f : FrameShape) (k : ℕ) → 16 ≤ k → k < 64 → f.rrbs.pr < 48 → predicate_index f (16 + (k + 32 - f.rrbs.pr) % 48) ≡ k
unfolding predicate_index
high_name f k h i b = let high : 16 ≤ 16 + (k + 32 - f.rrbs.pr) % 48 = omega arith in rw (le-leb _ _ high) (omega arith)

masks_high : (mask k p : ℕ) → 16 ≤ k → 16 ≤ p → is_masked mask k ≡ true → is_masked mask p ≡ true
masks_high mask k p h i e = grind (arith, nat_tests)

module _ (qp r2 mask : ℕ) (w : MovedWord) (v : Registers) (base : v.frame.rrbs.pr < 48) (g : holds v qp ≡ true) where
  abbrev mask_action : Action
  mask_action = ToPredicates r2 mask w

  named_place_covered : (p k : ℕ) (b : Bool) → predicate_index v.frame p ≡ k
      → HasRow qp (under qp (Pr p) Writes) (mask_rows mask Writes)
      → IsCovered qp mask_action v (SetPredicate k b)
  named_place_covered p k b is h =
      let a : Access = under qp (Pr p) Writes in
      row_covered qp mask_action v a (SetPredicate k b) (in_placed qp mask_action a h) refl g (ap (λ t. Some (PredicateAt t)) is) tt

  place_covered : PlacesFrom (IsCovered qp mask_action v) 63 1 mask
  place_covered k b i j e =
      ⊎_elim (λ low. named_place_covered k k b (low_place v.frame k low) (mask_row qp k mask Writes i j e))
      (λ high.
      let p : ℕ = 16 + (k + 32 - v.frame.rrbs.pr) % 48 in
      let masked : is_masked mask p ≡ true = masks_high mask k p high (omega arith) e in
      named_place_covered p k b (high_name v.frame k high j base) (mask_row qp p mask Writes (omega arith) (omega arith) masked))
      (cases_lt k 16)

-- The writes of a loop branch.
pub each_written : {X : Type 0} (P : Write → Type 0) (g : X → Write) (o : Option X) (ws : List Write)
    → ((x : X) → o ≡ Some x → P (g x)) → Each P ws → Each P (written g o ws)
each_written P g None ws h rest = rest
each_written P g (Some x) ws h rest = (h x refl, rest)

pub each_rotation : (P : Write → Type 0) (f : FrameShape) (t : Bool) → P (SetFrame Renamed (rotated f))
    → Each P (if t then SetFrame Renamed (rotated f) ∷ [] else [])
each_rotation P f t h = may_write (Each P) t _ [] (λ _. (h, tt)) tt

-- While loops leave LC.
while_lc : (top held : Bool) (ec : ℕ) → (while_turn top held ec).lc ≡ None
while_lc top true ec = refl
while_lc top false zero = refl
while_lc top false (suc zero) = refl
while_lc top false (suc (suc ec)) = refl

no_count : {P : Type 0} (o : Option ℕ) (x : ℕ) → o ≡ None → o ≡ Some x → P
no_count o x e h = absurd (cc)

module _ (qp : ℕ) (kind : BranchKind) (disp : ℤ) (v : Registers) where
  abbrev loop_action : Action
  loop_action = Loop kind disp

  -- An access of a loop branch is under p0.
  loop_write_covered : (q : Resource) (k : Kind) (w : Write) → HasRow qp (under 0 q k) (own_rows loop_action)
      → writes_registers k ≡ true → location_of v.frame q ≡ Some (location w) → MayPut k w → IsCovered qp loop_action v w
  loop_write_covered q k w h i n p =
      row_covered qp loop_action v (under 0 q k) w (in_own qp loop_action (under 0 q k) h) i (holds_zero v) n p

  count_covered : HasRow qp (under 0 Lc Writes) (own_rows loop_action) → (x : ℕ) → IsCovered qp loop_action v (SetLc x)
  count_covered h x = loop_write_covered Lc Writes (SetLc x) h refl refl tt

  -- One that rotates, given its write of LC.
  rotating_covered : (t : Turn) → ((a : Access) → HasRow qp a rotating_rows → HasRow qp a (own_rows loop_action))
      → ((x : ℕ) → t.lc ≡ Some x → IsCovered qp loop_action v (SetLc x)) → Each (IsCovered qp loop_action v) (turn_writes t v.frame)
  rotating_covered t row lc =
      each_written _ SetLc t.lc _ lc
      (each_written _ SetEc t.ec _ (λ x _. loop_write_covered Ec Writes _ (row _ (inr (inl (refl, refl)))) refl refl tt)
      (each_written _ (SetPredicate (predicate_index v.frame 63)) t.p63 _
      (λ x _. loop_write_covered (Pr 63) LoopWrite _ (row _ (inr (inr (inr (inr (inl (refl, refl))))))) refl refl tt)
      (each_rotation _ v.frame t.rotates
      (loop_write_covered Cfm Writes _ (row _ (inr (inr (inr (inl (refl, refl)))))) refl refl tt))))

  while_covered : (top held : Bool) (ec : ℕ) → ((a : Access) → HasRow qp a rotating_rows → HasRow qp a (own_rows loop_action))
      → Each (IsCovered qp loop_action v) (turn_writes (while_turn top held ec) v.frame)
  while_covered top held ec row = rotating_covered (while_turn top held ec) row (λ x e. no_count _ x (while_lc top held ec) e)

loop_covered : (qp : ℕ) (kind : BranchKind) (disp : ℤ) (v : Registers) (held : Bool) (lc ec : ℕ)
    → Each (IsCovered qp (Loop kind disp) v) (turn_writes (turn_of kind held lc ec) v.frame)
loop_covered qp branch.Cond disp v held lc ec = tt
loop_covered qp branch.Wexit disp v held lc ec = while_covered qp branch.Wexit disp v false held ec (λ a h. h)
loop_covered qp branch.Wtop disp v held lc ec = while_covered qp branch.Wtop disp v true held ec (λ a h. h)
loop_covered qp branch.Cloop disp v false lc ec = tt
loop_covered qp branch.Cloop disp v true zero ec = tt
loop_covered qp branch.Cloop disp v true (suc lc) ec = (count_covered qp branch.Cloop disp v (inr (inl (refl, refl))) lc, tt)
loop_covered qp branch.Cexit disp v held lc ec =
    rotating_covered qp branch.Cexit disp v (turn_of branch.Cexit held lc ec)
    (λ a h. has_right qp a counting_rows rotating_rows h)
    (λ x _. count_covered qp branch.Cexit disp v (inr (inl (refl, refl))) x)
loop_covered qp branch.Ctop disp v held lc ec =
    rotating_covered qp branch.Ctop disp v (turn_of branch.Ctop held lc ec)
    (λ a h. has_right qp a counting_rows rotating_rows h)
    (λ x _. count_covered qp branch.Ctop disp v (inr (inl (refl, refl))) x)

-- Each action.
abbrev EachCovered : ℕ → Action → Registers → Outcome → Type 0
EachCovered qp f v o = Each (IsCovered qp f v) o.writes

pub either_way : {A B P : Type 0} → P → (A → P) × (B → P)
either_way h = (λ _. h, λ _. h)

application_covered : (qp : ℕ) (a : Ar) (r2 x : ℕ) (w : MovedWord) (v : Registers) (m : Memory) → holds v qp ≡ true
    → ApplicationCases (EachCovered qp (ToApplication a r2 w) v) a x m
application_covered qp ar.Unat r2 x w v m g = (own_covered qp _ v Unat (SetUnat x) g (inr (inl (refl, refl))) refl, tt)
application_covered qp ar.Pfs r2 x w v m g = λ _. (own_covered qp _ v Pfs (SetPfs x) g (inr (inl (refl, refl))) refl, tt)
application_covered qp ar.Lc r2 x w v m g = (own_covered qp _ v Lc (SetLc x) g (inr (inl (refl, refl))) refl, tt)
application_covered qp ar.Ec r2 x w v m g = (own_covered qp _ v Ec (SetEc (x % 64)) g (inr (inl (refl, refl))) refl, tt)

call_covered : (qp bundle b1 : ℕ) (callee : CallTarget) (v : Registers) → holds v qp ≡ true
    → Each (IsCovered qp (Call b1 callee) v) (call_writes bundle b1 v.frame v.ec)
call_covered qp bundle b1 callee v g = (
  own_covered qp (Call b1 callee) v (Br b1) _ g (inr (inr (inr (inr (inl (refl, refl)))))) refl,
  (
    own_covered qp (Call b1 callee) v Pfs _ g (inr (inr (inl (refl, refl)))) refl,
    (own_covered qp (Call b1 callee) v Cfm _ g (inr (inl (refl, refl))) refl, tt),
  ),
)

act_covered : (s : Site) (qp : ℕ) (action : Action) (v : Registers) (m : Memory) (x : ℕ) → v.frame.rrbs.pr < 48 → holds v qp ≡ true
    → ActCases (EachCovered qp action v) s action v m x
act_covered s qp (Compute r1 r2 r3 f) v m x base g =
    let named : WritesOf (IsCovered qp (Compute r1 r2 r3 f) v) v.frame r1 =
    λ w n. own_covered qp _ v (Gr r1) w g (inr (inr (inl (n, refl)))) in
    (λ _. tt, λ d a b e _ _. each_spot _ v.frame r1 d _ [] e named tt)
act_covered s qp (Fetch r1 source) v m x base g =
    let named : WritesOf (IsCovered qp (Fetch r1 source) v) v.frame r1 =
    λ w n. own_covered qp _ v (Gr r1) w g (inl (n, refl)) in
    (λ _. tt, λ d e. each_spot _ v.frame r1 d _ [] e named tt)
act_covered s qp (Test kind p1 p2 r2 r3 c) v m x base g =
    (λ _. tt, λ a b _ _. test_covered qp kind p1 p2 r2 r3 c v (test_holds v kind qp g) (result_of c a b))
act_covered s qp (ToPredicates r2 mask w) v m x base g =
    (λ _. tt, λ a _ _. each_place _ mask (moved w a.value) (place_covered qp r2 mask w v base g))
act_covered s qp (ToBranch b1 r2) v m x base g =
    (λ _. tt, λ a _ _. (own_covered qp (ToBranch b1 r2) v (Br b1) _ g (inr (inl (refl, refl))) refl, tt))
act_covered s qp (ToApplication a r2 w) v m x base g = (λ _. tt, λ c _ _. application_covered qp a r2 (moved w c.value) w v m g)
act_covered s qp (FromMemory size kind r1 r3 u) v m x base g =
    let action : Action = FromMemory size kind r1 r3 u in
    let named : WritesOf (IsCovered qp action v) v.frame r1 =
    λ w n. own_covered qp action v (Gr r1) w g (inr (inr (inl (n, refl)))) in
    let updated : is_updated u ≡ true → WritesOf (IsCovered qp action v) v.frame r3 =
    λ t w n. own_covered qp action v (Gr r3) w g (inr (inr (inr (inl (and_from _ _ t n, refl))))) in (
      λ _. tt,
      λ d e y z at_d at_e _ _.
          let rest : Each (IsCovered qp action v) (base_writes u e y z) = each_base _ v.frame r3 u e y z at_e updated in
          record {
            loads = λ _ _. each_spot _ v.frame r1 d _ _ at_d named rest;
            defers = λ _ es _. each_spot _ v.frame r1 d _ _ at_d named rest;
            hits = λ _ _ _ es _. rest;
          },
    )
act_covered s qp (ToMemory size kind r3 r2 u) v m x base g =
    let action : Action = ToMemory size kind r3 r2 u in
    let updated : is_updated u ≡ true → WritesOf (IsCovered qp action v) v.frame r3 =
    λ t w n. own_covered qp action v (Gr r3) w g (inr (inr (inl (and_from _ _ t n, refl)))) in
    (λ _. tt, λ e y z at_e _ _ _ _ _. each_base _ v.frame r3 u e y zero_cell at_e updated)
act_covered s qp (Exchange size r1 r3 r2 inc) v m x base g =
    let named : WritesOf (IsCovered qp (Exchange size r1 r3 r2 inc) v) v.frame r1 =
    λ w n. own_covered qp _ v (Gr r1) w g (inr (inr (inl (n, refl)))) in
    (λ _. tt, λ d y z at_d _ _ _ _ _. each_spot _ v.frame r1 d _ [] at_d named tt)
act_covered s qp (CheckNat r2 disp) v m x base g = (λ _. tt, λ a _ _. tt, λ a _ _. tt)
act_covered s qp (CheckAlat clear r1 disp) v m x base g = (λ _. tt, λ d _ _. tt, λ d _ _ es _. tt)
act_covered s qp InvalidateAll v m x base g = tt
act_covered s qp (Invalidate r1) v m x base g = (λ _. tt, λ d _. tt)
act_covered s qp (Allocate r1 sof sol sor) v m x base g =
    let action : Action = Allocate r1 sof sol sor in (
      λ _. tt,
      λ d at_d _ _. (
        row_covered qp action v (under qp Cfm AllocWrite) _ (in_own qp action _ (inr (inr (inr (inl (refl, refl)))))) refl g refl tt,
        each_spot _ (with_sizes v.frame sof sol sor) r1 d _ [] at_d (λ w n. own_covered qp action v (Gr r1) w g (inl (n, refl))) tt,
      ),
    )
act_covered s qp (Jump disp) v m x base g = tt
act_covered s qp (JumpIndirect b2) v m x base g = (λ _. tt, λ to _. tt)
act_covered s qp (Loop kind disp) v m x base g = either_way (loop_covered qp kind disp v true v.lc v.ec)
act_covered s qp (Call b1 (Direct disp)) v m x base g = call_covered qp s.bundle b1 (Direct disp) v g
act_covered s qp (Call b1 (Indirect b2)) v m x base g = (λ _. tt, λ to _. call_covered qp s.bundle b1 (Indirect b2) v g)
act_covered s qp (Return b2) v m x base g = (
  λ _. tt,
  λ to _ _. (
    own_covered qp (Return b2) v Cfm _ g (inr (inr (inl (refl, refl)))) refl,
    (own_covered qp (Return b2) v Ec _ g (inr (inr (inr (inl (refl, refl))))) refl, tt),
  ),
)
act_covered s qp (ClearBases pred_only) v m x base g =
    (own_covered qp (ClearBases pred_only) v Cfm _ g (inl (refl, refl)) refl, tt)
act_covered s qp (Stop unit imm) v m x base g = tt
act_covered s qp (Idle unit) v m x base g = tt

skip_covered : (s : Site) (qp : ℕ) (action : Action) (v : Registers) (m : Memory) → SkipCases (EachCovered qp action v) s action v m
skip_covered s qp (Test Unc p1 p2 r2 r3 c) v m = (λ _. test_covered qp Unc p1 p2 r2 r3 c v (holds_zero v) None, λ _. tt)
skip_covered s qp (Test kind p1 p2 r2 r3 c) v m = (λ e. absurd (cc), λ _. tt)
skip_covered s qp (Loop kind disp) v m = either_way (loop_covered qp kind disp v false v.lc v.ec)
skip_covered s qp action v m = tt

-- Each write of an instruction is covered by an access.
pub covered : WritesAreAccesses
covered s insn v m x base =
    let action : Action = action_of insn.op in
    All-from_recursion _ _
    (guarded_cases (EachCovered insn.qp action v) s insn.qp action v m x (act_covered s insn.qp action v m x base)
    (λ _. skip_covered s insn.qp action v m))

-- Spills alone write a bit of UNAT.
abbrev Spills : ℕ → Action → Registers → Outcome → Type 0
Spills qp f v o = (b : ℕ × Bool) → o.spills ≡ Some b → HasRow qp (under qp Unat Spill) (rows qp f) × (holds v qp ≡ true)

no_spill : {P : Type 0} (b : ℕ × Bool) → None ≡ Some b → P
no_spill b e = absurd (cc)

application_spills : (qp : ℕ) (f : Action) (a : Ar) (x : ℕ) (v : Registers) (m : Memory) → ApplicationCases (Spills qp f v) a x m
application_spills qp f ar.Unat x v m = no_spill
application_spills qp f ar.Pfs x v m = λ _. no_spill
application_spills qp f ar.Lc x v m = no_spill
application_spills qp f ar.Ec x v m = no_spill

act_spills : (s : Site) (qp : ℕ) (action : Action) (v : Registers) (m : Memory) (x : ℕ) → holds v qp ≡ true
    → ActCases (Spills qp action v) s action v m x
act_spills s qp (Compute r1 r2 r3 f) v m x g = (λ _. no_spill, λ d a b _ _ _. no_spill)
act_spills s qp (Fetch r1 source) v m x g = (λ _. no_spill, λ d _. no_spill)
act_spills s qp (Test kind p1 p2 r2 r3 c) v m x g = (λ _. no_spill, λ a b _ _. no_spill)
act_spills s qp (ToPredicates r2 mask w) v m x g = (λ _. no_spill, λ a _ _. no_spill)
act_spills s qp (ToBranch b1 r2) v m x g = (λ _. no_spill, λ a _ _. no_spill)
act_spills s qp (ToApplication a r2 w) v m x g =
    (λ _. no_spill, λ c _ _. application_spills qp (ToApplication a r2 w) a (moved w c.value) v m)
act_spills s qp (FromMemory size kind r1 r3 u) v m x g = (
  λ _. no_spill,
  λ d e y z _ _ _ _.
      record { loads = λ _ _. no_spill; defers = λ _ es _. no_spill; hits = λ _ _ _ es _. no_spill },
)
act_spills s qp (ToMemory size store.Spill r3 r2 u) v m x g = (
  λ _. no_spill,
  λ e y z _ _ _ _ _ _ b _. (in_own qp (ToMemory size store.Spill r3 r2 u) _ (inr (inr (inr (inl (refl, refl))))), g),
)
act_spills s qp (ToMemory size kind r3 r2 u) v m x g = (λ _. no_spill, λ e y z _ _ _ _ _ _. no_spill)
act_spills s qp (Exchange size r1 r3 r2 inc) v m x g = (λ _. no_spill, λ d y z _ _ _ _ _ _. no_spill)
act_spills s qp (CheckNat r2 disp) v m x g = (λ _. no_spill, λ a _ _. no_spill, λ a _ _. no_spill)
act_spills s qp (CheckAlat clear r1 disp) v m x g = (λ _. no_spill, λ d _ _. no_spill, λ d _ _ es _. no_spill)
act_spills s qp InvalidateAll v m x g = no_spill
act_spills s qp (Invalidate r1) v m x g = (λ _. no_spill, λ d _. no_spill)
act_spills s qp (Allocate r1 sof sol sor) v m x g = (λ _. no_spill, λ d _ _ _. no_spill)
act_spills s qp (Jump disp) v m x g = no_spill
act_spills s qp (JumpIndirect b2) v m x g = (λ _. no_spill, λ to _. no_spill)
act_spills s qp (Loop kind disp) v m x g = either_way no_spill
act_spills s qp (Call b1 (Direct disp)) v m x g = no_spill
act_spills s qp (Call b1 (Indirect b2)) v m x g = (λ _. no_spill, λ to _. no_spill)
act_spills s qp (Return b2) v m x g = (λ _. no_spill, λ to _ _. no_spill)
act_spills s qp (ClearBases pred_only) v m x g = no_spill
act_spills s qp (Stop unit imm) v m x g = no_spill
act_spills s qp (Idle unit) v m x g = no_spill

skip_spills : (s : Site) (qp : ℕ) (action : Action) (v : Registers) (m : Memory) → SkipCases (Spills qp action v) s action v m
skip_spills s qp (Test kind p1 p2 r2 r3 c) v m = either_way no_spill
skip_spills s qp (Loop kind disp) v m = either_way no_spill
skip_spills s qp action v m = no_spill

-- A spill that is executed accesses UNAT so.
pub spills : SpillsAreAccesses
spills s insn v m x b e =
    let action : Action = action_of insn.op in
    guarded_cases (Spills insn.qp action v) s insn.qp action v m x (act_spills s insn.qp action v m x)
    (λ _. skip_spills s insn.qp action v m) b e

-- A cell that is written lies in the frame.
pub cells_inside : CellsAreInside
cells_inside qp f v w n covered rotating at = by_resource covered.access.resource (covered.names ∙ ap Some at)
  where
    by_spot : (r : ℕ) (o : Option Spot) → spot (naming_frame f v.frame) r ≡ o → spot_location o ≡ Some (CellAt n)
        → ((naming_frame f v.frame).base ≤ n) × (n < (naming_frame f v.frame).base + (naming_frame f v.frame).sof)
    by_spot r None h e = absurd (cc)
    by_spot r (Some (Static k)) h e = absurd (cc)
    by_spot r (Some (Stacked k)) h e =
        let same : k ≡ n = cc in spot_inside (naming_frame f v.frame) rotating r n (h ∙ ap (λ k. Some (Stacked k)) same)

    by_resource : (q : Resource) → location_of (naming_frame f v.frame) q ≡ Some (CellAt n)
        → ((naming_frame f v.frame).base ≤ n) × (n < (naming_frame f v.frame).base + (naming_frame f v.frame).sof)
    by_resource (Gr r) e = by_spot r (spot (naming_frame f v.frame) r) refl e
    by_resource _ e = absurd (cc)
