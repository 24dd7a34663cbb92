-- What the effect of an instruction depends on: registers that agree on its accesses give the same effect.
use Rattle.std.proofs.Common.{◌≡◌, ℕ, zero, suc, Bool, true, false, ◌||◌, List, [], ◌∷◌, get_or, take, Option, Some, None, refl, sym, ◌∙◌, ap, ◌⊎◌, inl, inr}
use Rattle.std.proofs.lemmas.Bool.{and_from, or_left, or_right}
use Rattle.ia_insn.specs.declared.choices.CmpKind.{CmpKind}
use Rattle.ia_insn.specs.declared.choices.CmpKind.TheVariants.{Normal}
use Rattle.ia_insn.specs.declared.choices.LoadKind.{LoadKind}
use Rattle.ia_insn.specs.declared.choices.LoadKind.TheVariants as load
use Rattle.ia_insn.specs.declared.choices.BranchKind.{BranchKind}
use Rattle.ia_insn.specs.declared.choices.BranchKind.TheVariants.{Cond, Wexit, Wtop, Cloop, Cexit, Ctop}
use Rattle.ia_insn.specs.declared.choices.Update.{Update}
use Rattle.ia_insn.specs.declared.registers.Ar.TheVariants as ar
use Rattle.ia_program.specs.declared.ending.FaultKind.{FaultKind}
use Rattle.ia_meaning.specs.declared.action.FetchSource.TheVariants.{Branch, Application, Predicates, Ip}
use Rattle.ia_meaning.specs.declared.action.CallTarget.TheVariants.{Direct, Indirect}
use Rattle.ia_meaning.specs.declared.action.Action.{Action}
use Rattle.ia_meaning.specs.declared.state.Cell.{Cell}
use Rattle.ia_meaning.specs.declared.state.FrameShape.{FrameShape}
use Rattle.ia_meaning.specs.declared.state.Spot.{Spot}
use Rattle.ia_meaning.specs.declared.state.AlatEntry.{AlatEntry}
use Rattle.ia_meaning.specs.State.{Registers, Memory}
use Rattle.ia_meaning.specs.declared.write.Write.{Write}
use Rattle.ia_meaning.specs.Names.{is_stacked, is_rotating, spot, look, predicate_index, holds, predicate_spot}
use Rattle.ia_meaning.specs.declared.action.Action.TheVariants.{Compute, Fetch, Test, ToPredicates, ToBranch, ToApplication, FromMemory, ToMemory, Exchange, CheckNat, CheckAlat, InvalidateAll, Invalidate, Allocate, Jump, JumpIndirect, Loop, Call, Return, ClearBases, Stop, Idle}
use Rattle.ia_meaning.specs.Actions.{insn_action}
use Rattle.ia_meaning.specs.Loads.{access_fault, load_nat, load_tried, base_writes, update_register, from_memory}
use Rattle.ia_meaning.specs.Loops.{turn_of, turned}
use Rattle.ia_meaning.specs.Landings.{target_of}
use Rattle.ia_meaning.specs.Effects.{Site, act, skip, guarded}
use Rattle.ia_meaning.proofs.PredicateIndexes.{holds_zero}
use Rattle.resource_sets.specs.declared.access.Resource.{Resource}
use Rattle.resource_sets.specs.declared.access.Resource.TheVariants.{Gr, Pr}
use Rattle.resource_sets.specs.declared.row.AccessRow.{AccessRow}
use Rattle.resource_sets.specs.Rows.{is_not_zero}
use Rattle.resource_sets.specs.Accesses.{rows_by_name, is_fill, is_framed, any_framed, other_name, test_rows, loop_rows, qp_rows, reads_plainly, reads_as_branch, own_rows}
use Rattle.resource_sets.specs.AccessLaws.{AgreesAtEach, AgreesByPlace, DependsOnAccesses}

-- r0 is 0.
look_same : (v w : Registers) (r : ℕ) → (is_not_zero r ≡ true → look v r ≡ look w r) → look v r ≡ look w r
unfolding look
look_same v w zero h = refl
look_same v w (suc r) h = h refl

holds_same : (v w : Registers) (p : ℕ) → (is_not_zero p ≡ true → holds v p ≡ holds w p) → holds v p ≡ holds w p
unfolding holds
holds_same v w zero h = refl
holds_same v w (suc p) h = h refl

-- What a name stands for is the same in two frames, where it is no name of the frame or the frames are the same.
pub spot_same : (f g : FrameShape) (r : ℕ) → (is_stacked r ≡ true → f ≡ g) → spot f r ≡ spot g r
unfolding spot
spot_same f g r h = go (is_stacked r) refl
  where
    go : (b : Bool) → is_stacked r ≡ b → spot f r ≡ spot g r
    go true e = ap (λ q. spot q r) (h e)
    go false e = rw e refl

pub place_same : (f g : FrameShape) (p : ℕ) → (is_rotating p ≡ true → f ≡ g) → predicate_index f p ≡ predicate_index g p
unfolding predicate_index
place_same f g p h = go (is_rotating p) refl
  where
    go : (b : Bool) → is_rotating p ≡ b → predicate_index f p ≡ predicate_index g p
    go true e = ap (λ q. predicate_index q p) (h e)
    go false e = rw e refl

predicate_spot_same : (f g : FrameShape) (p : ℕ) → (is_rotating p ≡ true → f ≡ g) → predicate_spot f p ≡ predicate_spot g p
unfolding predicate_spot
predicate_spot_same f g zero h = refl
predicate_spot_same f g (suc p) h = ap Some (place_same f g (suc p) h)

-- What each row names is the same in two frames.
abbrev Names : FrameShape → FrameShape → Resource → Type 0
Names f g (Gr r) = spot f r ≡ spot g r
Names f g (Pr p) = predicate_spot f p ≡ predicate_spot g p
Names f g q = Unit {0}

abbrev NamesEach : FrameShape → FrameShape → List AccessRow → Type 0
NamesEach f g [] = Unit {0}
NamesEach f g (row ∷ rows) = Names f g row.resource × NamesEach f g rows

names : (f g : FrameShape) (q : Resource) → (is_framed q ≡ true → f ≡ g) → Names f g q
names f g (Gr r) h = spot_same f g r h
names f g (Pr p) h = predicate_spot_same f g p h
names f g _ h = tt

names_each : (f g : FrameShape) (rows : List AccessRow) → (any_framed rows ≡ true → f ≡ g) → NamesEach f g rows
names_each f g [] h = tt
names_each f g (row ∷ rows) h =
    (names f g row.resource (λ e. h (or_left _ _ e)), names_each f g rows (λ e. h (or_right (is_framed row.resource) _ e)))

-- What registers that agree on the accesses of an action have in common, part by part.
record Parts (qp : ℕ) (f : Action) (v w : Registers) (x y : ℕ) : Type 0 where
  guard : holds v qp ≡ holds w qp
  names : NamesEach v.frame w.frame (own_rows f)
  other : spot v.frame (other_name f) ≡ spot w.frame (other_name f)
  reads : AgreesAtEach qp v w x y (own_rows f)
  placed : holds v qp ≡ true → AgreesByPlace f v w

-- The qualifying predicate is read in one way or the other.
pub read_so : (f : Action) → (reads_plainly f ≡ true) ⊎ (reads_as_branch f ≡ true)
read_so (Jump disp) = inr refl
read_so (JumpIndirect b2) = inr refl
read_so (Loop kind disp) = inr refl
read_so (Call b1 callee) = inr refl
read_so (Return b2) = inr refl
read_so f = inl refl

guard_same : (qp : ℕ) (f : Action) (v w : Registers) (x y : ℕ) → AgreesAtEach qp v w x y (qp_rows qp f) → holds v qp ≡ holds w qp
guard_same qp f v w x y h = go (read_so f)
  where
    go : (reads_plainly f ≡ true) ⊎ (reads_as_branch f ≡ true) → holds v qp ≡ holds w qp
    go (inl r) = holds_same v w qp (λ n. h.0 (and_from _ _ n r) (holds_zero v))
    go (inr r) = holds_same v w qp (λ n. h.1.0 (and_from _ _ n r) (holds_zero v))

parts : (qp : ℕ) (f : Action) (v w : Registers) (x y : ℕ) → AgreesAtEach qp v w x y (rows_by_name qp f)
    → (holds v qp ≡ true → AgreesByPlace f v w) → Parts qp f v w x y
parts qp f v w x y h p =
    let framed : (is_stacked (other_name f) || any_framed (own_rows f)) ≡ true → v.frame ≡ w.frame =
    λ e. h.0 (or_right (is_rotating qp) _ e) (holds_zero v) in
    record {
      guard = guard_same qp f v w x y (h.1.0, (h.1.1.0, tt));
      names = names_each v.frame w.frame (own_rows f) (λ e. framed (or_right (is_stacked (other_name f)) _ e));
      other = spot_same v.frame w.frame (other_name f) (λ e. framed (or_left _ _ e));
      reads = h.1.1.1;
      placed = p;
    }

-- Of UNAT a load takes a bit where it is a fill.
load_nat_same : (kind : LoadKind) (address x y : ℕ) → (is_fill kind ≡ true → x ≡ y)
    → load_nat kind address x ≡ load_nat kind address y
load_nat_same load.Fill address x y h = rw (h refl) refl
load_nat_same _ address x y h = refl

load_tried_same : (k : Option FaultKind) (kind : LoadKind) (e : AlatEntry) (m : Memory) (x y : ℕ) (ws : List Write)
    → (is_fill kind ≡ true → x ≡ y) → load_tried k kind e m x ws ≡ load_tried k kind e m y ws
load_tried_same None kind e m x y ws h = rw (load_nat_same kind e.address x y h) refl
load_tried_same (Some k) kind e m x y ws h = refl

load_same : (size : ℕ) (kind : LoadKind) (u : Update) (d e : Option Spot) (base more : Option Cell) (m : Memory) (x y : ℕ)
    → (is_fill kind ≡ true → x ≡ y) → from_memory size kind u d e base more m x ≡ from_memory size kind u d e base more m y
load_same size kind u (Some d) (Some e) (Some base) (Some more) m x y h =
    let entry : AlatEntry = record { key = d; address = base.value; size = size } in
    let made = load_tried_same (access_fault m.bytes entry.address entry.size) kind entry m x y (base_writes u e base more) h in
    rw made refl
load_same size kind u _ _ _ _ m x y h = refl

-- Of a test the rows name both targets.
test_names : (kind : CmpKind) (p q : ℕ) (f g : FrameShape) → NamesEach f g (test_rows kind p q)
    → (predicate_spot f p ≡ predicate_spot g p) × (predicate_spot f q ≡ predicate_spot g q)
test_names Normal p q f g h = (h.0, h.1.0)
test_names _ p q f g h = (h.0, h.1.0)

-- Of a loop branch.
cloop_same : (lc e d : ℕ) (f g : FrameShape) (bundle : ℕ) (m : Memory)
    → turned (turn_of Cloop true lc e) f bundle m ≡ turned (turn_of Cloop true lc d) g bundle m
cloop_same zero e d f g bundle m = refl
cloop_same (suc lc) e d f g bundle m = refl

loop_same : (kind : BranchKind) (b : Bool) (qp bundle : ℕ) (v w : Registers) (m : Memory) (x y : ℕ)
    → AgreesAtEach qp v w x y (loop_rows kind)
    → turned (turn_of kind b v.lc v.ec) v.frame bundle m ≡ turned (turn_of kind b w.lc w.ec) w.frame bundle m
loop_same Cond b qp bundle v w m x y h = refl
loop_same Wexit b qp bundle v w m x y h =
    let e : v.ec ≡ w.ec = h.0 refl (holds_zero v) in
    let f : v.frame ≡ w.frame = h.1.1.0 refl (holds_zero v) in
    cc
loop_same Wtop b qp bundle v w m x y h =
    let e : v.ec ≡ w.ec = h.0 refl (holds_zero v) in
    let f : v.frame ≡ w.frame = h.1.1.0 refl (holds_zero v) in
    cc
loop_same Cloop true qp bundle v w m x y h = rw (h.0 refl (holds_zero v)) (cloop_same w.lc v.ec w.ec v.frame w.frame bundle m)
loop_same Cloop false qp bundle v w m x y h = refl
loop_same Cexit b qp bundle v w m x y h =
    let l : v.lc ≡ w.lc = h.0 refl (holds_zero v) in
    let e : v.ec ≡ w.ec = h.1.1.0 refl (holds_zero v) in
    let f : v.frame ≡ w.frame = h.1.1.1.1.0 refl (holds_zero v) in
    cc
loop_same Ctop b qp bundle v w m x y h =
    let l : v.lc ≡ w.lc = h.0 refl (holds_zero v) in
    let e : v.ec ≡ w.ec = h.1.1.0 refl (holds_zero v) in
    let f : v.frame ≡ w.frame = h.1.1.1.1.0 refl (holds_zero v) in
    cc

-- An action that is executed.
act_same : (s : Site) (qp : ℕ) (action : Action) (v w : Registers) (m : Memory) (x y : ℕ) → holds v qp ≡ true
    → Parts qp action v w x y → act s action v m x ≡ act s action w m y
act_same s qp (Compute r1 r2 r3 f) v w m x y g h =
    let a : look v r2 ≡ look w r2 = look_same v w r2 (λ n. h.reads.0 n g) in
    let b : look v r3 ≡ look w r3 = look_same v w r3 (λ n. h.reads.1.0 n g) in
    cc
act_same s qp (Fetch r1 (Branch b)) v w m x y g h =
    let a : get_or v.branches b 0 ≡ get_or w.branches b 0 = h.reads.1.0 refl g in cc
act_same s qp (Fetch r1 (Application ar.Unat)) v w m x y g h = let a : v.unat ≡ w.unat = h.reads.1.0 refl g in cc
act_same s qp (Fetch r1 (Application ar.Pfs)) v w m x y g h = let a : v.pfs ≡ w.pfs = h.reads.1.0 refl g in cc
act_same s qp (Fetch r1 (Application ar.Lc)) v w m x y g h = let a : v.lc ≡ w.lc = h.reads.1.0 refl g in cc
act_same s qp (Fetch r1 (Application ar.Ec)) v w m x y g h = let a : v.ec ≡ w.ec = h.reads.1.0 refl g in cc
act_same s qp (Fetch r1 Predicates) v w m x y g h = let a : v.predicates ≡ w.predicates = h.placed g in cc
act_same s qp (Fetch r1 Ip) v w m x y g h = cc
act_same s qp (Test kind p1 p2 r2 r3 c) v w m x y g h =
    let a : look v r2 ≡ look w r2 = look_same v w r2 (λ n. h.reads.0 n g) in
    let b : look v r3 ≡ look w r3 = look_same v w r3 (λ n. h.reads.1.0 n g) in
    let t = test_names kind p1 p2 v.frame w.frame h.names.1.1 in
    cc
act_same s qp (ToPredicates r2 mask _) v w m x y g h = let a : look v r2 ≡ look w r2 = look_same v w r2 (λ n. h.reads.0 n g) in cc
act_same s qp (ToBranch b1 r2) v w m x y g h = let a : look v r2 ≡ look w r2 = look_same v w r2 (λ n. h.reads.0 n g) in cc
act_same s qp (ToApplication a r2 _) v w m x y g h = let a : look v r2 ≡ look w r2 = look_same v w r2 (λ n. h.reads.0 n g) in cc
act_same s qp (FromMemory size kind r1 r3 u) v w m x y g h =
    let a : look v r3 ≡ look w r3 = look_same v w r3 (λ n. h.reads.0 n g) in
    let b : look v (update_register u) ≡ look w (update_register u) = look_same v w (update_register u) (λ n. h.reads.1.0 n g) in
    let t = load_same size kind u (spot w.frame r1) (spot w.frame r3) (look w r3) (look w (update_register u)) m x y
    (λ e. h.reads.1.1.1.1.0 e g) in
    cc
act_same s qp (ToMemory size kind r3 r2 u) v w m x y g h =
    let a : look v r3 ≡ look w r3 = look_same v w r3 (λ n. h.reads.0 n g) in
    let b : look v r2 ≡ look w r2 = look_same v w r2 (λ n. h.reads.1.0 n g) in
    cc
act_same s qp (Exchange size r1 r3 r2 inc) v w m x y g h =
    let a : look v r3 ≡ look w r3 = look_same v w r3 (λ n. h.reads.0 n g) in
    let b : look v r2 ≡ look w r2 = look_same v w r2 (λ n. h.reads.1.0 n g) in
    cc
act_same s qp (CheckNat r2 disp) v w m x y g h = let a : look v r2 ≡ look w r2 = look_same v w r2 (λ n. h.reads.0 n g) in cc
act_same s qp (CheckAlat clear r1 disp) v w m x y g h = cc
act_same s qp InvalidateAll v w m x y g h = refl
act_same s qp (Invalidate r1) v w m x y g h = cc
act_same s qp (Allocate r1 sof sol sor) v w m x y g h =
    let p : v.pfs ≡ w.pfs = h.reads.1.0 refl g in
    let f : v.frame ≡ w.frame = h.reads.1.1.0 refl g in
    cc
act_same s qp (Jump disp) v w m x y g h = refl
act_same s qp (JumpIndirect b2) v w m x y g h =
    let b : get_or v.branches b2 0 ≡ get_or w.branches b2 0 = h.reads.0 refl g in
    let l : take 16 v.predicates ≡ take 16 w.predicates = h.placed g in
    cc
act_same s qp (Loop kind disp) v w m x y g h = loop_same kind true qp (target_of s.bundle disp) v w m x y h.reads
act_same s qp (Call b1 (Direct disp)) v w m x y g h =
    let f : v.frame ≡ w.frame = h.reads.0 refl g in
    let e : v.ec ≡ w.ec = h.reads.1.1.1.0 refl g in
    cc
act_same s qp (Call b1 (Indirect b2)) v w m x y g h =
    let f : v.frame ≡ w.frame = h.reads.0 refl g in
    let e : v.ec ≡ w.ec = h.reads.1.1.1.0 refl g in
    let b : get_or v.branches b2 0 ≡ get_or w.branches b2 0 = h.reads.1.1.1.1.1.0 refl g in
    let l : take 16 v.predicates ≡ take 16 w.predicates = h.placed g in
    cc
act_same s qp (Return b2) v w m x y g h =
    let b : get_or v.branches b2 0 ≡ get_or w.branches b2 0 = h.reads.0 refl g in
    let p : v.pfs ≡ w.pfs = h.reads.1.0 refl g in
    let f : v.frame ≡ w.frame = h.reads.1.1.0 refl g in
    let l : take 16 v.predicates ≡ take 16 w.predicates = h.placed g in
    cc
act_same s qp (ClearBases pred_only) v w m x y g h = let f : v.frame ≡ w.frame = h.reads.0 refl g in cc
act_same s qp (Stop unit imm) v w m x y g h = refl
act_same s qp (Idle unit) v w m x y g h = refl

-- One whose qualifying predicate is 0.
skip_same : (s : Site) (qp : ℕ) (action : Action) (v w : Registers) (m : Memory) (x y : ℕ) → Parts qp action v w x y
    → skip s action v m ≡ skip s action w m
skip_same s qp (Test kind p1 p2 r2 r3 c) v w m x y h =
    let t = test_names kind p1 p2 v.frame w.frame h.names.1.1 in
    cc
skip_same s qp (Loop kind disp) v w m x y h = loop_same kind false qp (target_of s.bundle disp) v w m x y h.reads
skip_same s qp _ v w m x y h = refl

guarded_same : (s : Site) (qp : ℕ) (action : Action) (v w : Registers) (m : Memory) (x y : ℕ) → Parts qp action v w x y
    → guarded s qp action v m x ≡ guarded s qp action w m y
guarded_same s qp action v w m x y h = go (holds v qp) refl
  where
    go : (b : Bool) → holds v qp ≡ b → guarded s qp action v m x ≡ guarded s qp action w m y
    go true e = rw (e, sym h.guard ∙ e) (act_same s qp action v w m x y e h)
    go false e = rw (e, sym h.guard ∙ e) (skip_same s qp action v w m x y h)

-- What an instruction does is the same from registers that agree on its accesses.
pub depends : DependsOnAccesses
depends s insn v w m x y h =
    guarded_same s insn.qp (insn_action insn) v w m x y (parts insn.qp (insn_action insn) v w x y h.named h.placed)
