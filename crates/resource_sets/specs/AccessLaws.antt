-- The laws of accesses: what the effect of an instruction depends on, and what it writes (volume 3, chapter 5, resource and
-- dependency semantics).
use Rattle.std.specs.Prelude.{◌≡◌, ◌≢◌, ◌⊎◌, ◌≤◌, ◌+◌, ◌*◌, ℕ, ◌<◌, Bool, true, false, List, [], ◌∷◌, get_or, take, All, AllPairs, Option, Some, None}
use Rattle.ia_meaning.specs.declared.limits.TheConstants.{STACK_LIMIT}
use Rattle.ia_insn.specs.declared.insn.Insn.{Insn}
use Rattle.ia_program.specs.Listed.{IsListed}
use Rattle.ia_meaning.specs.declared.action.Action.{Action}
use Rattle.ia_meaning.specs.declared.action.Action.TheVariants as action
use Rattle.ia_meaning.specs.declared.action.FetchSource.TheVariants.{Predicates}
use Rattle.ia_meaning.specs.declared.action.CallTarget.TheVariants.{Indirect}
use Rattle.ia_meaning.specs.declared.next.Next.TheVariants.{Falls}
use Rattle.ia_meaning.specs.declared.state.Cell.{Cell}
use Rattle.ia_meaning.specs.declared.state.FrameShape.{FrameShape}
use Rattle.ia_meaning.specs.declared.state.Spot.{Spot}
use Rattle.ia_meaning.specs.declared.state.Spot.TheVariants.{Static, Stacked}
use Rattle.ia_meaning.specs.State.{Registers, Memory, IsFrame}
use Rattle.ia_meaning.specs.declared.write.Write.{Write}
use Rattle.ia_meaning.specs.declared.write.Write.TheVariants.{SetStatic, SetCell, SetPredicate, SetBranch, SetUnat, SetPfs, SetLc, SetEc, SetFrame}
use Rattle.ia_meaning.specs.declared.write.FrameCause.TheVariants.{Resized}
use Rattle.ia_meaning.specs.Names.{spot, look, holds, predicate_index, set_spot}
use Rattle.ia_meaning.specs.Actions.{insn_action, is_alloc}
use Rattle.ia_meaning.specs.Outcomes.{Outcome}
use Rattle.ia_meaning.specs.Frames.{with_sizes}
use Rattle.ia_meaning.specs.Effects.{Site, effect}
use Rattle.resource_sets.specs.declared.access.Resource.{Resource}
use Rattle.resource_sets.specs.declared.access.Resource.TheVariants.{Gr, Pr, Br, Unat, Pfs, Lc, Ec, Cfm}
use Rattle.resource_sets.specs.declared.access.Kind.{Kind}
use Rattle.resource_sets.specs.declared.access.Kind.TheVariants.{Read, BranchRead, Write as Writes, AllocWrite, LoopWrite, OrWrite, AndWrite, Spill, Fill}
use Rattle.resource_sets.specs.declared.access.Access.{Access}
use Rattle.resource_sets.specs.declared.row.AccessRow.{AccessRow}
use Rattle.resource_sets.specs.Rows.{access}
use Rattle.resource_sets.specs.Accesses.{rows_by_name, rows}

-- What registers have in common at a resource.
abbrev pub SameIn : Resource → Registers → Registers → Type 0
SameIn (Gr r) v w = look v r ≡ look w r
SameIn (Pr p) v w = holds v p ≡ holds w p
SameIn (Br b) v w = get_or v.branches b 0 ≡ get_or w.branches b 0
SameIn Unat v w = v.unat ≡ w.unat
SameIn Pfs v w = v.pfs ≡ w.pfs
SameIn Lc v w = v.lc ≡ w.lc
SameIn Ec v w = v.ec ≡ w.ec
SameIn Cfm v w = v.frame ≡ w.frame

-- Registers agree on an access: what is read is the same, and any access of the frame asks for the same frame. A fill reads
-- the UNATs x and y, which earlier slots of the group may have written.
abbrev pub AgreesOn : Registers → Registers → ℕ → ℕ → Kind → Resource → Type 0
AgreesOn v w x y Read q = SameIn q v w
AgreesOn v w x y BranchRead q = SameIn q v w
AgreesOn v w x y Fill q = x ≡ y
AgreesOn v w x y kind Cfm = v.frame ≡ w.frame
AgreesOn v w x y kind q = Unit {0}

-- A row that is there asks for agreement where its guard is 1.
abbrev pub AgreesAt : ℕ → Registers → Registers → ℕ → ℕ → AccessRow → Type 0
AgreesAt qp v w x y row = row.there ≡ true → holds v (access qp row).guard ≡ true → AgreesOn v w x y row.kind row.resource

abbrev pub AgreesAtEach : ℕ → Registers → Registers → ℕ → ℕ → List AccessRow → Type 0
AgreesAtEach qp v w x y [] = Unit {0}
AgreesAtEach qp v w x y (row ∷ rows) = AgreesAt qp v w x y row × AgreesAtEach qp v w x y rows

-- A move from the predicates asks for all places, and an indirect branch for the first sixteen: those of p1 to p15,
-- which it reads, and that of p0, which is always 1.
abbrev pub AgreesByPlace : Action → Registers → Registers → Type 0
AgreesByPlace (action.Fetch r1 Predicates) v w = v.predicates ≡ w.predicates
AgreesByPlace (action.JumpIndirect b2) v w = take 16 v.predicates ≡ take 16 w.predicates
AgreesByPlace (action.Call b1 (Indirect b2)) v w = take 16 v.predicates ≡ take 16 w.predicates
AgreesByPlace (action.Return b2) v w = take 16 v.predicates ≡ take 16 w.predicates
AgreesByPlace f v w = Unit {0}

-- Registers v and w, with UNATs x and y, agree on what an instruction accesses from v.
pub record Agree (insn : Insn) (v w : Registers) (x y : ℕ) : Type 0 where
  pub named : AgreesAtEach insn.qp v w x y (rows_by_name insn.qp (insn_action insn))
  pub placed : holds v insn.qp ≡ true → AgreesByPlace (insn_action insn) v w

-- What an instruction does is the same from registers that agree on its accesses.
abbrev pub DependsOnAccesses : Type 0
DependsOnAccesses = (site : Site) (insn : Insn) (v w : Registers) (m : Memory) (x y : ℕ) → Agree insn v w x y
    → effect site insn v m x ≡ effect site insn w m y

-- Where a write goes.
pub data Location : Type 0 where
  StaticAt : ℕ → Location
  CellAt : ℕ → Location
  PredicateAt : ℕ → Location
  BranchAt : ℕ → Location
  TheUnat : Location
  ThePfs : Location
  TheLc : Location
  TheEc : Location
  TheFrame : Location

abbrev pub location : Write → Location
location (SetStatic n c) = StaticAt n
location (SetCell n c) = CellAt n
location (SetPredicate n b) = PredicateAt n
location (SetBranch n x) = BranchAt n
location (SetUnat x) = TheUnat
location (SetPfs x) = ThePfs
location (SetLc x) = TheLc
location (SetEc x) = TheEc
location (SetFrame cause f) = TheFrame

abbrev pub spot_location : Option Spot → Option Location
spot_location None = None
spot_location (Some (Static n)) = Some (StaticAt n)
spot_location (Some (Stacked n)) = Some (CellAt n)

-- Where a resource stands by this frame.
abbrev pub location_of : FrameShape → Resource → Option Location
location_of f (Gr r) = spot_location (spot f r)
location_of f (Pr p) = Some (PredicateAt (predicate_index f p))
location_of f (Br b) = Some (BranchAt b)
location_of f Unat = Some TheUnat
location_of f Pfs = Some ThePfs
location_of f Lc = Some TheLc
location_of f Ec = Some TheEc
location_of f Cfm = Some TheFrame

-- The frame by which an instruction names its targets: the new one for `alloc`.
abbrev pub naming_frame : Action → FrameShape → FrameShape
naming_frame (action.Allocate r1 sof sol sor) f = with_sizes f sof sol sor
naming_frame g f = f

-- Kinds under which an instruction writes registers.
abbrev pub writes_registers : Kind → Bool
writes_registers Writes = true
writes_registers AllocWrite = true
writes_registers LoopWrite = true
writes_registers OrWrite = true
writes_registers AndWrite = true
writes_registers kind = false

-- An or-write writes 1, an and-write 0.
abbrev pub MayPut : Kind → Write → Type 0
MayPut OrWrite (SetPredicate n b) = b ≡ true
MayPut OrWrite w = ⊥
MayPut AndWrite (SetPredicate n b) = b ≡ false
MayPut AndWrite w = ⊥
MayPut kind w = Unit {0}

-- An access is one of the rows that are there.
abbrev pub HasRow : ℕ → Access → List AccessRow → Type 0
HasRow qp a [] = ⊥
HasRow qp a (row ∷ rows) = ((row.there ≡ true) × (access qp row ≡ a)) ⊎ HasRow qp a rows

-- An access of an instruction.
abbrev pub HasAccess : Insn → Access → Type 0
HasAccess insn a = HasRow insn.qp a (rows insn.qp (insn_action insn))

-- A write from registers v lies on a resource that an instruction of this action writes, under a guard that is 1.
pub record IsCovered (qp : ℕ) (f : Action) (v : Registers) (w : Write) : Type 0 where
  pub access : Access
  pub has : HasRow qp access (rows qp f)
  pub writing : writes_registers access.kind ≡ true
  pub guarded : holds v access.guard ≡ true
  pub names : location_of (naming_frame f v.frame) access.resource ≡ Some (location w)
  pub puts : MayPut access.kind w

-- What an instruction writes is what it accesses so. No view of a group need be a state: the bound of the frame's rename
-- base is enough.
abbrev pub WritesAreAccesses : Type 0
WritesAreAccesses = (site : Site) (insn : Insn) (v : Registers) (m : Memory) (x : ℕ) → v.frame.rrbs.pr < 48
    → All (IsCovered insn.qp (insn_action insn) v) (effect site insn v m x).writes

-- A cell that an instruction writes lies in the frame by which it names its targets. Of that frame no more is asked than that
-- its rotating part fits, which holds of the frame of a state and of the one that a listed `alloc` writes.
abbrev pub CellsAreInside : Type 0
CellsAreInside = (qp : ℕ) (f : Action) (v : Registers) (w : Write) (n : ℕ) → IsCovered qp f v w
    → 8 * (naming_frame f v.frame).sor ≤ (naming_frame f v.frame).sof → location w ≡ CellAt n
    → ((naming_frame f v.frame).base ≤ n) × (n < (naming_frame f v.frame).base + (naming_frame f v.frame).sof)

-- A listed instruction writes nothing twice.
abbrev pub WritesAreApart : Type 0
WritesAreApart = (site : Site) (insn : Insn) (v : Registers) (m : Memory) (x : ℕ) → IsListed insn → IsFrame v.frame
    → AllPairs (λ a b. location a ≢ location b) (effect site insn v m x).writes

-- A bit of UNAT is written by a spill that is executed.
abbrev pub SpillsAreAccesses : Type 0
SpillsAreAccesses = (site : Site) (insn : Insn) (v : Registers) (m : Memory) (x : ℕ) (bit : ℕ × Bool)
    → (effect site insn v m x).spills ≡ Some bit
    → HasAccess insn (record { resource = Unat; kind = Spill; guard = insn.qp }) × (holds v insn.qp ≡ true)

-- The frame is written first, and is this one; after it comes at most one register, since r0 is never written. The slot falls
-- through, and the frame ends within the stack.
pub record ResizesFirst (new : FrameShape) (o : Outcome) : Type 0 where
  pub target : Spot
  pub cell : Cell
  pub writes : o.writes ≡ SetFrame Resized new ∷ set_spot target cell []
  pub falls : o.next ≡ Falls
  pub limit : new.base + new.sof ≤ STACK_LIMIT

-- What comes of an `alloc` of this frame: it spills nothing, and writes nothing or the frame first.
pub record IsAllocated (new : FrameShape) (o : Outcome) : Type 0 where
  pub spills : o.spills ≡ None
  pub ways : (o.writes ≡ []) ⊎ ResizesFirst new o

-- An `alloc` that writes at all writes its frame first.
abbrev pub AllocWritesItsFrameFirst : Type 0
AllocWritesItsFrameFirst = (site : Site) (insn : Insn) (v : Registers) (m : Memory) (x : ℕ) → is_alloc (insn_action insn) ≡ true
    → IsAllocated (naming_frame (insn_action insn) v.frame) (effect site insn v m x)

-- The frame that a listed `alloc` writes has the sizes and bases of a frame: the rotating part changes only where all rename
-- bases are 0.
abbrev pub AllocatedFramesAreFrames : Type 0
AllocatedFramesAreFrames = (site : Site) (insn : Insn) (v : Registers) (m : Memory) (x : ℕ) → is_alloc (insn_action insn) ≡ true
    → IsListed insn → IsFrame v.frame → ((effect site insn v m x).writes ≡ []) ⊎ IsFrame (naming_frame (insn_action insn) v.frame)
