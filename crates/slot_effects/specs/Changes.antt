-- What a slot writes, as one change.
use Rattle.std.specs.Prelude.{◌≡◌, ℕ, ◌*◌, ◌<◌, ◌≤◌, Bool, false, if◌then◌else◌, List, [], ◌∷◌, Option, Some, None, IsTrue}
use Rattle.ia_insn.specs.declared.registers.Ar.{Ar}
use Rattle.ia_insn.specs.declared.registers.Ar.TheVariants.{Unat, Pfs, Lc, Ec}
use Rattle.ia_insn.specs.declared.choices.Update.{Update}
use Rattle.ia_insn.specs.Ranges.{IsAccessSize}
use Rattle.ia_meaning.specs.declared.state.Cell.{Cell}
use Rattle.ia_meaning.specs.declared.state.FrameShape.{FrameShape}
use Rattle.ia_meaning.specs.declared.state.Spot.{Spot}
use Rattle.ia_meaning.specs.declared.state.AlatEntry.{AlatEntry}
use Rattle.ia_meaning.specs.declared.next.Next.{Next}
use Rattle.ia_meaning.specs.State.{zero_cell, Registers, Memory, HasReservedZeros}
use Rattle.ia_meaning.specs.declared.write.Write.{Write}
use Rattle.ia_meaning.specs.declared.write.Write.TheVariants.{SetBranch, SetUnat, SetPfs, SetLc, SetEc, SetFrame}
use Rattle.ia_meaning.specs.declared.write.FrameCause.TheVariants.{Resized, Renamed}
use Rattle.ia_meaning.specs.Names.{spot, look, set_spot, predicate_spot, set_predicate}
use Rattle.ia_meaning.specs.Outcomes.{Outcome}
use Rattle.ia_meaning.specs.Moves.{predicate_writes}
use Rattle.ia_meaning.specs.Loads.{access_fault, stored, invalidated, entered, untouched, update_register, base_writes, unat_bit}
use Rattle.ia_meaning.specs.Frames.{with_sizes, cleared, epilog_of, call_state, call_frame, marked_frame, return_fault, returned_frame}
use Rattle.ia_meaning.specs.Loops.{turn_of, turn_writes}
use Rattle.frame_shapes.specs.Faults.{alloc_fault}
use Rattle.slot_effects.specs.declared.change.Change.{Change}
use Rattle.slot_effects.specs.declared.change.Change.TheVariants.{Nothing, General, Predicates, PredicateWord, Branch, Application, Loaded, Entered, Hit, Stored, Exchanged, Invalidated, AllInvalidated, Allocated, Turned, Called, Returned, Cleared}

-- The write of an application register.
abbrev pub application_write : Ar → ℕ → Write
application_write Unat v = SetUnat v
application_write Pfs v = SetPfs v
application_write Lc v = SetLc v
application_write Ec v = SetEc v

-- A write of what a register is held in, where there is one, before other writes.
abbrev pub set_at : Option Spot → Cell → List Write → List Write
set_at None cell ws = ws
set_at (Some d) cell ws = set_spot d cell ws

-- What a register's cell holds, 0 where it has none.
abbrev pub held_or_zero : Option Cell → Cell
held_or_zero None = zero_cell
held_or_zero (Some cell) = cell

-- What a register holds, 0 outside the frame.
abbrev pub held : Registers → ℕ → Cell
held r n = held_or_zero (look r n)

-- The write of a base at its place, where there is one.
abbrev pub update_at : Option Spot → Update → Cell → Cell → List Write
update_at None u base more = []
update_at (Some d) u base more = base_writes u d base more

-- The write of a base, where it is updated: by a number, or by a register that holds this cell.
abbrev pub base_update : Registers → ℕ → Update → Cell → List Write
base_update r r3 u more = update_at (spot r.frame r3) u (held r r3) more

-- The write of the base of a load, where it is updated: by a number, or by the register that the update names.
abbrev pub load_update : Registers → ℕ → Update → List Write
load_update r r3 u = base_update r r3 u (held r (update_register u))

-- The writes of a change of these registers.
abbrev pub writes_of : Registers → Change → List Write
writes_of r Nothing = []
writes_of r (General r1 cell) = set_at (spot r.frame r1) cell []
writes_of r (Predicates p1 first p2 second) =
    set_predicate (predicate_spot r.frame p1) first (set_predicate (predicate_spot r.frame p2) second [])
writes_of r (PredicateWord mask word) = predicate_writes mask word
writes_of r (Branch b1 value) = SetBranch b1 value ∷ []
writes_of r (Application ar value) = application_write ar value ∷ []
writes_of r (Loaded r1 r3 invalidates update cell) = set_at (spot r.frame r1) cell (load_update r r3 update)
writes_of r (Entered r1 r3 size update cell) = set_at (spot r.frame r1) cell (load_update r r3 update)
writes_of r (Hit r1 r3 invalidates update) = load_update r r3 update
writes_of r (Stored r3 size spills update cell) = base_update r r3 update zero_cell
writes_of r (Exchanged r1 r3 size old value) = set_at (spot r.frame r1) (record { value = old; nat = false }) []
writes_of r (Invalidated r1) = []
writes_of r AllInvalidated = []
writes_of r (Allocated r1 sof sol sor) =
    SetFrame Resized (with_sizes r.frame sof sol sor)
    ∷ set_at (spot (with_sizes r.frame sof sol sor) r1) (record { value = r.pfs; nat = false }) []
writes_of r (Turned kind qp) = turn_writes (turn_of kind qp r.lc r.ec) r.frame
writes_of r (Called b1 address) =
    SetBranch b1 address ∷ SetPfs (call_state r.frame r.ec) ∷ SetFrame Resized (call_frame r.frame) ∷ []
writes_of r Returned =
    SetFrame Resized (returned_frame r.frame.base r.pfs)
    ∷ SetEc (epilog_of r.pfs) ∷ []
writes_of r (Cleared pred_only) = SetFrame Renamed (cleared pred_only r.frame) ∷ []

-- The entries without that of the register at a place, where there is one.
abbrev pub invalidated_at : Option Spot → List AlatEntry → List AlatEntry
invalidated_at None es = es
invalidated_at (Some d) es = invalidated es d

-- The entries without that of the register at a place, where a load invalidates it.
abbrev pub invalidated_where : Bool → Option Spot → List AlatEntry → List AlatEntry
invalidated_where invalidates d es = if invalidates then invalidated_at d es else es

-- The entries with a new one of the register at a place, where there is one.
abbrev pub entered_at : Option Spot → ℕ → ℕ → List AlatEntry → List AlatEntry
entered_at None address size es = es
entered_at (Some d) address size es = entered es (record { key = d; address = address; size = size })

-- The memory after a change of these registers.
abbrev pub memory_after : Registers → Change → Memory → Memory
memory_after r (Loaded r1 r3 invalidates update cell) m = record m { alat = invalidated_where invalidates (spot r.frame r1) m.alat }
memory_after r (Entered r1 r3 size update cell) m =
    record m { alat = entered_at (spot r.frame r1) (held r r3).value size m.alat }
memory_after r (Hit r1 r3 invalidates update) m = record m { alat = invalidated_where invalidates (spot r.frame r1) m.alat }
memory_after r (Stored r3 size spills update cell) m = record {
  bytes = stored m.bytes (held r r3).value size cell.value;
  alat = untouched m.alat (held r r3).value size;
}
memory_after r (Exchanged r1 r3 size old value) m = record {
  bytes = stored m.bytes (held r r3).value size value;
  alat = untouched m.alat (held r r3).value size;
}
memory_after r (Invalidated r1) m = record m { alat = invalidated_at (spot r.frame r1) m.alat }
memory_after r AllInvalidated m = record m { alat = [] }
memory_after r change m = m

-- The bit of UNAT that a change of these registers spills, and its value.
abbrev pub spills_of : Registers → Change → Option (ℕ × Bool)
spills_of r (Stored r3 size spills update cell) = if spills then Some (unat_bit (held r r3).value, cell.nat) else None
spills_of r change = None

-- The outcome of a slot that makes a change of these registers and this memory, and goes on so.
abbrev pub outcome_making : Registers → Memory → Change → Next → Outcome
outcome_making r m change next = record {
  writes = writes_of r change;
  memory = memory_after r change m;
  spills = spills_of r change;
  next = next;
}

-- A value fits an application register.
abbrev pub FitsApplication : Ar → ℕ → Type 0
FitsApplication Pfs value = HasReservedZeros value
FitsApplication Ec value = value < 64
FitsApplication ar value = Unit {0}

-- A store has no fault, and a spill is of 8 bytes.
pub record MayStore (m : Memory) (address width : ℕ) (spills : Bool) : Type 0 where
  pub size : IsAccessSize width
  pub fault : access_fault m.bytes address width ≡ None
  pub whole : IsTrue spills → width ≡ 8

-- An `alloc` has no fault.
pub record MayAllocate (f : FrameShape) (sof sol sor : ℕ) : Type 0 where
  pub size : sof ≤ 96
  pub locals : sol ≤ sof
  pub rotating : 8 * sor ≤ sof
  pub fault : alloc_fault f (with_sizes f sof sol sor) ≡ None

-- The change has no fault, and what goes into PFS and EC fits there.
abbrev pub MayMake : Registers → Memory → Change → Type 0
MayMake r m (Application ar value) = FitsApplication ar value
MayMake r m (Stored r3 size spills update cell) = MayStore m (held r r3).value size spills
MayMake r m (Exchanged r1 r3 size old value) = MayStore m (held r r3).value size false
MayMake r m (Allocated r1 sof sol sor) = MayAllocate r.frame sof sol sor
MayMake r m Returned = return_fault r.frame.base (marked_frame r.frame.base r.pfs) ≡ None
MayMake r m change = Unit {0}
