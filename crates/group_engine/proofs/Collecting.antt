-- What a change of registers writes, one part after another.
use Rattle.std.proofs.Common.{ℕ, zero, suc, ◌≡◌, ◌+◌, ◌-◌, ◌<◌, ◌≤◌, Bool, true, false, [], ◌∷◌, refl, sym, arith}
use Rattle.std.proofs.lemmas.Bool.Decides.{nat_tests}
use Rattle.std.specs.Prelude.{◌≢◌}
use Rattle.ia_meaning.specs.declared.state.Cell.{Cell}
use Rattle.ia_meaning.specs.declared.state.FrameShape.{FrameShape}
use Rattle.ia_meaning.specs.State.{Registers, Memory}
use Rattle.ia_meaning.specs.declared.write.Write.TheVariants.{SetStatic, SetPredicate}
use Rattle.ia_meaning.specs.Names.{spot, look, predicate_index, predicate_spot, set_predicate}
use Rattle.ia_meaning.specs.Arithmetic.{bit}
use Rattle.ia_meaning.specs.Moves.{is_masked, masked_writes}
use Rattle.slot_effects.specs.declared.change.Change.{Change}
use Rattle.slot_effects.specs.declared.change.Change.TheVariants.{Nothing, General, Predicates, PredicateWord, Branch, Application, Loaded, Entered, Hit, Stored, Exchanged, Invalidated, AllInvalidated, Allocated, Turned, Called, Returned, Cleared}
use Rattle.slot_effects.specs.Changes.{set_at, writes_of, memory_after, spills_of}
use Rattle.group_engine.specs.declared.branch_inputs.BranchInputs.{BranchInputs}
use Rattle.group_engine.specs.Kept.{Kept, keeping}
use Rattle.group_engine.specs.Views.{seen_by}
use Rattle.ia_meaning.proofs.Spots.{spot_static}
use Rattle.group_engine.proofs.Keeping.{kept_on}
use Rattle.group_engine.proofs.Views.{look_seen}

-- A static register is written at its own number, but r0 is not.
pub static_written : (f : FrameShape) (n : ℕ) (cell : Cell) → 0 < n → n < 32 → set_at (spot f n) cell [] ≡ SetStatic n cell ∷ []
static_written f zero cell l h = absurd (omega (arith, l))
static_written f (suc n) cell l h = rw (spot_static f (suc n) h) refl

pub r0_unwritten : (f : FrameShape) (n : ℕ) (cell : Cell) → n ≡ 0 → set_at (spot f n) cell [] ≡ []
r0_unwritten f n cell e = rw (e, spot_static f 0 (omega arith)) refl

-- No predicate but p0 stands at place 0.
pub place_some : (f : FrameShape) (p : ℕ) → p ≢ 0 → 1 ≤ predicate_index f p
unfolding predicate_index
place_some f p h = grind (arith, nat_tests)

-- A predicate is written at its place, but p0 is not.
pub predicate_written : (f : FrameShape) (p : ℕ) (b : Bool) → p ≢ 0
    → set_predicate (predicate_spot f p) b [] ≡ SetPredicate (predicate_index f p) b ∷ []
unfolding predicate_spot
predicate_written f zero b h = absurd (h refl)
predicate_written f (suc p) b h = refl

pub p0_unwritten : (f : FrameShape) (p : ℕ) (b : Bool) → p ≡ 0 → set_predicate (predicate_spot f p) b [] ≡ []
unfolding predicate_spot
p0_unwritten f p b e = rw e refl

-- The number of the places from the n-th on.
left_from : (n : ℕ) → n < 64 → 64 - n ≡ suc (64 - (n + 1))
left_from n h = omega arith

-- One predicate more, which the mask has, is kept with its write.
pub place_kept : (n mask x : ℕ) (k : Kept) → n < 64 → is_masked mask n ≡ true
    → keeping (masked_writes (64 - n) n mask x) k ≡ keeping (masked_writes (64 - (n + 1)) (n + 1) mask x)
    (keeping (SetPredicate n (bit x n) ∷ []) k)
place_kept n mask x k h e =
    rw (left_from n h, e, kept_on (SetPredicate n (bit x n) ∷ []) (masked_writes (64 - (n + 1)) (n + 1) mask x) k) (grind arith)

-- One predicate more, which the mask doesn't have, is kept as it was.
pub place_left : (n mask x : ℕ) (k : Kept) → n < 64 → is_masked mask n ≡ false
    → keeping (masked_writes (64 - n) n mask x) k ≡ keeping (masked_writes (64 - (n + 1)) (n + 1) mask x) k
place_left n mask x k h e = rw (left_from n h, e) (grind arith)

-- What a slot sees of general registers is what stands there.
pub seen_look : (r : Registers) (s : BranchInputs) (n : ℕ) → look (seen_by r s) n ≡ look r n
seen_look r s n = sym (look_seen r s n)

-- What a slot sees of general registers is the same whatever previous function state it sees.
pub look_with_pfs : (r : Registers) (pfs n : ℕ) → look (record r { pfs = pfs }) n ≡ look r n
look_with_pfs r pfs n = seen_look r (record { predicates = r.predicates; branches = r.branches; pfs = pfs }) n

-- A slot writes by what it sees of the general registers, of the frame and the counts, and of the previous function state.
pub writes_seen : (r : Registers) (s : BranchInputs) (c : Change) → writes_of (seen_by r s) c ≡ writes_of (record r { pfs = s.pfs }) c
writes_seen r s Nothing = refl
writes_seen r s (General r1 cell) = refl
writes_seen r s (Predicates p1 first p2 second) = refl
writes_seen r s (PredicateWord mask word) = refl
writes_seen r s (Branch b1 value) = refl
writes_seen r s (Application ar value) = refl
writes_seen r s (Loaded r1 r3 invalidates update cell) = simp (seen_look, look_with_pfs)
writes_seen r s (Entered r1 r3 size update cell) = simp (seen_look, look_with_pfs)
writes_seen r s (Hit r1 r3 invalidates update) = simp (seen_look, look_with_pfs)
writes_seen r s (Stored r3 size spills update cell) = simp (seen_look, look_with_pfs)
writes_seen r s (Exchanged r1 r3 size old value) = refl
writes_seen r s (Invalidated r1) = refl
writes_seen r s AllInvalidated = refl
writes_seen r s (Allocated r1 sof sol sor) = refl
writes_seen r s (Turned kind qp) = refl
writes_seen r s (Called b1 address) = refl
writes_seen r s Returned = refl
writes_seen r s (Cleared pred_only) = refl

-- What a slot does to memory is a matter of the general registers and the frame alone.
pub memory_seen : (r : Registers) (s : BranchInputs) (c : Change) (m : Memory) → memory_after (seen_by r s) c m ≡ memory_after r c m
memory_seen r s Nothing m = refl
memory_seen r s (General r1 cell) m = refl
memory_seen r s (Predicates p1 first p2 second) m = refl
memory_seen r s (PredicateWord mask word) m = refl
memory_seen r s (Branch b1 value) m = refl
memory_seen r s (Application ar value) m = refl
memory_seen r s (Loaded r1 r3 invalidates update cell) m = refl
memory_seen r s (Entered r1 r3 size update cell) m = simp seen_look
memory_seen r s (Hit r1 r3 invalidates update) m = refl
memory_seen r s (Stored r3 size spills update cell) m = simp seen_look
memory_seen r s (Exchanged r1 r3 size old value) m = simp seen_look
memory_seen r s (Invalidated r1) m = refl
memory_seen r s AllInvalidated m = refl
memory_seen r s (Allocated r1 sof sol sor) m = refl
memory_seen r s (Turned kind qp) m = refl
memory_seen r s (Called b1 address) m = refl
memory_seen r s Returned m = refl
memory_seen r s (Cleared pred_only) m = refl

-- What a slot spills is a matter of the general registers and the frame alone.
pub spills_seen : (r : Registers) (s : BranchInputs) (c : Change) → spills_of (seen_by r s) c ≡ spills_of r c
spills_seen r s (Stored r3 size spills update cell) = simp seen_look
spills_seen r s c = refl
