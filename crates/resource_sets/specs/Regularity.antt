-- What kinds of accesses there are (volume 3, chapter 5, resource and dependency semantics).
use Rattle.std.specs.Prelude.{◌≡◌, ◌≢◌, ◌⊎◌, ◌↔◌, ℕ, ◌<◌, ◌≤◌, true, false, List, Contains, take, Some, None}
use Rattle.ia_insn.specs.declared.insn.Insn.{Insn}
use Rattle.ia_program.specs.Listed.{IsListed}
use Rattle.ia_meaning.specs.declared.action.FetchSource.TheVariants.{Predicates}
use Rattle.ia_meaning.specs.declared.action.CallTarget.TheVariants.{Indirect}
use Rattle.ia_meaning.specs.declared.action.Action.{Action}
use Rattle.ia_meaning.specs.declared.action.Action.TheVariants as action
use Rattle.ia_meaning.specs.declared.state.FrameShape.{FrameShape}
use Rattle.ia_meaning.specs.State.{Registers, IsFrame}
use Rattle.ia_meaning.specs.Names.{is_rotating, holds}
use Rattle.ia_meaning.specs.Actions.{insn_action, is_branch, is_indirect, is_alloc}
use Rattle.resource_sets.specs.declared.access.Resource.{Resource}
use Rattle.resource_sets.specs.declared.access.Resource.TheVariants.{Gr, Pr, Br, Unat, Pfs, Lc, Ec, Cfm}
use Rattle.resource_sets.specs.declared.access.Kind.{Kind}
use Rattle.resource_sets.specs.declared.access.Kind.TheVariants.{Read, BranchRead, Write, AllocWrite, LoopWrite, OrWrite, AndWrite, Spill, Fill}
use Rattle.resource_sets.specs.declared.access.Access.{Access}
use Rattle.resource_sets.specs.declared.row.AccessRow.{AccessRow}
use Rattle.resource_sets.specs.declared.clashes.Rule.TheVariants.{Raw, Waw}
use Rattle.resource_sets.specs.Rows.{is_not_zero, listed}
use Rattle.resource_sets.specs.Accesses.{rows_by_name, is_framed, accesses}
use Rattle.resource_sets.specs.Clashes.{clash, may_write_guard}
use Rattle.resource_sets.specs.AccessLaws.{AgreesOn, Agree, Location, PredicateAt, location_of, naming_frame, HasRow, HasAccess}

-- An access by name.
abbrev pub HasNamedAccess : Insn → Access → Type 0
HasNamedAccess insn a = HasRow insn.qp a (rows_by_name insn.qp (insn_action insn))

-- A predicate that a test names.
abbrev pub IsTarget : Action → ℕ → Type 0
IsTarget (action.Test kind p1 p2 r2 r3 c) p = (p ≡ p1) ⊎ (p ≡ p2)
IsTarget f p = ⊥

-- A loop branch.
abbrev pub IsLoop : Action → Type 0
IsLoop (action.Loop kind disp) = Unit {0}
IsLoop f = ⊥

-- r0 and p0 are no resources, and a predicate by name is the qualifying one, the target of a test, or p63 of a loop branch.
abbrev pub IsName : ℕ → Action → Resource → Type 0
IsName qp f (Gr r) = 1 ≤ r
IsName qp f (Pr p) = (1 ≤ p) × ((p ≡ qp) ⊎ (IsTarget f p ⊎ (IsLoop f × (p ≡ 63))))
IsName qp f q = Unit {0}

abbrev pub IsPredicate : Resource → Type 0
IsPredicate (Pr p) = Unit {0}
IsPredicate q = ⊥

-- A counter of loops, or the frame.
abbrev pub IsCountOrFrame : Resource → Type 0
IsCountOrFrame Lc = Unit {0}
IsCountOrFrame Ec = Unit {0}
IsCountOrFrame Cfm = Unit {0}
IsCountOrFrame q = ⊥

-- What a branch goes by: the branch register that it jumps through, and of a return the previous function state too.
abbrev pub GoesBy : Action → Resource → Type 0
GoesBy (action.JumpIndirect b2) q = q ≡ Br b2
GoesBy (action.Call b1 (Indirect b2)) q = q ≡ Br b2
GoesBy (action.Return b2) q = (q ≡ Br b2) ⊎ (q ≡ Pfs)
GoesBy f q = ⊥

abbrev pub frame_read : Access
frame_read = record { resource = Cfm; kind = Read; guard = 0 }

-- What holds of an access by name.
pub record IsRegular (insn : Insn) (a : Access) : Type 0 where
  -- It is made under p0 or under the qualifying predicate.
  pub guard : (a.guard ≡ 0) ⊎ (a.guard ≡ insn.qp)
  pub name : IsName insn.qp (insn_action insn) a.resource
  -- A name of the frame comes with a read of the frame.
  pub framed : is_framed a.resource ≡ true → HasNamedAccess insn frame_read
  -- What a branch reads as other instructions do.
  pub branch_read : is_branch (insn_action insn) ≡ true → a.kind ≡ Read → IsCountOrFrame a.resource
  -- What a branch reads as branches do.
  pub branch_goes : is_branch (insn_action insn) ≡ true → a.kind ≡ BranchRead
      → (a.resource ≡ Pr insn.qp) ⊎ GoesBy (insn_action insn) a.resource
  -- What other instructions read as branches do, they read as others do too.
  pub reads_too : is_branch (insn_action insn) ≡ false → a.kind ≡ BranchRead → HasNamedAccess insn (record a { kind = Read })
  pub alloc_write : a.kind ≡ AllocWrite → (is_alloc (insn_action insn) ≡ true) × (a.resource ≡ Cfm)
  pub loop_write : a.kind ≡ LoopWrite → a.resource ≡ Pr 63
  pub or_write : a.kind ≡ OrWrite → IsPredicate a.resource
  pub and_write : a.kind ≡ AndWrite → IsPredicate a.resource
  pub spill : a.kind ≡ Spill → (is_alloc (insn_action insn) ≡ false) × (a.resource ≡ Unat)
  pub fill : a.kind ≡ Fill → a.resource ≡ Unat

abbrev pub AccessesAreRegular : Type 0
AccessesAreRegular = (insn : Insn) (a : Access) → HasNamedAccess insn a → IsRegular insn a

-- A read of the qualifying predicate, under p0.
abbrev pub qp_read : ℕ → Kind → Access
qp_read qp kind = record { resource = Pr qp; kind = kind; guard = 0 }

-- The qualifying predicate is an access under p0: of a branch a BranchRead, of any other instruction a Read.
pub record ReadsGuard (insn : Insn) : Type 0 where
  pub plain : is_not_zero insn.qp ≡ true → is_branch (insn_action insn) ≡ false → HasNamedAccess insn (qp_read insn.qp Read)
  pub branch : is_not_zero insn.qp ≡ true → is_branch (insn_action insn) ≡ true
      → HasNamedAccess insn (qp_read insn.qp BranchRead)
  pub framed : is_rotating insn.qp ≡ true → HasNamedAccess insn frame_read

abbrev pub GuardsAreRead : Type 0
GuardsAreRead = (insn : Insn) → ReadsGuard insn

-- An access by place: `mov r1=pr` reads p1 to p63, `mov pr=` writes some of them, and an indirect branch reads p1 to
-- p15 as branches do.
pub record IsAccessByPlace (insn : Insn) (a : Access) : Type 0 where
  pub name : ℕ
  pub some : 1 ≤ name
  pub below : name < 64
  pub resource : a.resource ≡ Pr name
  pub kind : (a.kind ≡ Read) ⊎ ((a.kind ≡ BranchRead) ⊎ (a.kind ≡ Write))
  pub branch_read : a.kind ≡ BranchRead → (is_indirect (insn_action insn) ≡ true) × (name < 16)
  pub guard : a.guard ≡ insn.qp

abbrev pub NamedAccessesAreAccesses : Type 0
NamedAccessesAreAccesses = (insn : Insn) (a : Access) → HasNamedAccess insn a → HasAccess insn a

abbrev pub AccessesAreNamedOrPlaced : Type 0
AccessesAreNamedOrPlaced = (insn : Insn) (a : Access) → HasAccess insn a → HasNamedAccess insn a ⊎ IsAccessByPlace insn a

-- Each access is made under p0 or under the qualifying predicate.
abbrev pub AccessesAreGuarded : Type 0
AccessesAreGuarded = (insn : Insn) (a : Access) → HasAccess insn a → (a.guard ≡ 0) ⊎ (a.guard ≡ insn.qp)

-- Only an `alloc` writes as an `alloc` does, and only the frame.
abbrev pub AllocWritesAreOfAlloc : Type 0
AllocWritesAreOfAlloc = (insn : Insn) (a : Access) → HasAccess insn a → a.kind ≡ AllocWrite
    → (is_alloc (insn_action insn) ≡ true) × (a.resource ≡ Cfm)

-- `mov r1=pr` reads each predicate
abbrev pub PredicatesAreRead : Type 0
PredicatesAreRead = (insn : Insn) (r1 p : ℕ) → insn_action insn ≡ action.Fetch r1 Predicates → 1 ≤ p → p < 64
    → HasAccess insn (record { resource = Pr p; kind = Read; guard = insn.qp })

-- An indirect branch reads p1 to p15 as branches do.
abbrev pub StaticsAreRead : Type 0
StaticsAreRead = (insn : Insn) (p : ℕ) → is_indirect (insn_action insn) ≡ true → 1 ≤ p → p < 16
    → HasAccess insn (record { resource = Pr p; kind = BranchRead; guard = insn.qp })

-- The list of the accesses of rows holds those of the rows that are there.
abbrev pub ListedAreRows : Type 0
ListedAreRows = (qp : ℕ) (a : Access) (rows : List AccessRow) → Contains (listed qp rows) a ↔ HasRow qp a rows

abbrev pub AccessesAreListed : Type 0
AccessesAreListed = (insn : Insn) (a : Access) → Contains (accesses insn) a ↔ HasAccess insn a

-- A later slot of the group would see what such an access writes.
abbrev pub IsChange : Kind → Type 0
IsChange Write = Unit {0}
IsChange LoopWrite = Unit {0}
IsChange OrWrite = Unit {0}
IsChange AndWrite = Unit {0}
IsChange Spill = Unit {0}
IsChange kind = ⊥

-- What writes a predicate, or the frame by which the predicate is named, may write it as a guard.
abbrev pub GuardsAreWritten : Type 0
GuardsAreWritten = (insn : Insn) (a : Access) (g : ℕ) → HasAccess insn a → IsChange a.kind
    → (a.resource ≡ Pr g) ⊎ ((a.resource ≡ Cfm) × (is_rotating g ≡ true)) → may_write_guard g (accesses insn) ≡ true

-- p1 to p63.
abbrev pub IsInRange : Resource → Type 0
IsInRange (Pr p) = (1 ≤ p) × (p < 64)
IsInRange q = Unit {0}

-- The predicates of a listed instruction are in their range.
abbrev pub AccessesAreInRange : Type 0
AccessesAreInRange = (insn : Insn) (a : Access) → IsListed insn → HasAccess insn a → IsInRange a.resource

-- The qualifying predicate of a listed instruction is p0 or in the range too.
abbrev pub GuardsAreInRange : Type 0
GuardsAreInRange = (insn : Insn) → IsListed insn → (insn.qp ≡ 0) ⊎ IsInRange (Pr insn.qp)

-- No two resources stand at one location.
abbrev pub LocationIsOneResource : Type 0
LocationIsOneResource = (f : FrameShape) (q r : Resource) (t : Location) → IsFrame f → IsInRange q → IsInRange r
    → location_of f q ≡ Some t → location_of f r ≡ Some t → q ≡ r

-- What stands at a predicate's place is a predicate.
abbrev pub IndexesAreOfPredicates : Type 0
IndexesAreOfPredicates = (f : FrameShape) (q : Resource) (n : ℕ) → location_of f q ≡ Some (PredicateAt n) → (p : ℕ) × (q ≡ Pr p)

-- An access of the second kind may share a group with an earlier one of the first, of one resource.
abbrev pub IsExcepted : Kind → Kind → Type 0
IsExcepted first BranchRead = Unit {0}
IsExcepted OrWrite OrWrite = Unit {0}
IsExcepted AndWrite AndWrite = Unit {0}
IsExcepted Spill Spill = Unit {0}
IsExcepted Spill Fill = Unit {0}
IsExcepted first second = ⊥

-- Each access that reads or writes clashes with an earlier one that writes, of one resource, but for these.
abbrev pub AccessesClash : Type 0
AccessesClash = (a b : Access) → a.resource ≡ b.resource → IsChange a.kind → (clash a b ≢ None) ⊎ IsExcepted a.kind b.kind

-- Such a clash is one of a read after a write, or of two writes.
abbrev pub ChangesClash : Type 0
ChangesClash = (a b : Access) → a.resource ≡ b.resource → IsChange a.kind
    → (clash a b ≡ Some Raw) ⊎ ((clash a b ≡ Some Waw) ⊎ IsExcepted a.kind b.kind)

-- An instruction other than `alloc` names its targets by the frame that it finds.
abbrev pub NamedAsFound : Type 0
NamedAsFound = (f : Action) (shape : FrameShape) → is_alloc f ≡ false → naming_frame f shape ≡ shape

-- Registers agree on what an instruction accesses where they agree on each access by name whose guard is 1, on the
-- predicates by place where it reads each of them, and on the first sixteen of these where it is an indirect branch,
-- which reads p1 to p15 of them.
abbrev pub AgreeByAccesses : Type 0
AgreeByAccesses = (insn : Insn) (v w : Registers) (x y : ℕ)
    → ((a : Access) → HasNamedAccess insn a → holds v a.guard ≡ true → AgreesOn v w x y a.kind a.resource)
    → (is_branch (insn_action insn) ≡ false → holds v insn.qp ≡ true
    → ((p : ℕ) → 1 ≤ p → p < 64 → HasAccess insn (record { resource = Pr p; kind = Read; guard = insn.qp }))
    → v.predicates ≡ w.predicates)
    → (is_indirect (insn_action insn) ≡ true → holds v insn.qp ≡ true
    → ((p : ℕ) → 1 ≤ p → p < 16 → HasAccess insn (record { resource = Pr p; kind = BranchRead; guard = insn.qp }))
    → take 16 v.predicates ≡ take 16 w.predicates)
    → Agree insn v w x y
