-- What an instruction reads and writes (volume 3, chapter 5, resource and dependency semantics): of each action
-- rows that are there or not.
use Rattle.std.specs.Prelude.{ℕ, zero, suc, Bool, true, false, not, ◌||◌, ◌&&◌, List, [], ◌∷◌, ◌++◌}
use Rattle.std.specs.List.{list_any}
use Rattle.ia_insn.specs.declared.choices.Unit.{Unit as ExecutionUnit}
use Rattle.ia_insn.specs.declared.choices.Unit.TheVariants.{B}
use Rattle.ia_insn.specs.declared.choices.CmpKind.{CmpKind}
use Rattle.ia_insn.specs.declared.choices.CmpKind.TheVariants as cmp
use Rattle.ia_insn.specs.declared.choices.LoadKind.{LoadKind}
use Rattle.ia_insn.specs.declared.choices.LoadKind.TheVariants as load
use Rattle.ia_insn.specs.declared.choices.BranchKind.{BranchKind}
use Rattle.ia_insn.specs.declared.choices.BranchKind.TheVariants as branch
use Rattle.ia_insn.specs.declared.choices.Update.{Update}
use Rattle.ia_insn.specs.declared.choices.Update.TheVariants as update
use Rattle.ia_insn.specs.declared.registers.Ar.{Ar}
use Rattle.ia_insn.specs.declared.registers.Ar.TheVariants as ar
use Rattle.ia_insn.specs.declared.insn.Insn.{Insn}
use Rattle.ia_meaning.specs.declared.action.FetchSource.{FetchSource}
use Rattle.ia_meaning.specs.declared.action.FetchSource.TheVariants as source
use Rattle.ia_meaning.specs.declared.action.CallTarget.{CallTarget}
use Rattle.ia_meaning.specs.declared.action.CallTarget.TheVariants as callee
use Rattle.ia_meaning.specs.declared.action.Action.{Action}
use Rattle.ia_meaning.specs.declared.action.Action.TheVariants as action
use Rattle.ia_meaning.specs.Names.{is_stacked, is_rotating}
use Rattle.ia_meaning.specs.Actions.{insn_action}
use Rattle.ia_meaning.specs.Moves.{is_masked}
use Rattle.ia_meaning.specs.Loads.{update_register, takes_nat}
use Rattle.resource_sets.specs.declared.access.Resource.{Resource}
use Rattle.resource_sets.specs.declared.access.Resource.TheVariants.{Gr, Pr, Br, Unat, Pfs, Lc, Ec, Cfm}
use Rattle.resource_sets.specs.declared.access.Kind.{Kind}
use Rattle.resource_sets.specs.declared.access.Kind.TheVariants.{Read, BranchRead, Write, AllocWrite, LoopWrite, OrWrite, AndWrite, Spill, Fill}
use Rattle.resource_sets.specs.declared.access.Access.{Access}
use Rattle.resource_sets.specs.declared.row.AccessRow.{AccessRow}
use Rattle.resource_sets.specs.Rows.{is_not_zero, gr, pr, always, listed}

-- The two targets of a test.
abbrev pub test_rows : CmpKind → ℕ → ℕ → List AccessRow
test_rows cmp.Normal p q = pr true p Write ∷ pr true q Write ∷ []
test_rows cmp.Unc p q = pr false p Write ∷ pr false q Write ∷ []
test_rows cmp.Or p q = pr true p OrWrite ∷ pr true q OrWrite ∷ []
test_rows cmp.And p q = pr true p AndWrite ∷ pr true q AndWrite ∷ []
test_rows cmp.OrAndcm p q = pr true p OrWrite ∷ pr true q AndWrite ∷ []

abbrev pub is_updated : Update → Bool
is_updated update.None = false
is_updated u = true

-- The base of a load or a store, which may be updated.
abbrev pub base_row : Update → ℕ → AccessRow
base_row u r = record { there = is_updated u && is_not_zero r; guarded = true; resource = Gr r; kind = Write }

-- The register that an instruction names and neither reads nor writes, or r0.
abbrev pub other_name : Action → ℕ
other_name (action.CheckAlat clear r1 disp) = r1
other_name (action.Invalidate r1) = r1
other_name action = 0

abbrev pub application : Ar → Resource
application ar.Unat = Unat
application ar.Pfs = Pfs
application ar.Lc = Lc
application ar.Ec = Ec

-- The accesses to `left` predicates from the n-th on, each there where a mask has it.
abbrev pub place_rows : (left n mask : ℕ) → Kind → List AccessRow
place_rows zero n mask kind = []
place_rows (suc left) n mask kind =
    record { there = is_masked mask n; guarded = true; resource = Pr n; kind = kind } ∷ place_rows left (suc n) mask kind

-- p1 to p63, where a mask has them.
unfoldable pub mask_rows : ℕ → Kind → List AccessRow
mask_rows mask kind = place_rows 63 1 mask kind

abbrev pub source_rows : FetchSource → List AccessRow
source_rows (source.Branch b) = always true (Br b) Read ∷ []
source_rows (source.Application a) = always true (application a) Read ∷ []
source_rows source = []

abbrev pub is_fill : LoadKind → Bool
is_fill load.Fill = true
is_fill kind = false

-- What a fill or a spill accesses besides.
abbrev pub unat_row : Bool → Kind → AccessRow
unat_row there kind = record { there = there; guarded = true; resource = Unat; kind = kind }

-- The branch register that an indirect call reads.
abbrev pub callee_row : CallTarget → AccessRow
callee_row (callee.Direct disp) = record { there = false; guarded = false; resource = Cfm; kind = Read }
callee_row (callee.Indirect b2) = always true (Br b2) BranchRead

abbrev pub call_rows : ℕ → CallTarget → List AccessRow
call_rows b1 callee =
    always true Cfm Read ∷ always true Cfm Write ∷ always true Pfs Write ∷ always true Ec Read
    ∷ always true (Br b1) Write ∷ callee_row callee ∷ []

-- A loop that counts by EC and rotates.
abbrev pub rotating_rows : List AccessRow
rotating_rows =
    always false Ec Read ∷ always false Ec Write ∷ always false Cfm Read ∷ always false Cfm Write
    ∷ always false (Pr 63) LoopWrite ∷ []

abbrev pub counting_rows : List AccessRow
counting_rows = always false Lc Read ∷ always false Lc Write ∷ []

abbrev pub loop_rows : BranchKind → List AccessRow
loop_rows branch.Cloop = counting_rows
loop_rows branch.Ctop = counting_rows ++ rotating_rows
loop_rows branch.Cexit = counting_rows ++ rotating_rows
loop_rows branch.Wtop = rotating_rows
loop_rows branch.Wexit = rotating_rows
loop_rows branch.Cond = []

-- The rows of an instruction, but for those of its qualifying predicate, of the frame of its names, and of predicates by
-- place.
abbrev pub own_rows : Action → List AccessRow
own_rows (action.Compute r1 r2 r3 f) = gr r2 Read ∷ gr r3 Read ∷ gr r1 Write ∷ []
own_rows (action.Fetch r1 source) = gr r1 Write ∷ source_rows source
own_rows (action.Test kind p1 p2 r2 r3 c) = gr r2 Read ∷ gr r3 Read ∷ test_rows kind p1 p2
own_rows (action.ToPredicates r2 mask w) = gr r2 Read ∷ []
own_rows (action.ToBranch b1 r2) = gr r2 Read ∷ always true (Br b1) Write ∷ []
own_rows (action.ToApplication a r2 w) = gr r2 Read ∷ always true (application a) Write ∷ []
own_rows (action.FromMemory size kind r1 r3 u) =
    gr r3 Read ∷ gr (update_register u) Read ∷ gr r1 Write ∷ base_row u r3 ∷ unat_row (is_fill kind) Fill ∷ []
own_rows (action.ToMemory size kind r3 r2 u) =
    gr r3 Read ∷ gr r2 Read ∷ base_row u r3 ∷ unat_row (takes_nat kind) Spill ∷ []
own_rows (action.Exchange size r1 r3 r2 inc) = gr r3 Read ∷ gr r2 Read ∷ gr r1 Write ∷ []
own_rows (action.CheckNat r2 disp) = gr r2 Read ∷ []
own_rows (action.CheckAlat clear r1 disp) = []
own_rows action.InvalidateAll = []
own_rows (action.Invalidate r1) = []
own_rows (action.Allocate r1 sof sol sor) =
    gr r1 Write ∷ always true Pfs Read ∷ always true Cfm Read ∷ always true Cfm AllocWrite ∷ []
own_rows (action.Jump disp) = []
own_rows (action.JumpIndirect b2) = always true (Br b2) BranchRead ∷ []
own_rows (action.Loop kind disp) = loop_rows kind
own_rows (action.Call b1 callee) = call_rows b1 callee
own_rows (action.Return b2) =
    always true (Br b2) BranchRead ∷ always true Pfs BranchRead ∷ always true Cfm Write ∷ always true Ec Write ∷ []
own_rows (action.ClearBases pred_only) = always true Cfm Write ∷ []
own_rows (action.Stop unit imm) = []
own_rows (action.Idle unit) = []

-- The rows of predicates by place. A move from them reads all: the mask has all bits. An indirect branch reads p1 to
-- p15, since an entry declares which of them are not both 1.
abbrev pub placed_rows : Action → List AccessRow
placed_rows (action.Fetch r1 source.Predicates) = mask_rows 0x1ffff Read
placed_rows (action.ToPredicates r2 mask w) = mask_rows mask Write
placed_rows (action.JumpIndirect b2) = mask_rows 0xfffe BranchRead
placed_rows (action.Call b1 (callee.Indirect b2)) = mask_rows 0xfffe BranchRead
placed_rows (action.Return b2) = mask_rows 0xfffe BranchRead
placed_rows action = []

-- How the qualifying predicate is read.
abbrev pub reads_plainly : Action → Bool
reads_plainly (action.Jump disp) = false
reads_plainly (action.JumpIndirect b2) = false
reads_plainly (action.Loop kind disp) = false
reads_plainly (action.Call b1 callee) = false
reads_plainly (action.Return b2) = false
reads_plainly action = true

abbrev pub is_branch_unit : ExecutionUnit → Bool
is_branch_unit B = true
is_branch_unit unit = false

-- A `break`, `nop` or `hint` of unit B reads it in both ways.
abbrev pub reads_as_branch : Action → Bool
reads_as_branch (action.Stop unit imm) = is_branch_unit unit
reads_as_branch (action.Idle unit) = is_branch_unit unit
reads_as_branch action = not (reads_plainly action)

abbrev pub qp_rows : ℕ → Action → List AccessRow
qp_rows qp f =
    record { there = is_not_zero qp && reads_plainly f; guarded = false; resource = Pr qp; kind = Read }
    ∷ record { there = is_not_zero qp && reads_as_branch f; guarded = false; resource = Pr qp; kind = BranchRead } ∷ []

-- A name of the frame.
abbrev pub is_framed : Resource → Bool
is_framed (Gr r) = is_stacked r
is_framed (Pr p) = is_rotating p
is_framed resource = false

abbrev pub any_framed : List AccessRow → Bool
any_framed rows = list_any (λ row. is_framed row.resource) rows

-- What a name of the frame depends on.
abbrev pub frame_row : ℕ → Action → AccessRow
frame_row qp f = record {
  there = is_rotating qp || (is_stacked (other_name f) || any_framed (own_rows f));
  guarded = false;
  resource = Cfm;
  kind = Read;
}

-- The rows by name.
abbrev pub rows_by_name : ℕ → Action → List AccessRow
rows_by_name qp f = frame_row qp f ∷ (qp_rows qp f ++ own_rows f)

-- All rows of an instruction: those by name, and those of predicates by place.
unfoldable pub rows : ℕ → Action → List AccessRow
rows qp f = rows_by_name qp f ++ placed_rows f

-- The accesses of an instruction by its qualifying predicate and its action.
abbrev pub accesses_of : ℕ → Action → List Access
accesses_of qp f = listed qp (rows qp f)

-- The accesses of an instruction.
abbrev pub accesses : Insn → List Access
accesses insn = accesses_of insn.qp (insn_action insn)
