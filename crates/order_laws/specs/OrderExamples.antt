-- Groups in two orders, what each exception is for, and programs that aren't order independent: examples over the definitions
-- alone (volume 1, chapter 3, instruction groups and instruction dependencies).
use Rattle.std.specs.Prelude.{◌≡◌, ℕ, pos, Bool, true, false, List, [], ◌∷◌, ◌++◌, get_or, replicate, Some}
use Rattle.ia_insn.specs.declared.insn.Insn.{Insn}
use Rattle.ia_insn.specs.declared.insn.Op.{Op}
use Rattle.ia_insn.specs.declared.insn.Op.TheVariants as op
use Rattle.ia_insn.specs.declared.choices.Unit.TheVariants.{M, I}
use Rattle.ia_insn.specs.declared.choices.Rel.TheVariants.{Eq}
use Rattle.ia_insn.specs.declared.choices.CmpKind.TheVariants.{Normal, And, Or}
use Rattle.ia_insn.specs.declared.choices.BranchKind.TheVariants.{Cond}
use Rattle.ia_insn.specs.declared.choices.LoadKind.TheVariants as load
use Rattle.ia_insn.specs.declared.choices.StoreKind.TheVariants as store
use Rattle.ia_insn.specs.declared.choices.Update.TheVariants as update
use Rattle.ia_insn.specs.declared.registers.Ar.{Ar}
use Rattle.ia_insn.specs.declared.registers.Ar.TheVariants.{Unat, Pfs, Lc, Ec}
use Rattle.ia_program.specs.declared.ending.FaultKind.TheVariants.{OutOfFrame, BadLanding, BadRelation}
use Rattle.ia_program.specs.declared.ending.End.TheVariants as end
use Rattle.ia_program.specs.declared.ending.How.TheVariants.{Taken}
use Rattle.ia_program.specs.declared.bundle.Slots.TheVariants.{Three}
use Rattle.ia_program.specs.Bundles.{Bundle}
use Rattle.ia_program.specs.Programs.{Program}
use Rattle.ia_meaning.specs.declared.next.Next.TheVariants as next
use Rattle.ia_meaning.specs.declared.state.Cell.{Cell}
use Rattle.ia_meaning.specs.State.{zero_cell, zero_registers, Registers, State, zero_state}
use Rattle.ia_meaning.specs.declared.write.Write.TheVariants.{SetStatic, SetEc, SetFrame}
use Rattle.ia_meaning.specs.declared.write.FrameCause.TheVariants.{Resized}
use Rattle.ia_meaning.specs.Frames.{marked_frame}
use Rattle.ia_meaning.specs.Outcomes.{Outcome}
use Rattle.ia_meaning.specs.Steps.{seq_group, seq_run}
use Rattle.ia_meaning.specs.ParallelGroups.{outcome_from, par_group, par_run}
use Rattle.ia_meaning.specs.OrderIndependence.{IsOrderIndependent}

abbrev pub plain : Op → Insn
plain o = record { qp = 0; op = o }

abbrev pub idle : Insn
idle = plain (op.Nop I 0)

abbrev pub idle_bundle : Bundle
idle_bundle = record { template = 1; slots = Three (plain (op.Nop M 0)) idle idle }

-- One bundle of this template, behind which a stop stands, then an idle one; eight bytes of data, all 0.
abbrev pub of_slots : ℕ → Insn → Insn → Insn → Program
of_slots template a b c = record {
  bundles = record { template = template; slots = Three a b c } ∷ idle_bundle ∷ [];
  entries = [];
  bytes = replicate 8 0;
  relations = [];
}

abbrev pub mii : Insn → Insn → Insn → Program
mii a b c = of_slots 1 a b c

abbrev pub mmi : Insn → Insn → Insn → Program
mmi a b c = of_slots 9 a b c

abbrev pub mib : Insn → Insn → Insn → Program
mib a b c = of_slots 17 a b c

abbrev pub cell : ℕ → Cell
cell n = record { value = n; nat = false }

abbrev pub adds : ℕ → ℕ → Insn
adds r1 n = plain (op.AddImm14 false r1 (pos n) 0)

abbrev pub compare : Op
compare = op.Cmp false Eq Normal 6 7 0 0

-- The zero state, but r1 is as given, r2 is 1, r3 is the address of the data, and b0 that of bundle 0.
abbrev pub start : Program → Cell → State
start p r1 = record (zero_state p) {
  registers = record zero_registers {
    statics = cell 0 ∷ r1 ∷ cell 1 ∷ cell 0x100000 ∷ replicate 28 zero_cell;
    branches = 0x10000 ∷ replicate 7 0;
  };
}

-- The registers after the first group, all at once under a code.
abbrev pub registers_of : Program → List ℕ → State → Registers
registers_of p code s = (par_group p code s).state.registers

-- A static register of them.
abbrev pub static_of : ℕ → Registers → Cell
static_of n r = get_or r.statics n zero_cell

-- What a slot does that sees no more than the group's start, registers and memory alike.
abbrev pub outcome_at_start : Program → ℕ → Insn → State → Outcome
outcome_at_start p slot insn s = outcome_from p (record { bundle = 0; slot = slot }) insn s.registers s.memory s.registers.unat

-- r14 becomes 1, then 2: a violation.
abbrev pub two_writes : Program
two_writes = mii (adds 14 1) (adds 14 2) idle

-- The empty code leaves 2, and the code [1] leaves 1.
abbrev pub TwoOrders : Type 0
TwoOrders =
    (static_of 14 (registers_of two_writes [] (zero_state two_writes)) ≡ cell 2)
    × (static_of 14 (registers_of two_writes (1 ∷ []) (zero_state two_writes)) ≡ cell 1)

-- r1 is moved to a register, then r2: violations. The registers after it under a code, where r1 is 7 and r2 is 1.
abbrev pub registers_after_moves : Program → List ℕ → Registers
registers_after_moves p code = registers_of p code (start p (cell 7))

abbrev pub two_branch_moves : Program
two_branch_moves = mii (plain (op.Nop M 0)) (plain (op.MovToBr 1 1 false false 0 (pos 0))) (plain (op.MovToBr 1 2 false false 0 (pos 0)))

abbrev pub two_moves : Ar → Program
two_moves ar = mii (plain (op.Nop M 0)) (plain (op.MovToAr ar 1)) (plain (op.MovToAr ar 2))

abbrev pub two_unat_moves : Program
two_unat_moves = mmi (plain (op.MovToAr Unat 1)) (plain (op.MovToAr Unat 2)) idle

-- The writes of these registers too may come in either order.
abbrev pub TwoMoves : Type 0
TwoMoves =
    ((registers_after_moves two_branch_moves []).branches ≡ 0x10000 ∷ 1 ∷ replicate 6 0)
    × ((registers_after_moves two_branch_moves (1 ∷ [])).branches ≡ 0x10000 ∷ 7 ∷ replicate 6 0)
    × ((registers_after_moves (two_moves Pfs) []).pfs ≡ 1) × ((registers_after_moves (two_moves Pfs) (1 ∷ [])).pfs ≡ 7)
    × ((registers_after_moves (two_moves Lc) []).lc ≡ 1) × ((registers_after_moves (two_moves Lc) (1 ∷ [])).lc ≡ 7)
    × ((registers_after_moves (two_moves Ec) []).ec ≡ 1) × ((registers_after_moves (two_moves Ec) (1 ∷ [])).ec ≡ 7)
    × ((registers_after_moves two_unat_moves []).unat ≡ 1) × ((registers_after_moves two_unat_moves (1 ∷ [])).unat ≡ 7)

-- An `alloc` of two registers, and r32 becomes 5.
abbrev pub first_alloc : Program
first_alloc = mii (plain (op.Alloc 33 2 0 0)) (adds 32 5) idle

-- An `alloc` of two registers, one of them local, r32 becomes 5, and a call: a violation.
abbrev pub first_alloc_and_call : Program
first_alloc_and_call = mib (plain (op.Alloc 33 2 1 0)) (adds 32 5) (plain (op.BrCall 0 0 false false (pos 1)))

-- In both orders the second slot writes the new frame. In the old frame there is no r32. The frame of the `alloc` comes first
-- in every order.
abbrev pub FirstAlloc : Type 0
FirstAlloc =
    ((registers_of first_alloc [] (zero_state first_alloc)).cells ≡ cell 5 ∷ cell 0 ∷ [])
    × ((registers_of first_alloc (1 ∷ []) (zero_state first_alloc)).cells ≡ cell 5 ∷ cell 0 ∷ [])
    × ((par_group first_alloc [] (zero_state first_alloc)).frames ≡ (0, 2) ∷ [])
    × ((outcome_at_start first_alloc 1 (adds 32 5) (zero_state first_alloc)).next ≡ next.Faults OutOfFrame)
    × ((par_group first_alloc_and_call [] (zero_state first_alloc_and_call)).frames ≡ (0, 2) ∷ (1, 2) ∷ [])
    × ((par_group first_alloc_and_call (5 ∷ []) (zero_state first_alloc_and_call)).frames ≡ (0, 2) ∷ (1, 2) ∷ [])

-- r14 becomes 1, and an `alloc` of r32 comes too late: no two accesses clash, and it isn't first in its group.
abbrev pub late_alloc : Program
late_alloc = mmi (adds 14 1) (plain (op.Alloc 32 1 0 0)) idle

abbrev pub with_pfs_1 : Program → State
with_pfs_1 p = record (zero_state p) { registers = record zero_registers { pfs = 1 } }

-- Where the write of r32 comes before that of the frame it is lost, so the rule that `alloc` is first is needed.
abbrev pub LateAlloc : Type 0
LateAlloc =
    ((seq_group late_alloc (with_pfs_1 late_alloc)).state.registers.cells ≡ cell 1 ∷ [])
    × ((registers_of late_alloc [] (with_pfs_1 late_alloc)).cells ≡ cell 1 ∷ [])
    × ((registers_of late_alloc (0 ∷ 1 ∷ []) (with_pfs_1 late_alloc)).cells ≡ zero_cell ∷ [])

abbrev pub under_p6 : Op → Insn
under_p6 o = record { qp = 6; op = o }

abbrev pub branch : Insn
branch = under_p6 (op.Br Cond 0 false false (pos 1))

-- p6 becomes 1, and a branch is under it.
abbrev pub tested_branch : Program
tested_branch = mib (plain compare) idle branch

-- p6 becomes 1, and an addition is under it: a violation.
abbrev pub tested_addition : Program
tested_addition = mii (plain compare) (under_p6 (op.AddImm14 false 14 (pos 5) 0)) idle

abbrev pub promised_jump : Insn
promised_jump = plain (op.BrInd 0 0 false false)

-- p6 and p7 become 1, and a branch goes to bundle 0, which declares that they aren't both 1.
abbrev pub promised_branch : Program
promised_branch = record (mib (plain (op.Cmp false Eq Or 6 7 0 0)) idle promised_jump) {
  relations = record { bundle = 0; p = 6; q = 7 } ∷ [];
}

-- The branch is taken; by the group's start it would fall through. The addition isn't made, while slot by slot it is. The
-- branch to bundle 0 ends the run; by the group's start, where p6 and p7 are 0, it would land.
abbrev pub BranchPredicate : Type 0
BranchPredicate =
    ((par_group tested_branch [] (zero_state tested_branch)).how ≡ Some Taken)
    × ((outcome_at_start tested_branch 2 branch (zero_state tested_branch)).next ≡ next.Falls)
    × (static_of 14 (registers_of tested_addition [] (zero_state tested_addition)) ≡ cell 0)
    × (static_of 14 (seq_group tested_addition (zero_state tested_addition)).state.registers ≡ cell 5)
    × ((par_group promised_branch [] (start promised_branch (cell 0))).end ≡ Some (end.Fault BadRelation (record { bundle = 0; slot = 2 })))
    × ((outcome_at_start promised_branch 2 promised_jump (start promised_branch (cell 0))).next ≡ next.Goes 0)

abbrev pub jump : Insn
jump = plain (op.BrInd 1 0 false false)

-- b1 becomes the address in r1, and a branch goes there.
abbrev pub moved_branch : Program
moved_branch = mib (plain (op.Nop M 0)) (plain (op.MovToBr 1 1 false false 0 (pos 0))) jump

-- A branch by b1, which becomes the address in r1 in its group, lands on bundle 0. By the group's start, where b1 is 0, it would
-- land nowhere.
abbrev pub BranchRegister : Type 0
BranchRegister =
    ((par_group moved_branch [] (start moved_branch (cell 0x10000))).how ≡ Some Taken)
    × ((outcome_at_start moved_branch 2 jump (start moved_branch (cell 0x10000))).next ≡ next.Faults BadLanding)

abbrev pub return : Insn
return = plain (op.BrRet 0 0 false false)

-- The previous function state becomes 1, a frame of one register, and a return goes back to it.
abbrev pub moved_return : Program
moved_return = mib (plain (op.Nop M 0)) (plain (op.MovToAr Pfs 2)) return

-- The frame has one register in both orders; by the group's start it would have none.
abbrev pub ReturnState : Type 0
ReturnState =
    ((registers_of moved_return [] (start moved_return (cell 0))).cells ≡ zero_cell ∷ [])
    × ((registers_of moved_return (2 ∷ 0 ∷ 0 ∷ []) (start moved_return (cell 0))).cells ≡ zero_cell ∷ [])
    × ((outcome_at_start moved_return 2 return (start moved_return (cell 0))).writes ≡ SetFrame Resized (marked_frame 0 0) ∷ SetEc 0 ∷ [])

-- p6 becomes 1 by an or-compare of r0 with itself, and again.
abbrev pub or_compares : Program
or_compares = mii (plain (op.Cmp false Eq Or 6 0 0 0)) (plain (op.Cmp false Eq Or 6 0 0 0)) idle

-- p6 becomes 1 by an or-compare, and 0 by an and-compare of r0 with r2, which is 1: a violation.
abbrev pub or_and : Program
or_and = mii (plain (op.Cmp false Eq Or 6 0 0 0)) (plain (op.Cmp false Eq And 6 0 0 2)) idle

abbrev pub p6_of : Registers → Bool
p6_of r = get_or r.predicates 6 false

-- Two or-compares leave 1 in both orders. An or-compare and an and-compare leave 0 in one and 1 in the other.
abbrev pub ParallelCompares : Type 0
ParallelCompares =
    (p6_of (registers_of or_compares [] (zero_state or_compares)) ≡ true)
    × (p6_of (registers_of or_compares (1 ∷ []) (zero_state or_compares)) ≡ true)
    × (p6_of (registers_of or_and [] (start or_and (cell 0))) ≡ false)
    × (p6_of (registers_of or_and (1 ∷ []) (start or_and (cell 0))) ≡ true)

abbrev pub load_r4 : Insn
load_r4 = plain (op.Load 8 load.Plain 0 4 3 update.None)

-- r1 is stored, and the word is loaded into r4.
abbrev pub stored_load : Program
stored_load = mmi (plain (op.Store 8 store.Plain 0 3 1 update.None)) load_r4 idle

-- The load sees the store; by the memory of the group's start it would load 0.
abbrev pub MemoryOrder : Type 0
MemoryOrder =
    (static_of 4 (registers_of stored_load [] (start stored_load (cell 7))) ≡ cell 7)
    × ((outcome_at_start stored_load 1 load_r4 (start stored_load (cell 7))).writes ≡ SetStatic 4 (cell 0) ∷ [])

abbrev pub fill_r4 : Insn
fill_r4 = plain (op.Load 8 load.Fill 0 4 3 update.None)

-- r1, which has NaT, is spilled, and the word is filled into r4.
abbrev pub spilled_fill : Program
spilled_fill = mmi (plain (op.Store 8 store.Spill 0 3 1 update.None)) fill_r4 idle

abbrev pub nat_7 : Cell
nat_7 = record { value = 7; nat = true }

-- The fill sees the NaT bit that the spill put into UNAT; by the group's start it would see neither it nor the word.
abbrev pub SpillsAndFills : Type 0
SpillsAndFills =
    (static_of 4 (registers_of spilled_fill [] (start spilled_fill nat_7)) ≡ nat_7)
    × ((registers_of spilled_fill [] (start spilled_fill nat_7)).unat ≡ 1)
    × ((outcome_at_start spilled_fill 1 fill_r4 (start spilled_fill nat_7)).writes ≡ SetStatic 4 (cell 0) ∷ [])

-- Two writes of r14 under p6, in the second group.
abbrev pub later_writes : Program
later_writes = record {
  bundles =
      idle_bundle
      ∷ record { template = 1; slots = Three (under_p6 (op.AddImm14 false 14 (pos 1) 0)) (under_p6 (op.AddImm14 false 14 (pos 2) 0)) idle }
      ∷ idle_bundle ∷ [];
  entries = [];
  bytes = [];
  relations = [];
}

-- The zero state, but p6 is 1.
abbrev pub with_p6 : Program → State
with_p6 p = record (zero_state p) {
  registers = record zero_registers { predicates = true ∷ replicate 5 false ++ true ∷ replicate 57 false };
}

-- From a state with p6, program order leaves 2, and another order of the second group 1, so it isn't order independent. From
-- the zero state both leave 0.
abbrev pub LaterWrites : Type 0
LaterWrites =
    (¬ IsOrderIndependent later_writes)
    × (static_of 14 (seq_run later_writes 2 (with_p6 later_writes)).state.registers ≡ cell 2)
    × (static_of 14 (par_run later_writes 2 ([] ∷ []) (with_p6 later_writes)).state.registers ≡ cell 2)
    × (static_of 14 (par_run later_writes 2 ([] ∷ (1 ∷ []) ∷ []) (with_p6 later_writes)).state.registers ≡ cell 1)
    × (static_of 14 (seq_run later_writes 2 (zero_state later_writes)).state.registers ≡ cell 0)
    × (static_of 14 (par_run later_writes 2 ([] ∷ (1 ∷ []) ∷ []) (zero_state later_writes)).state.registers ≡ cell 0)
