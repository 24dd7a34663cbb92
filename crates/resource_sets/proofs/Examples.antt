-- What single instructions access, which accesses clash, and which may write a guard (volume 3, chapter 5, resource and
-- dependency semantics).
use Rattle.std.proofs.Common.{◌≡◌, ℕ, zero, suc, true, false, List, [], ◌∷◌, Some, None, refl}
use Rattle.std.specs.Prelude.{pos, negsuc}
use Rattle.ia_insn.specs.declared.insn.Op.{Op}
use Rattle.ia_insn.specs.declared.insn.Op.TheVariants as op
use Rattle.ia_insn.specs.declared.choices.Unit.TheVariants as unit
use Rattle.ia_insn.specs.declared.choices.AluFn.TheVariants.{Add}
use Rattle.ia_insn.specs.declared.choices.Rel.TheVariants.{Eq}
use Rattle.ia_insn.specs.declared.choices.CmpKind.TheVariants as cmp
use Rattle.ia_insn.specs.declared.choices.LoadKind.TheVariants as load
use Rattle.ia_insn.specs.declared.choices.StoreKind.TheVariants as store
use Rattle.ia_insn.specs.declared.choices.BranchKind.TheVariants as branch
use Rattle.ia_insn.specs.declared.choices.Update.TheVariants as update
use Rattle.ia_insn.specs.declared.registers.Ar.TheVariants as ar
use Rattle.resource_sets.specs.declared.access.Resource.{Resource}
use Rattle.resource_sets.specs.declared.access.Resource.TheVariants.{Gr, Pr, Br, Unat, Pfs, Lc, Ec, Cfm}
use Rattle.resource_sets.specs.declared.access.Kind.{Kind}
use Rattle.resource_sets.specs.declared.access.Kind.TheVariants.{Read, BranchRead, Write, AllocWrite, LoopWrite, OrWrite, AndWrite, Spill, Fill}
use Rattle.resource_sets.specs.declared.access.Access.{Access}
use Rattle.resource_sets.specs.declared.clashes.Rule.TheVariants.{Raw, Waw, War63}
use Rattle.resource_sets.specs.Accesses.{mask_rows, rows, accesses}
use Rattle.resource_sets.specs.Clashes.{clash_of, clash, may_write_guard}
use Rattle.resource_sets.specs.InsnAccesses.{may_clash}

-- The accesses of an instruction under a qualifying predicate.
abbrev of : ℕ → Op → List Access
of qp o = accesses (record { qp = qp; op = o })

-- An access under a guard.
abbrev by : ℕ → Resource → Kind → Access
by guard resource kind = record { resource = resource; kind = kind; guard = guard }

-- The accesses to `left` predicates from the n-th on.
abbrev predicates : (left n guard : ℕ) → Kind → List Access
predicates zero n guard kind = []
predicates (suc left) n guard kind = by guard (Pr n) kind ∷ predicates left (suc n) guard kind

-- `add r8=r9,r10`, `(p6) adds r8=1,r9`, `(p6) movl r0=1`, and `(p16) add r32=r9,r10`, whose names ask for the frame
computes :
    (of 0 (op.Alu Add 8 9 10) ≡ by 0 (Gr 9) Read ∷ by 0 (Gr 10) Read ∷ by 0 (Gr 8) Write ∷ [])
    × (of 6 (op.AddImm14 false 8 (pos 1) 9) ≡ by 0 (Pr 6) Read ∷ by 6 (Gr 9) Read ∷ by 6 (Gr 8) Write ∷ [])
    × (of 6 (op.Movl 0 1) ≡ by 0 (Pr 6) Read ∷ [])
    × (of 16 (op.Alu Add 32 9 10)
    ≡ by 0 Cfm Read ∷ by 0 (Pr 16) Read ∷ by 16 (Gr 9) Read ∷ by 16 (Gr 10) Read ∷ by 16 (Gr 32) Write ∷ [])
unfolding rows
computes = (refl, refl, refl, refl)

-- r31 and p15 ask for no frame, in `add r31=r0,r0` and `(p15) add r31=r0,r0`; r32 does, in `add r31=r32,r0`.
edges :
    (of 0 (op.Alu Add 31 0 0) ≡ by 0 (Gr 31) Write ∷ [])
    × (of 15 (op.Alu Add 31 0 0) ≡ by 0 (Pr 15) Read ∷ by 15 (Gr 31) Write ∷ [])
    × (of 0 (op.Alu Add 31 32 0) ≡ by 0 Cfm Read ∷ by 0 (Gr 32) Read ∷ by 0 (Gr 31) Write ∷ [])
unfolding rows
edges = (refl, refl, refl)

-- `(p6) cmp.eq p7,p0=r8,r9`, and with .unc, which writes where p6 is 0 too; `(p6) tbit.z.unc p7,p8=r9,0`
compares :
    (of 6 (op.Cmp false Eq cmp.Normal 7 0 8 9) ≡ by 0 (Pr 6) Read ∷ by 6 (Gr 8) Read ∷ by 6 (Gr 9) Read ∷ by 6 (Pr 7) Write ∷ [])
    × (of 6 (op.Cmp false Eq cmp.Unc 7 8 8 9)
    ≡ by 0 (Pr 6) Read ∷ by 6 (Gr 8) Read ∷ by 6 (Gr 9) Read ∷ by 0 (Pr 7) Write ∷ by 0 (Pr 8) Write ∷ [])
    × (of 6 (op.Tbit true 7 8 9 0) ≡ by 0 (Pr 6) Read ∷ by 6 (Gr 9) Read ∷ by 0 (Pr 7) Write ∷ by 0 (Pr 8) Write ∷ [])
unfolding rows
compares = (refl, refl, refl)

-- `cmp.eq.or p7,p8=r0,r9`, `cmp.eq.and p7,p8=r0,r9`, `(p6) cmp.eq.or.andcm p7,p8=r0,r9`; and `tnat.z p7,p20=r9`,
-- whose target asks for the frame
parallel_compares :
    (of 0 (op.Cmp false Eq cmp.Or 7 8 0 9) ≡ by 0 (Gr 9) Read ∷ by 0 (Pr 7) OrWrite ∷ by 0 (Pr 8) OrWrite ∷ [])
    × (of 0 (op.Cmp false Eq cmp.And 7 8 0 9) ≡ by 0 (Gr 9) Read ∷ by 0 (Pr 7) AndWrite ∷ by 0 (Pr 8) AndWrite ∷ [])
    × (of 6 (op.Cmp false Eq cmp.OrAndcm 7 8 0 9)
    ≡ by 0 (Pr 6) Read ∷ by 6 (Gr 9) Read ∷ by 6 (Pr 7) OrWrite ∷ by 6 (Pr 8) AndWrite ∷ [])
    × (of 0 (op.Tnat false 7 20 9) ≡ by 0 Cfm Read ∷ by 0 (Gr 9) Read ∷ by 0 (Pr 7) Write ∷ by 0 (Pr 20) Write ∷ [])
unfolding rows
parallel_compares = (refl, refl, refl, refl)

-- `mov pr=r8,0x6` writes p1 and p2; `mov pr=r8,0x10008` p3 and p16 to p63; `mov pr.rot=0` p16 to p63; `(p6) mov r8=pr`
-- reads p1 to p63
predicate_moves :
    (of 0 (op.MovToPr 8 0x6) ≡ by 0 (Gr 8) Read ∷ by 0 (Pr 1) Write ∷ by 0 (Pr 2) Write ∷ [])
    × (of 0 (op.MovToPr 8 0x10008) ≡ by 0 (Gr 8) Read ∷ by 0 (Pr 3) Write ∷ predicates 48 16 0 Write)
    × (of 0 (op.MovToPrRot (pos 0)) ≡ predicates 48 16 0 Write)
    × (of 6 (op.MovFromPr 8) ≡ by 0 (Pr 6) Read ∷ by 6 (Gr 8) Write ∷ predicates 63 1 6 Read)
unfolding rows mask_rows
predicate_moves = (refl, refl, refl, refl)

-- `mov b6=r8`, `mov r8=b6`, `mov r8=ip`
branch_moves :
    (of 0 (op.MovToBr 6 8 false false 1 (pos 0)) ≡ by 0 (Gr 8) Read ∷ by 0 (Br 6) Write ∷ [])
    × (of 0 (op.MovFromBr 8 6) ≡ by 0 (Gr 8) Write ∷ by 0 (Br 6) Read ∷ [])
    × (of 0 (op.MovFromIp 8) ≡ by 0 (Gr 8) Write ∷ [])
unfolding rows
branch_moves = (refl, refl, refl)

-- `mov ar.unat=r8`, `mov ar.pfs=r8`, `mov.i ar.lc=5`, `mov.i ar.ec=5`, `mov r8=ar.pfs`, `mov r8=ar.unat`
application_moves :
    (of 0 (op.MovToAr ar.Unat 8) ≡ by 0 (Gr 8) Read ∷ by 0 Unat Write ∷ [])
    × (of 0 (op.MovToAr ar.Pfs 8) ≡ by 0 (Gr 8) Read ∷ by 0 Pfs Write ∷ [])
    × (of 0 (op.MovToArImm ar.Lc (pos 5)) ≡ by 0 Lc Write ∷ [])
    × (of 0 (op.MovToArImm ar.Ec (pos 5)) ≡ by 0 Ec Write ∷ [])
    × (of 0 (op.MovFromAr 8 ar.Pfs) ≡ by 0 (Gr 8) Write ∷ by 0 Pfs Read ∷ [])
    × (of 0 (op.MovFromAr 8 ar.Unat) ≡ by 0 (Gr 8) Write ∷ by 0 Unat Read ∷ [])
unfolding rows
application_moves = (refl, refl, refl, refl, refl, refl)

-- `ld8 r8=[r9]`, `ld8 r8=[r9],8`, `(p6) ld8 r8=[r9],r10`, `ld8.fill r8=[r9]`
loads :
    (of 0 (op.Load 8 load.Plain 0 8 9 update.None) ≡ by 0 (Gr 9) Read ∷ by 0 (Gr 8) Write ∷ [])
    × (of 0 (op.Load 8 load.Plain 0 8 9 (update.Imm (pos 8))) ≡ by 0 (Gr 9) Read ∷ by 0 (Gr 8) Write ∷ by 0 (Gr 9) Write ∷ [])
    × (of 6 (op.Load 8 load.Plain 0 8 9 (update.Reg 10))
    ≡ by 0 (Pr 6) Read ∷ by 6 (Gr 9) Read ∷ by 6 (Gr 10) Read ∷ by 6 (Gr 8) Write ∷ by 6 (Gr 9) Write ∷ [])
    × (of 0 (op.Load 8 load.Fill 0 8 9 update.None) ≡ by 0 (Gr 9) Read ∷ by 0 (Gr 8) Write ∷ by 0 Unat Fill ∷ [])
unfolding rows
loads = (refl, refl, refl, refl)

-- `st8 [r9]=r8`, `(p6) st8.spill [r9]=r8,8`
stores :
    (of 0 (op.Store 8 store.Plain 0 9 8 update.None) ≡ by 0 (Gr 9) Read ∷ by 0 (Gr 8) Read ∷ [])
    × (of 6 (op.Store 8 store.Spill 0 9 8 (update.Imm (pos 8)))
    ≡ by 0 (Pr 6) Read ∷ by 6 (Gr 9) Read ∷ by 6 (Gr 8) Read ∷ by 6 (Gr 9) Write ∷ by 6 Unat Spill ∷ [])
unfolding rows
stores = (refl, refl)

-- `xchg8 r8=[r9],r10`, `(p6) xchg1 r8=[r8],r8`, `fetchadd8.acq r8=[r9],-4`
exchanges :
    (of 0 (op.Xchg 8 0 8 9 10) ≡ by 0 (Gr 9) Read ∷ by 0 (Gr 10) Read ∷ by 0 (Gr 8) Write ∷ [])
    × (of 6 (op.Xchg 1 0 8 8 8) ≡ by 0 (Pr 6) Read ∷ by 6 (Gr 8) Read ∷ by 6 (Gr 8) Read ∷ by 6 (Gr 8) Write ∷ [])
    × (of 0 (op.FetchAdd 8 false 0 8 9 (negsuc 3)) ≡ by 0 (Gr 9) Read ∷ by 0 (Gr 8) Write ∷ [])
unfolding rows
exchanges = (refl, refl, refl)

-- `chk.s.m r8,0` reads its register; `chk.a.clr r8,0` and `invala.e r8` read none, and ask for the frame where they name it
checks :
    (of 0 (op.ChkS unit.M 8 (pos 0)) ≡ by 0 (Gr 8) Read ∷ [])
    × (of 0 (op.ChkA true 8 (pos 0)) ≡ [])
    × (of 0 (op.ChkA true 32 (pos 0)) ≡ by 0 Cfm Read ∷ [])
    × (of 0 (op.InvalaE 8) ≡ [])
    × (of 6 (op.InvalaE 32) ≡ by 0 Cfm Read ∷ by 0 (Pr 6) Read ∷ [])
    × (of 0 op.Invala ≡ [])
    × (of 0 op.Mf ≡ [])
unfolding rows
checks = (refl, refl, refl, refl, refl, refl, refl)

-- `alloc r8=ar.pfs,0,4,0,0`
allocs : of 0 (op.Alloc 8 4 4 0) ≡ by 0 (Gr 8) Write ∷ by 0 Pfs Read ∷ by 0 Cfm Read ∷ by 0 Cfm AllocWrite ∷ []
unfolding rows
allocs = refl

-- `br.cond.sptk.few 0` under p0 and under p6, `(p6) br.cond.sptk.few b6`, which reads p1 to p15 besides, and not p16
jumps :
    (of 0 (op.Br branch.Cond 0 false false (pos 0)) ≡ [])
    × (of 6 (op.Br branch.Cond 0 false false (pos 0)) ≡ by 0 (Pr 6) BranchRead ∷ [])
    × (of 6 (op.BrInd 6 0 false false) ≡ by 0 (Pr 6) BranchRead ∷ by 6 (Br 6) BranchRead ∷ predicates 15 1 6 BranchRead)
unfolding rows mask_rows
jumps = (refl, refl, refl)

-- `(p6) br.call.sptk.few b0=0`, `(p16) br.call.sptk.few b0=b6`, `(p6) br.ret.sptk.few b0`
calls :
    (of 6 (op.BrCall 0 0 false false (pos 0))
    ≡ by 0 (Pr 6) BranchRead ∷ by 6 Cfm Read ∷ by 6 Cfm Write ∷ by 6 Pfs Write ∷ by 6 Ec Read ∷ by 6 (Br 0) Write ∷ [])
    × (of 16 (op.BrCallInd 0 6 0 false false)
    ≡ by 0 Cfm Read ∷ by 0 (Pr 16) BranchRead ∷ by 16 Cfm Read ∷ by 16 Cfm Write ∷ by 16 Pfs Write ∷ by 16 Ec Read
    ∷ by 16 (Br 0) Write ∷ by 16 (Br 6) BranchRead ∷ predicates 15 1 16 BranchRead)
    × (of 6 (op.BrRet 0 0 false false)
    ≡ by 0 (Pr 6) BranchRead ∷ by 6 (Br 0) BranchRead ∷ by 6 Pfs BranchRead ∷ by 6 Cfm Write ∷ by 6 Ec Write
    ∷ predicates 15 1 6 BranchRead)
unfolding rows mask_rows
calls = (refl, refl, refl)

-- `br.cloop.sptk.few 0`, `br.ctop.sptk.few 0`, `(p6) br.wtop.sptk.few 0`: each access is made under p0, and p63 is a name of
-- the frame
loops :
    (of 0 (op.Br branch.Cloop 0 false false (pos 0)) ≡ by 0 Lc Read ∷ by 0 Lc Write ∷ [])
    × (of 0 (op.Br branch.Ctop 0 false false (pos 0))
    ≡ by 0 Cfm Read ∷ by 0 Lc Read ∷ by 0 Lc Write ∷ by 0 Ec Read ∷ by 0 Ec Write ∷ by 0 Cfm Read ∷ by 0 Cfm Write
    ∷ by 0 (Pr 63) LoopWrite ∷ [])
    × (of 6 (op.Br branch.Wtop 0 false false (pos 0))
    ≡ by 0 Cfm Read ∷ by 0 (Pr 6) BranchRead ∷ by 0 Ec Read ∷ by 0 Ec Write ∷ by 0 Cfm Read ∷ by 0 Cfm Write
    ∷ by 0 (Pr 63) LoopWrite ∷ [])
unfolding rows
loops = (refl, refl, refl)

-- `clrrrb`, `clrrrb.pr`
clears : (of 0 (op.Clrrrb false) ≡ by 0 Cfm Write ∷ []) × (of 0 (op.Clrrrb true) ≡ by 0 Cfm Write ∷ [])
unfolding rows
clears = (refl, refl)

-- `(p6) nop.b 0` and `(p6) break.b 0` read p6 as a branch does and as other instructions do, `(p6) nop.m 0` as those alone
idles :
    (of 6 (op.Nop unit.B 0) ≡ by 0 (Pr 6) Read ∷ by 0 (Pr 6) BranchRead ∷ [])
    × (of 6 (op.Break unit.B 0) ≡ by 0 (Pr 6) Read ∷ by 0 (Pr 6) BranchRead ∷ [])
    × (of 6 (op.Nop unit.M 0) ≡ by 0 (Pr 6) Read ∷ [])
unfolding rows
idles = (refl, refl, refl)

-- A read after a write, by the next instruction or by a branch, and a write after a read.
reads_and_writes :
    (clash (by 0 (Gr 8) Write) (by 0 (Gr 8) Read) ≡ Some Raw)
    × (clash (by 0 (Br 6) Write) (by 0 (Br 6) BranchRead) ≡ None)
    × (clash (by 0 (Gr 8) Read) (by 0 (Gr 8) Write) ≡ None)
    × (clash (by 0 (Pr 6) OrWrite) (by 0 (Pr 6) Read) ≡ Some Raw)
    × (clash (by 0 (Pr 63) LoopWrite) (by 0 (Pr 63) Read) ≡ Some Raw)
    × (clash (by 0 Cfm AllocWrite) (by 0 Cfm Read) ≡ None)
unfolding clash_of
reads_and_writes = (refl, refl, refl, refl, refl, refl)

-- Two writes of a predicate, and of the frame.
two_writes :
    (clash (by 6 (Pr 8) Write) (by 7 (Pr 8) Write) ≡ Some Waw)
    × (clash (by 6 (Pr 8) OrWrite) (by 7 (Pr 8) OrWrite) ≡ None)
    × (clash (by 6 (Pr 8) AndWrite) (by 7 (Pr 8) AndWrite) ≡ None)
    × (clash (by 6 (Pr 8) OrWrite) (by 7 (Pr 8) AndWrite) ≡ Some Waw)
    × (clash (by 6 (Pr 8) AndWrite) (by 7 (Pr 8) OrWrite) ≡ Some Waw)
    × (clash (by 6 (Pr 8) OrWrite) (by 7 (Pr 8) Write) ≡ Some Waw)
    × (clash (by 0 Cfm AllocWrite) (by 0 Cfm Write) ≡ Some Waw)
unfolding clash_of
two_writes = (refl, refl, refl, refl, refl, refl, refl)

-- Spills and fills come in program order; a move to or from UNAT doesn't.
spills_and_fills :
    (clash (by 0 Unat Spill) (by 0 Unat Spill) ≡ None)
    × (clash (by 0 Unat Spill) (by 0 Unat Fill) ≡ None)
    × (clash (by 0 Unat Fill) (by 0 Unat Spill) ≡ None)
    × (clash (by 0 Unat Spill) (by 0 Unat Read) ≡ Some Raw)
    × (clash (by 0 Unat Write) (by 0 Unat Fill) ≡ Some Raw)
    × (clash (by 0 Unat Spill) (by 0 Unat Write) ≡ Some Waw)
    × (clash (by 0 Unat Write) (by 0 Unat Spill) ≡ Some Waw)
unfolding clash_of
spills_and_fills = (refl, refl, refl, refl, refl, refl, refl)

-- p63, read by a branch before a loop branch that writes it, and after it; other reads of p63 may come before.
p63 :
    (clash (by 0 (Pr 63) BranchRead) (by 0 (Pr 63) LoopWrite) ≡ Some War63)
    × (clash (by 0 (Pr 63) LoopWrite) (by 0 (Pr 63) BranchRead) ≡ None)
    × (clash (by 0 (Pr 63) Read) (by 0 (Pr 63) LoopWrite) ≡ None)
unfolding clash_of
p63 = (refl, refl, refl)

-- An indirect branch may share a group with an earlier compare of the predicates that it reads, here
-- `cmp.eq.or p6,p7=r8,r10` and `br.cond.sptk.few b6`, and with a later `br.ctop.sptk.few 0`.
indirect_branches :
    (may_clash (of 0 (op.Cmp false Eq cmp.Or 6 7 8 10)) (of 0 (op.BrInd 6 0 false false)) ≡ false)
    × (may_clash (of 0 (op.BrInd 6 0 false false)) (of 0 (op.Br branch.Ctop 0 false false (pos 0))) ≡ false)
unfolding rows mask_rows clash_of
indirect_branches = (refl, refl)

-- Two resources never clash.
two_resources :
    (clash (by 0 (Gr 8) Write) (by 0 (Gr 9) Read) ≡ None)
    × (clash (by 0 (Gr 8) Write) (by 0 (Pr 8) Write) ≡ None)
    × (clash (by 0 Pfs Write) (by 0 Cfm Write) ≡ None)
two_resources = (refl, refl, refl)

-- p8 may be written by its name; p16 by a write of the frame too, but for that of `alloc`.
guards :
    (may_write_guard 8 (by 0 (Pr 9) Write ∷ by 6 (Pr 8) OrWrite ∷ []) ≡ true)
    × (may_write_guard 8 (by 0 (Pr 8) Read ∷ by 0 Cfm Write ∷ []) ≡ false)
    × (may_write_guard 16 (by 0 Cfm Write ∷ []) ≡ true)
    × (may_write_guard 16 (by 0 Cfm AllocWrite ∷ []) ≡ false)
guards = (refl, refl, refl, refl)
