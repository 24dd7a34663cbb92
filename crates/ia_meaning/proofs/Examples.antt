-- The table of effects on small registers: what single instructions do at the edges of their rows (volume 1, chapters 3 and
-- 4, and volume 3, chapter 2).
use Rattle.std.proofs.Common.{◌≡◌, refl, ℕ, zero, suc, ◌+◌, ◌-◌, ◌*◌, ◌^◌, ◌++◌, Bool, true, false, List, [], ◌∷◌, Some, None, Ok, Err, get_or, set, replicate, if◌then◌else◌, ◌==◌}
use Rattle.std.specs.Prelude.{pos, negsuc}
use Rattle.ia_insn.specs.declared.insn.Op.{Op}
use Rattle.ia_insn.specs.declared.insn.Op.TheVariants as op
use Rattle.ia_insn.specs.declared.choices.AluFn.TheVariants as alu_fn
use Rattle.ia_insn.specs.declared.choices.CmpKind.{CmpKind}
use Rattle.ia_insn.specs.declared.choices.CmpKind.TheVariants.{Normal, Unc, And, Or, OrAndcm}
use Rattle.ia_insn.specs.declared.choices.Rel.TheVariants.{Eq, Lt, Ltu, Gt}
use Rattle.ia_insn.specs.declared.choices.LaneFn.TheVariants.{Padd, Psub, PcmpEq, PcmpGt}
use Rattle.ia_insn.specs.declared.choices.ShiftFn.TheVariants.{Shr, ShrU, Shl}
use Rattle.ia_insn.specs.declared.choices.Unit.TheVariants.{M}
use Rattle.ia_insn.specs.declared.insn.Insn.{Insn}
use Rattle.ia_insn.specs.declared.choices.LoadKind.{LoadKind}
use Rattle.ia_insn.specs.declared.choices.LoadKind.TheVariants as load
use Rattle.ia_insn.specs.declared.choices.StoreKind.TheVariants as store
use Rattle.ia_insn.specs.declared.choices.Update.TheVariants as update
use Rattle.ia_insn.specs.declared.choices.BranchKind.{BranchKind}
use Rattle.ia_insn.specs.declared.choices.BranchKind.TheVariants.{Cond, Wexit, Wtop, Cloop, Cexit, Ctop}
use Rattle.ia_insn.specs.declared.registers.Ar.TheVariants.{Pfs, Ec}
use Rattle.ia_program.specs.declared.place.Place.{Place}
use Rattle.ia_program.specs.declared.bundle.Slots.TheVariants.{Three, Long}
use Rattle.ia_program.specs.Bundles.{Bundle}
use Rattle.ia_program.specs.Programs.{Program}
use Rattle.ia_program.specs.Places.{insn_at}
use Rattle.ia_program.specs.declared.ending.End.TheVariants.{Fault}
use Rattle.ia_program.specs.declared.ending.FaultKind.TheVariants.{OutOfFrame, NatConsumed, ReservedField, BadFrame, Underflow, StackLimit, BadLanding, BadRelation, Unaligned, BadAddress, FellOff}
use Rattle.ia_meaning.specs.declared.state.Cell.{Cell}
use Rattle.ia_meaning.specs.declared.state.FrameShape.{FrameShape}
use Rattle.ia_meaning.specs.declared.state.Spot.{Spot}
use Rattle.ia_meaning.specs.declared.state.Spot.TheVariants.{Static, Stacked}
use Rattle.ia_meaning.specs.declared.state.AlatEntry.{AlatEntry}
use Rattle.ia_meaning.specs.declared.next.Next.TheVariants.{Falls, Goes}
use Rattle.ia_meaning.specs.State.{State, Registers, Memory, zero_cell, zero_bases, zero_frame, zero_registers}
use Rattle.ia_meaning.specs.declared.write.Write.{Write}
use Rattle.ia_meaning.specs.declared.write.Write.TheVariants.{SetStatic, SetCell, SetPredicate, SetBranch, SetPfs, SetLc, SetEc, SetFrame}
use Rattle.ia_meaning.specs.declared.write.FrameCause.TheVariants.{Resized, Renamed}
use Rattle.ia_meaning.specs.Writes.{frame_changes}
use Rattle.ia_meaning.specs.Names.{frame_index, spot, look, predicate_index, holds, predicate_spot}
use Rattle.ia_meaning.specs.Moves.{predicate_word, predicate_writes, has_reserved_zeros}
use Rattle.ia_meaning.specs.Loads.{access_fault, loaded, stored, invalidated, entered, untouched, has_hit, has_entry}
use Rattle.ia_meaning.specs.Frames.{has_zero_bases, rotated, frame_marker, marked_frame, call_state, is_frame, return_fault}
use Rattle.ia_meaning.specs.Outcomes.{Outcome, falls, goes, breaks, faults}
use Rattle.ia_meaning.specs.Effects.{Site, effect}
use Rattle.ia_meaning.specs.Steps.{spilled, seq_step}
use Rattle.ia_meaning.specs.ResidentRange.{zero_range, range_of}
use Rattle.ia_meaning.specs.Landings.{is_entry, landing, arrival}
use Rattle.ia_meaning.specs.Sequence.{next_of, is_stopped}

abbrev cell : ℕ → Cell
cell n = record { value = n; nat = false }

abbrev nat_cell : ℕ → Cell
nat_cell n = record { value = n; nat = true }

-- r1 is 3, r2 is 5, r3 is NaT, and r4 is given; p1 is 1, and all other predicates but p0 are 0.
abbrev with_r4 : Cell → Registers
with_r4 c = record zero_registers { statics = zero_cell ∷ cell 3 ∷ cell 5 ∷ nat_cell 7 ∷ c ∷ []; predicates = true ∷ true ∷ [] }

abbrev registers : Registers
registers = with_r4 zero_cell

-- Sixteen data bytes, 1 to 16.
abbrev memory : Memory
memory = record { bytes = 1 ∷ 2 ∷ 3 ∷ 4 ∷ 5 ∷ 6 ∷ 7 ∷ 8 ∷ 9 ∷ 10 ∷ 11 ∷ 12 ∷ 13 ∷ 14 ∷ 15 ∷ 16 ∷ []; alat = [] }

-- Bundle 10; address 32 alone is that of an entry, bundle 2, which asks that p6 is 0.
abbrev here : Site
here =
    record {
      bundle = 10;
      arrival = λ low address. if address == 32 then (if get_or low 6 false then Err BadRelation else Ok 2) else Err
          BadLanding;
    }

abbrev run : ℕ → Op → Registers → Outcome
run qp o r = effect here (record { qp = qp; op = o }) r memory 0

-- Tests. The result of cmp.eq is 1 of r1 and r1, 0 of r1 and r2, and none of r1 and r3.

abbrev compare : CmpKind → ℕ → Outcome
compare kind r3 = run 0 (op.Cmp false Eq kind 6 7 1 r3) registers

-- p6 and p7 are written.
abbrev both : Bool → Bool → Outcome
both p q = falls (SetPredicate 6 p ∷ SetPredicate 7 q ∷ []) memory

abbrev nothing : Outcome
nothing = falls [] memory

-- result 1, result 0, and a NaT operand.
normal :
    (compare Normal 1 ≡ both true false)
    × (compare Normal 2 ≡ both false true)
    × (compare Normal 3 ≡ both false false)
unfolding look spot holds predicate_spot predicate_index
normal = (refl, refl, refl)

unconditional :
    (compare Unc 1 ≡ both true false)
    × (compare Unc 2 ≡ both false true)
    × (compare Unc 3 ≡ both false false)
unfolding look spot holds predicate_spot predicate_index
unconditional = (refl, refl, refl)

and :
    (compare And 1 ≡ nothing)
    × (compare And 2 ≡ both false false)
    × (compare And 3 ≡ both false false)
unfolding look spot holds predicate_spot predicate_index
and = (refl, refl, refl)

or :
    (compare Or 1 ≡ both true true)
    × (compare Or 2 ≡ nothing)
    × (compare Or 3 ≡ nothing)
unfolding look spot holds predicate_spot predicate_index
or = (refl, refl, refl)

or_and_complement :
    (compare OrAndcm 1 ≡ both true false)
    × (compare OrAndcm 2 ≡ nothing)
    × (compare OrAndcm 3 ≡ nothing)
unfolding look spot holds predicate_spot predicate_index
or_and_complement = (refl, refl, refl)

-- NaT of the first operand alone.
nat_first :
    (run 0 (op.Cmp false Eq Normal 6 7 3 1) registers ≡ both false false)
    × (run 0 (op.Cmp false Eq Or 6 7 3 1) registers ≡ nothing)
unfolding look spot holds predicate_spot predicate_index
nat_first = (refl, refl)

-- Under a false predicate `unc` clears both targets, and no register outside the frame is a fault. Others do nothing.
unc_skipped :
    (run 2 (op.Cmp false Eq Unc 6 7 32 33) registers ≡ both false false)
    × (run 2 (op.Cmp false Eq Normal 6 7 32 33) registers ≡ nothing)
    × (run 2 (op.Tnat true 6 7 32) registers ≡ both false false)
    × (run 2 (op.Tbit true 6 7 32 0) registers ≡ both false false)
    × (run 2 (op.Tbit false 6 7 32 0) registers ≡ nothing)
unfolding look spot holds predicate_spot predicate_index
unc_skipped = (refl, refl, refl, refl, refl)

unc_executed :
    (run 1 (op.Cmp false Eq Unc 6 7 1 33) registers ≡ faults OutOfFrame memory)
    × (run 1 (op.Cmp false Eq Unc 6 7 32 1) registers ≡ faults OutOfFrame memory)
unfolding look spot holds predicate_spot predicate_index
unc_executed = (refl, refl)

-- The result of tnat.z is 1 where NaT is clear.
test_nat :
    (run 0 (op.Tnat false 6 7 1) registers ≡ both true false)
    × (run 0 (op.Tnat false 6 7 3) registers ≡ both false true)
unfolding look spot holds predicate_spot predicate_index
test_nat = (refl, refl)

-- That of tbit.z is 1 where the bit is 0, here bits 2 and 1 of 3, and none of a NaT.
test_bit :
    (run 0 (op.Tbit false 6 7 1 2) registers ≡ both true false)
    × (run 0 (op.Tbit false 6 7 1 1) registers ≡ both false true)
    × (run 0 (op.Tbit false 6 7 3 1) registers ≡ both false false)
unfolding look spot holds predicate_spot predicate_index
test_bit = (refl, refl, refl)

-- p0 is not written.
predicate_zero :
    (run 0 (op.Cmp false Eq Normal 0 7 1 1) registers ≡ falls (SetPredicate 7 false ∷ []) memory)
    × (run 0 (op.Cmp false Eq Normal 6 0 1 1) registers ≡ falls (SetPredicate 6 true ∷ []) memory)
unfolding look spot holds predicate_spot predicate_index
predicate_zero = (refl, refl)

-- p16 and p63 stand elsewhere under a rename base of 1.
predicate_renamed : run 0 (op.Cmp false Eq Normal 16 63 1 1) (record registers
    { frame = record zero_frame { rrbs = record zero_bases { pr = 1 } } })
    ≡ falls (SetPredicate 17 true ∷ SetPredicate 16 false ∷ []) memory
unfolding look spot holds predicate_spot predicate_index
predicate_renamed = refl

-- Computations.

-- NaT of each operand is that of the result.
sum :
    (run 0 (op.Alu alu_fn.Add 4 1 2) registers ≡ falls (SetStatic 4 (cell 8) ∷ []) memory)
    × (run 0 (op.Alu alu_fn.Add 4 3 2) registers ≡ falls (SetStatic 4 (nat_cell 12) ∷ []) memory)
    × (run 0 (op.Alu alu_fn.Add 4 1 3) registers ≡ falls (SetStatic 4 (nat_cell 10) ∷ []) memory)
unfolding look spot holds
sum = (refl, refl, refl)

-- r0 is read as 0 and not written.
register_zero :
    (run 0 (op.Alu alu_fn.Add 4 0 2) registers ≡ falls (SetStatic 4 (cell 5) ∷ []) memory)
    × (run 0 (op.Alu alu_fn.Add 0 1 2) registers ≡ nothing)
unfolding look spot holds
register_zero = (refl, refl)

outside_frame :
    (run 0 (op.Alu alu_fn.Add 32 1 2) registers ≡ faults OutOfFrame memory)
    × (run 0 (op.Alu alu_fn.Add 4 32 2) registers ≡ faults OutOfFrame memory)
    × (run 0 (op.Alu alu_fn.Add 4 1 32) registers ≡ faults OutOfFrame memory)
    × (run 2 (op.Alu alu_fn.Add 32 1 2) registers ≡ nothing)
unfolding look spot holds predicate_index
outside_frame = (refl, refl, refl, refl)

-- 3 - 5, and 3 - 5 - 1.
difference :
    (run 0 (op.Alu alu_fn.Sub 4 1 2) registers ≡ falls (SetStatic 4 (cell 0xffff_ffff_ffff_fffe) ∷ []) memory)
    × (run 0 (op.Alu alu_fn.Sub1 4 1 2) registers ≡ falls (SetStatic 4 (cell 0xffff_ffff_ffff_fffd) ∷ []) memory)
unfolding look spot holds
difference = (refl, refl)

-- r5 becomes this.
abbrev gives : ℕ → Outcome
gives n = falls (SetStatic 5 (cell n) ∷ []) memory

-- With r4.
abbrev run_at : ℕ → Op → Outcome
run_at n o = run 0 o (with_r4 (cell n))

-- Bits 31:30 of the base come to bits 62:61, and the sum keeps its low 32 bits.
pointer_sum :
    (run_at 0xffff_ffff_c000_0000 (op.Alu alu_fn.Addp4 5 1 4) ≡ gives 0x6000_0000_c000_0003)
    × (run_at 0xffff_ffff (op.Alu alu_fn.Addp4 5 1 4) ≡ gives 0x6000_0000_0000_0002)
    × (run_at 0x4000_0000 (op.ShlAdd true 5 1 2 4) ≡ gives 0x2000_0000_4000_000c)
unfolding look spot holds
pointer_sum = (refl, refl, refl)

-- -1 - 3, and 3 and not 1
immediate_first :
    (run_at 0 (op.AluImm8 alu_fn.Sub 5 (negsuc 0) 1) ≡ gives 0xffff_ffff_ffff_fffc)
    × (run_at 1 (op.AluImm8 alu_fn.Andcm 5 (pos 3) 4) ≡ gives 2)
unfolding look spot holds
immediate_first = (refl, refl)

-- By 3, by 2^63 and by 64.
shifts :
    (run_at (2 ^ 63) (op.ShiftVar Shr 5 4 1) ≡ gives 0xf000_0000_0000_0000)
    × (run_at (2 ^ 63) (op.ShiftVar ShrU 5 4 1) ≡ gives 0x1000_0000_0000_0000)
    × (run_at (2 ^ 63 + 1) (op.ShiftVar Shl 5 4 1) ≡ gives 8)
    × (run_at (2 ^ 63) (op.ShiftVar Shr 5 4 4) ≡ gives 0xffff_ffff_ffff_ffff)
    × (run_at (2 ^ 63) (op.ShiftVar ShrU 5 4 4) ≡ gives 0)
    × (run_at 64 (op.ShiftVar Shr 5 1 4) ≡ gives 0)
    × (run_at 64 (op.ShiftVar Shl 5 1 4) ≡ gives 0)
    × (run_at 0 (op.Shrp 5 1 2 1) ≡ gives 0x8000_0000_0000_0002)
unfolding look spot holds
shifts = (refl, refl, refl, refl, refl, refl, refl, refl)

-- Fields are cut at bit 63, which is then the sign.
fields :
    (run_at (2 ^ 63) (op.Extr true 5 4 60 10) ≡ gives 0xffff_ffff_ffff_fff8)
    × (run_at (2 ^ 63) (op.Extr false 5 4 60 10) ≡ gives 8)
    × (run_at 0x60 (op.Extr true 5 4 4 3) ≡ gives 0xffff_ffff_ffff_fffe)
    × (run_at 0 (op.DepZ 5 1 63 5) ≡ gives 0x8000_0000_0000_0000)
    × (run_at 0 (op.DepZImm 5 (negsuc 0) 4 4) ≡ gives 0xf0)
    × (run_at 0xffff_ffff_ffff_ffff (op.Dep 5 1 4 4 4) ≡ gives 0xffff_ffff_ffff_ff3f)
    × (run_at 0xffff_ffff_ffff_ffff (op.DepImm 5 false 4 0 64) ≡ gives 0)
    × (run_at 0 (op.DepImm 5 true 4 60 10) ≡ gives 0xf000_0000_0000_0000)
unfolding look spot holds
fields = (refl, refl, refl, refl, refl, refl, refl, refl)

extensions :
    (run_at 0x180 (op.Ext true 1 5 4) ≡ gives 0xffff_ffff_ffff_ff80)
    × (run_at 0x1_8000_0000 (op.Ext false 4 5 4) ≡ gives 0x8000_0000)
unfolding look spot holds
extensions = (refl, refl)

-- cmp4 looks at the low 32 bits, and an immediate is the first operand.
relations :
    (run_at 0x8000_0000 (op.Cmp true Lt Normal 6 7 4 1) ≡ both true false)
    × (run_at 0x8000_0000 (op.Cmp false Lt Normal 6 7 4 1) ≡ both false true)
    × (run_at 0x1_0000_0003 (op.Cmp true Eq Normal 6 7 4 1) ≡ both true false)
    × (run_at 0 (op.CmpImm false Ltu Normal 6 7 (negsuc 0) 1) ≡ both false true)
    × (run_at 0 (op.CmpImm false Lt Normal 6 7 (negsuc 0) 1) ≡ both true false)
    × (run_at 0 (op.CmpZero false Gt Or 6 7 1) ≡ nothing)
unfolding look spot holds predicate_spot predicate_index
relations = (refl, refl, refl, refl, refl, refl)

-- Nothing is carried from lane to lane. Lanes are compared as signed numbers, and the result of a NaT is one.
operations_on_lanes :
    (run_at 0x01ff (op.Lane Padd 1 5 4 1) ≡ gives 0x0102)
    × (run_at 0x01ff (op.Lane Padd 2 5 4 1) ≡ gives 0x0202)
    × (run_at 0xffff_ffff (op.Lane Padd 4 5 4 1) ≡ gives 2)
    × (run_at 0x0100 (op.Lane Psub 1 5 4 1) ≡ gives 0x01fd)
    × (run_at 0 (op.Lane Psub 4 5 4 1) ≡ gives 0xffff_fffd)
    × (run_at 0x1_0003 (op.Lane PcmpEq 2 5 4 1) ≡ gives 0xffff_ffff_0000_ffff)
    × (run_at 0x0180 (op.Lane PcmpGt 1 5 4 1) ≡ gives 0xff00)
    × (run_at 0x0180 (op.Lane PcmpGt 1 5 1 4) ≡ gives 0x00ff)
    × (run_at 0x8000_0000 (op.Lane PcmpGt 4 5 0 4) ≡ gives 0xffff_ffff)
    × (run_at 0 (op.Lane Padd 1 5 1 3) ≡ falls (SetStatic 5 (nat_cell 10) ∷ []) memory)
unfolding look spot holds
operations_on_lanes = (refl, refl, refl, refl, refl, refl, refl, refl, refl, refl)

-- Moves.

-- r4 moves to the application register.
abbrev to_pfs : ℕ → Outcome
to_pfs x = run 0 (op.MovToAr Pfs 4) (with_r4 (cell x))

-- Bits 38, 51, 58 and 61 of a previous function state are reserved, and those beside them are not.
reserved :
    (to_pfs (2 ^ 38) ≡ faults ReservedField memory)
    × (to_pfs (2 ^ 51) ≡ faults ReservedField memory)
    × (to_pfs (2 ^ 58) ≡ faults ReservedField memory)
    × (to_pfs (2 ^ 61) ≡ faults ReservedField memory)
    × (to_pfs (2 ^ 37 + 2 ^ 52 + 2 ^ 57 + 2 ^ 62) ≡ falls (SetPfs 0x4210_0020_0000_0000 ∷ []) memory)
unfolding look spot holds has_reserved_zeros
reserved = (refl, refl, refl, refl, refl)

-- EC keeps six bits.
six_bits :
    (run 0 (op.MovToAr Ec 4) (with_r4 (cell 0x1c5)) ≡ falls (SetEc 5 ∷ []) memory)
    × (run 0 (op.MovToArImm Ec (negsuc 0)) registers ≡ falls (SetEc 63 ∷ []) memory)
unfolding look spot holds
six_bits = (refl, refl)

-- A NaT source is a fault, and that fault comes before one of a reserved field.
nat_moved :
    (run 0 (op.MovToAr Pfs 4) (with_r4 (nat_cell (2 ^ 38))) ≡ faults NatConsumed memory)
    × (run 0 (op.MovToBr 6 3 false false 0 (pos 0)) registers ≡ faults NatConsumed memory)
    × (run 0 (op.MovToPr 3 2) registers ≡ faults NatConsumed memory)
unfolding look spot holds has_reserved_zeros predicate_writes
nat_moved = (refl, refl, refl)

-- The writes that make the predicates from the n-th on 0, as many as the first number says.
abbrev zeros : ℕ → ℕ → List Write → List Write
zeros zero n ws = ws
zeros (suc left) n ws = SetPredicate n false ∷ zeros left (suc n) ws

-- Mask bit 1 is for place 1, and mask bit 16 for places 16 to 63. Place 0 is not written.
masked :
    (run 0 (op.MovToPr 1 2) registers ≡ falls (SetPredicate 1 true ∷ []) memory)
    × (run 0 (op.MovToPr 1 1) registers ≡ nothing)
    × (run 0 (op.MovToPr 4 (2 ^ 16)) (with_r4 (cell (2 ^ 15 + 2 ^ 16 + 2 ^ 63)))
    ≡ falls (SetPredicate 16 true ∷ zeros 46 17 (SetPredicate 63 true ∷ [])) memory)
    × (run 0 (op.MovToPrRot (pos 0x10000)) registers ≡ falls (SetPredicate 16 true ∷ zeros 47 17 []) memory)
unfolding look spot holds predicate_writes
masked = (refl, refl, refl, refl)

-- The word by place.
predicates_fetched : run 0 (op.MovFromPr 4) registers ≡ falls (SetStatic 4 (cell 3) ∷ []) memory
unfolding look spot holds predicate_word
predicates_fetched = refl

address_fetched : run 0 (op.MovFromIp 4) registers ≡ falls (SetStatic 4 (cell 0x100a0) ∷ []) memory
unfolding look spot holds
address_fetched = refl

-- Loop branches, two bundles on, in a frame with eight rotating registers and a predicate base of 1. p63 stands at place 16 in
-- it.

abbrev loop_frame : FrameShape
loop_frame = record zero_frame { sof = 8; sor = 1; rrbs = record { gr = 0; fr = 0; pr = 1 } }

-- The registers rotate.
abbrev rotates : Write
rotates = SetFrame Renamed (record zero_frame { sof = 8; sor = 1; rrbs = record { gr = 7; fr = 95; pr = 0 } })

abbrev loop : BranchKind → ℕ → ℕ → ℕ → Outcome
loop kind qp lc ec = run qp (op.Br kind 0 false false (pos 2)) (record registers { frame = loop_frame; lc = lc; ec = ec })

abbrev takes : List Write → Outcome
takes ws = goes ws memory 12

abbrev stays : List Write → Outcome
stays ws = falls ws memory

conditional :
    (loop Cond 1 5 5 ≡ takes [])
    × (loop Cond 2 5 5 ≡ stays [])
unfolding look spot holds predicate_index rotated
conditional = (refl, refl)

-- By LC 1 and LC 0.
simple :
    (loop Cloop 0 1 5 ≡ takes (SetLc 0 ∷ []))
    × (loop Cloop 0 0 5 ≡ stays [])
unfolding look spot holds predicate_index rotated
simple = (refl, refl)

-- By LC 1, and by EC 2, 1 and 0 with LC 0.
counted_top :
    (loop Ctop 0 1 0 ≡ takes (SetLc 0 ∷ SetPredicate 16 true ∷ rotates ∷ []))
    × (loop Ctop 0 0 2 ≡ takes (SetEc 1 ∷ SetPredicate 16 false ∷ rotates ∷ []))
    × (loop Ctop 0 0 1 ≡ stays (SetEc 0 ∷ SetPredicate 16 false ∷ rotates ∷ []))
    × (loop Ctop 0 0 0 ≡ stays (SetPredicate 16 false ∷ []))
unfolding look spot holds predicate_index rotated
counted_top = (refl, refl, refl, refl)

counted_exit :
    (loop Cexit 0 1 0 ≡ stays (SetLc 0 ∷ SetPredicate 16 true ∷ rotates ∷ []))
    × (loop Cexit 0 0 2 ≡ stays (SetEc 1 ∷ SetPredicate 16 false ∷ rotates ∷ []))
    × (loop Cexit 0 0 1 ≡ takes (SetEc 0 ∷ SetPredicate 16 false ∷ rotates ∷ []))
    × (loop Cexit 0 0 0 ≡ takes (SetPredicate 16 false ∷ []))
unfolding look spot holds predicate_index rotated
counted_exit = (refl, refl, refl, refl)

-- By a qualifying predicate that is 1, and by EC 2, 1 and 0 with one that is 0, whatever LC is.
while_top :
    (loop Wtop 1 5 0 ≡ takes (SetPredicate 16 false ∷ rotates ∷ []))
    × (loop Wtop 2 5 2 ≡ takes (SetEc 1 ∷ SetPredicate 16 false ∷ rotates ∷ []))
    × (loop Wtop 2 5 1 ≡ stays (SetEc 0 ∷ SetPredicate 16 false ∷ rotates ∷ []))
    × (loop Wtop 2 5 0 ≡ stays (SetPredicate 16 false ∷ []))
unfolding look spot holds predicate_index rotated
while_top = (refl, refl, refl, refl)

while_exit :
    (loop Wexit 1 5 0 ≡ stays (SetPredicate 16 false ∷ rotates ∷ []))
    × (loop Wexit 2 5 2 ≡ stays (SetEc 1 ∷ SetPredicate 16 false ∷ rotates ∷ []))
    × (loop Wexit 2 5 1 ≡ takes (SetEc 0 ∷ SetPredicate 16 false ∷ rotates ∷ []))
    × (loop Wexit 2 5 0 ≡ takes (SetPredicate 16 false ∷ []))
unfolding look spot holds predicate_index rotated
while_exit = (refl, refl, refl, refl)

-- Without a rotating part the base of general registers stays 0.
unrotated : rotated zero_frame ≡ record zero_frame { rrbs = record { gr = 0; fr = 95; pr = 47 } }
unfolding rotated
unrotated = refl

-- Frames.

abbrev alloc : ℕ → ℕ → ℕ → ℕ → FrameShape → Outcome
alloc r1 sof sol sor f = run 0 (op.Alloc r1 sof sol sor) (record registers { frame = f; pfs = 77 })

-- The name of the target is looked up in the new frame.
allocated_name :
    (alloc 32 8 4 1 zero_frame ≡ falls (SetFrame Resized (record zero_frame { sof = 8; sol = 4; sor = 1 }) ∷ SetCell 0 (cell 77) ∷ [])
    memory)
    × (alloc 39 4 4 0 (record zero_frame { sof = 8 }) ≡ faults OutOfFrame memory)
    × (alloc 32 8 4 1 (record zero_frame { base = 5; sof = 8; sor = 1; rrbs = record zero_bases { gr = 3 } })
    ≡ falls (SetFrame Resized (record { base = 5; sof = 8; sol = 4; sor = 1; rrbs = record zero_bases { gr = 3 } }) ∷ SetCell 8
    (cell 77) ∷ []) memory)
unfolding look spot holds frame_index has_zero_bases
allocated_name = (refl, refl, refl)

-- The rotating part stays the same where a base is not 0, and there are at most STACK_LIMIT cells.
allocated_faults :
    (alloc 32 16 4 2 (record zero_frame { sof = 8; sor = 1; rrbs = record zero_bases { pr = 1 } }) ≡ faults ReservedField memory)
    × (alloc 32 8 4 0 (record zero_frame { base = 65529 }) ≡ faults StackLimit memory)
    × (alloc 32 7 4 0 (record zero_frame { base = 65529 }) ≡ falls
    (SetFrame Resized (record zero_frame { base = 65529; sof = 7; sol = 4 }) ∷ SetCell 65529 (cell 77) ∷ []) memory)
unfolding look spot holds frame_index has_zero_bases
allocated_faults = (refl, refl, refl)

-- sof 8, sol 5, sor 1, and the bases 3, 2 and 1.
abbrev caller : FrameShape
caller = record { base = 20; sof = 8; sol = 5; sor = 1; rrbs = record { gr = 3; fr = 2; pr = 1 } }

-- The previous function state of a call has EC, here 9, as pec, and 3 as ppl.
called_from : run 0 (op.BrCall 6 0 false false (pos 2)) (record registers { frame = caller; ec = 9 })
    ≡ goes (SetBranch 6 0x100b0 ∷ SetPfs 0xc090_0001_040c_4288 ∷ SetFrame Resized
    (record { base = 25; sof = 3; sol = 0; sor = 0; rrbs = zero_bases }) ∷ []) memory 12
unfolding look spot holds frame_marker call_state
called_from = refl

-- A return from a frame with this base, to the address in b0.
abbrev return_from : ℕ → ℕ → ℕ → Outcome
return_from base pfs address =
    run 0 (op.BrRet 0 0 false false) (record registers {
      frame = record zero_frame { base = base; sof = 3 };
      pfs = pfs;
      branches = address ∷ [];
    })

-- That state gives back the frame and EC.
returned_to : return_from 25 0xc090_0001_040c_4288 32 ≡ goes (SetFrame Resized caller ∷ SetEc 9 ∷ []) memory 2
unfolding look spot holds marked_frame is_frame return_fault
returned_to = refl

-- sof 97, sol above sof, 8 * sor above sof, a base of general registers past the rotating part, one of predicates of 48, a base
-- below sol, and another address than that of an entry.
return_faults :
    (return_from 25 97 32 ≡ faults BadFrame memory)
    × (return_from 25 (2 ^ 7) 32 ≡ faults BadFrame memory)
    × (return_from 25 (7 + 2 ^ 14) 32 ≡ faults BadFrame memory)
    × (return_from 25 (8 + 2 ^ 14 + 8 * 2 ^ 18) 32 ≡ faults BadFrame memory)
    × (return_from 25 (48 * 2 ^ 32) 32 ≡ faults BadFrame memory)
    × (return_from 4 (8 + 5 * 2 ^ 7) 32 ≡ faults Underflow memory)
    × (return_from 5 (8 + 5 * 2 ^ 7) 48 ≡ faults BadLanding memory)
    × (return_from 65530 8 32 ≡ faults StackLimit memory)
unfolding look spot holds marked_frame is_frame return_fault
return_faults = (refl, refl, refl, refl, refl, refl, refl, refl)

cleared_bases :
    (run 0 (op.Clrrrb false) (record registers { frame = caller })
    ≡ falls (SetFrame Renamed (record caller { rrbs = zero_bases }) ∷ []) memory)
    × (run 0 (op.Clrrrb true) (record registers { frame = caller })
    ≡ falls (SetFrame Renamed (record caller { rrbs = record { gr = 3; fr = 2; pr = 0 } }) ∷ []) memory)
unfolding look spot holds
cleared_bases = (refl, refl)

-- The ALAT. Its oldest entry comes first.

abbrev entry : Spot → ℕ → ℕ → AlatEntry
entry key address size = record { key = key; address = address; size = size }

-- The entries of the cells from the n-th on, as many as the first number says.
abbrev many : ℕ → ℕ → List AlatEntry
many zero n = []
many (suc left) n = entry (Stacked n) 0x100000 8 ∷ many left (suc n)

abbrev enter_each : List AlatEntry → List AlatEntry → List AlatEntry
enter_each [] es = es
enter_each (e ∷ rest) es = enter_each rest (entered es e)

-- Of 33 entries the first goes. One of the same register goes, and no other.
entries_kept :
    (enter_each (many 32 0) [] ≡ many 32 0)
    × (enter_each (many 33 0) [] ≡ many 32 1)
    × (entered (many 32 0) (entry (Stacked 0) 0x100008 4) ≡ many 31 1 ++ entry (Stacked 0) 0x100008 4 ∷ [])
unfolding entered invalidated
entries_kept = (refl, refl, refl)

-- A memory with an entry of r4, of eight bytes at this address.
abbrev with_entry : ℕ → Memory
with_entry address = record memory { alat = entry (Static 4) address 8 ∷ [] }

-- With r4 and UNAT.
abbrev run_with : Op → Cell → Memory → ℕ → Outcome
run_with o c m unat = effect here (record { qp = 0; op = o }) (with_r4 c) m unat

-- The entries after a store of one byte of r1 to the address in r4.
abbrev left_by : ℕ → ℕ → List AlatEntry
left_by stored_at entered_at = (run_with (op.Store 1 store.Plain 0 4 1 update.None) (cell stored_at) (with_entry entered_at) 0).memory.alat

-- A store of one byte inside the eight bytes of an entry removes it, and one beside them does not.
touched :
    (left_by 0x100000 0x100000 ≡ [])
    × (left_by 0x100007 0x100000 ≡ [])
    × (left_by 0x100008 0x100000 ≡ entry (Static 4) 0x100000 8 ∷ [])
    × (left_by 0x100007 0x100008 ≡ entry (Static 4) 0x100008 8 ∷ [])
unfolding look spot holds access_fault stored untouched
touched = (refl, refl, refl, refl)

abbrev load_at : LoadKind → Cell → Memory → ℕ → Outcome
load_at kind address m unat = run_with (op.Load 8 kind 0 2 4 update.None) address m unat

loads_entering :
    (load_at load.A (cell 0x100000) memory 0 ≡ falls (SetStatic 2 (cell 0x0807_0605_0403_0201) ∷ [])
    (record memory { alat = entry (Static 2) 0x100000 8 ∷ [] }))
    × (load_at load.Sa (cell 0x100000) memory 0 ≡ falls (SetStatic 2 (cell 0x0807_0605_0403_0201) ∷ [])
    (record memory { alat = entry (Static 2) 0x100000 8 ∷ [] }))
    × (load_at load.Plain (cell 0x100000) memory 0 ≡ falls (SetStatic 2 (cell 0x0807_0605_0403_0201) ∷ []) memory)
unfolding look spot holds access_fault loaded invalidated entered has_hit
loads_entering = (refl, refl, refl)

-- An entry of r2 at this address.
abbrev with_target : ℕ → Memory
with_target address = record memory { alat = entry (Static 2) address 8 ∷ [] }

-- On a hit nothing is written, and no fault is looked for.
check_hits :
    (load_at load.CNc (cell 3) (with_target 3) 0 ≡ falls [] (with_target 3))
    × (load_at load.CClr (cell 3) (with_target 3) 0 ≡ falls [] memory)
    × (load_at load.CClrAcq (cell 3) (with_target 3) 0 ≡ falls [] memory)
unfolding look spot holds access_fault loaded invalidated entered has_hit
check_hits = (refl, refl, refl)

check_misses :
    (load_at load.CNc (cell 0x100008) (with_target 0x100000) 0 ≡ falls (SetStatic 2 (cell 0x100f_0e0d_0c0b_0a09) ∷ [])
    (with_target 0x100008))
    × (load_at load.CClr (cell 0x100008) (with_target 0x100000) 0 ≡ falls (SetStatic 2 (cell 0x100f_0e0d_0c0b_0a09) ∷ []) memory)
    × (load_at load.CClrAcq (cell 3) (with_target 0x100000) 0 ≡ faults Unaligned (with_target 0x100000))
unfolding look spot holds access_fault loaded invalidated entered has_hit
check_misses = (refl, refl, refl)

-- chk.a branches where there is no entry, and on a hit its `clr` invalidates it.
checks :
    (run_with (op.ChkA false 4 (pos 2)) zero_cell memory 0 ≡ takes [])
    × (run_with (op.ChkA false 4 (pos 2)) zero_cell (with_entry 0x100000) 0 ≡ falls [] (with_entry 0x100000))
    × (run_with (op.ChkA true 4 (pos 2)) zero_cell (with_entry 0x100000) 0 ≡ falls [] memory)
unfolding look spot holds access_fault loaded invalidated entered has_hit has_entry
checks = (refl, refl, refl)

-- Spills, fills and deferred loads.

-- The NaT bit goes to the bit of UNAT whose number is bits 8:3 of the address, here 1.
spilled_nat :
    (run_with (op.Store 8 store.Spill 0 4 3 update.None) (cell 0x100008) memory 0
    ≡ record {
      writes = [];
      memory = record memory { bytes = 1 ∷ 2 ∷ 3 ∷ 4 ∷ 5 ∷ 6 ∷ 7 ∷ 8 ∷ 7 ∷ 0 ∷ 0 ∷ 0 ∷ 0 ∷ 0 ∷ 0 ∷ 0 ∷ [] };
      spills = Some (1, true);
      next = Falls;
    })
    × (run_with (op.Store 8 store.Spill 0 4 1 update.None) (cell 0x100008) memory 0
    ≡ record {
      writes = [];
      memory = record memory { bytes = 1 ∷ 2 ∷ 3 ∷ 4 ∷ 5 ∷ 6 ∷ 7 ∷ 8 ∷ 3 ∷ 0 ∷ 0 ∷ 0 ∷ 0 ∷ 0 ∷ 0 ∷ 0 ∷ [] };
      spills = Some (1, false);
      next = Falls;
    })
    × (run_with (op.Store 8 store.Plain 0 4 3 update.None) (cell 0x100008) memory 0 ≡ faults NatConsumed memory)
unfolding look spot holds access_fault stored untouched
spilled_nat = (refl, refl, refl)

-- The bit is set or cleared, and the others stay.
spilled_bit :
    ((spilled (Some (1, true)) (record registers { unat = 5 })).unat ≡ 7)
    × ((spilled (Some (1, false)) (record registers { unat = 7 })).unat ≡ 5)
    × ((spilled (Some (63, true)) registers).unat ≡ 2 ^ 63)
spilled_bit = (refl, refl, refl)

-- A fill takes it from there.
filled :
    (load_at load.Fill (cell 0x100008) memory 2 ≡ falls (SetStatic 2 (nat_cell 0x100f_0e0d_0c0b_0a09) ∷ []) memory)
    × (load_at load.Fill (cell 0x100008) memory 0xffff_ffff_ffff_fffd ≡ falls (SetStatic 2 (cell 0x100f_0e0d_0c0b_0a09) ∷ []) memory)
unfolding look spot holds access_fault loaded invalidated entered has_hit
filled = (refl, refl)

-- r2 becomes 0 with NaT.
abbrev defers : List Write → Memory → Outcome
defers ws m = falls (SetStatic 2 (nat_cell 0) ∷ ws) m

-- A NaT address, an address that is not a multiple of 8, and bytes that are not data. A deferred `sa` invalidates its target, and
-- `s` does not.
deferred_loads :
    (load_at load.S (nat_cell 0x100000) memory 0 ≡ defers [] memory)
    × (load_at load.S (cell 0x100001) memory 0 ≡ defers [] memory)
    × (load_at load.S (cell 0x100010) memory 0 ≡ defers [] memory)
    × (load_at load.Sa (nat_cell 0x100000) (with_target 0x100000) 0 ≡ defers [] memory)
    × (load_at load.Sa (cell 0x100001) (with_target 0x100000) 0 ≡ defers [] memory)
    × (load_at load.S (cell 0x100001) (with_target 0x100000) 0 ≡ defers [] (with_target 0x100000))
unfolding look spot holds access_fault loaded invalidated entered has_hit
deferred_loads = (refl, refl, refl, refl, refl, refl)

load_faults :
    (load_at load.Plain (nat_cell 0x100001) memory 0 ≡ faults NatConsumed memory)
    × (load_at load.Plain (cell 0xffff9) memory 0 ≡ faults Unaligned memory)
    × (load_at load.Plain (cell 0xffff8) memory 0 ≡ faults BadAddress memory)
    × (load_at load.CNc (nat_cell 3) (with_target 3) 0 ≡ faults NatConsumed (with_target 3))
unfolding look spot holds access_fault loaded invalidated entered has_hit
load_faults = (refl, refl, refl, refl)

-- The base is updated where the load is deferred too, and with a register the NaT bits meet.
deferred_update :
    (run_with (op.Load 8 load.S 0 2 4 (update.Imm (negsuc 0))) (cell 0x100001) memory 0 ≡ defers (SetStatic 4 (cell 0x100000) ∷ []) memory)
    × (run_with (op.Load 8 load.S 0 2 4 (update.Reg 1)) (nat_cell 0x100000) memory 0 ≡ defers (SetStatic 4 (nat_cell 0x100003) ∷ []) memory)
    × (run_with (op.Load 8 load.Plain 0 2 4 (update.Reg 3)) (cell 0x100000) memory 0
    ≡ falls (SetStatic 2 (cell 0x0807_0605_0403_0201) ∷ SetStatic 4 (nat_cell 0x100007) ∷ []) memory)
unfolding look spot holds access_fault loaded invalidated entered has_hit
deferred_update = (refl, refl, refl)

-- Exchanges. Of a register or a sum the low bytes are stored, and the target, which may be the base, gets what was there.
abbrev of_bytes : List ℕ → Memory
of_bytes bytes = record memory { bytes = bytes }

exchanges :
    (run_with (op.Xchg 1 0 2 4 4) (cell 0x100001) memory 0 ≡ falls (SetStatic 2 (cell 2) ∷ [])
    (of_bytes (1 ∷ 1 ∷ 3 ∷ 4 ∷ 5 ∷ 6 ∷ 7 ∷ 8 ∷ 9 ∷ 10 ∷ 11 ∷ 12 ∷ 13 ∷ 14 ∷ 15 ∷ 16 ∷ [])))
    × (run_with (op.Xchg 8 0 4 4 2) (cell 0x100000) memory 0 ≡ falls (SetStatic 4 (cell 0x0807_0605_0403_0201) ∷ [])
    (of_bytes (5 ∷ 0 ∷ 0 ∷ 0 ∷ 0 ∷ 0 ∷ 0 ∷ 0 ∷ 9 ∷ 10 ∷ 11 ∷ 12 ∷ 13 ∷ 14 ∷ 15 ∷ 16 ∷ [])))
    × (run_with (op.FetchAdd 4 false 0 2 4 (negsuc 15)) (cell 0x100004) memory 0 ≡ falls (SetStatic 2 (cell 0x0807_0605) ∷ [])
    (of_bytes (1 ∷ 2 ∷ 3 ∷ 4 ∷ 245 ∷ 5 ∷ 7 ∷ 8 ∷ 9 ∷ 10 ∷ 11 ∷ 12 ∷ 13 ∷ 14 ∷ 15 ∷ 16 ∷ [])))
    × (run_with (op.FetchAdd 8 true 0 2 4 (pos 8)) (cell 0x100008) memory 0 ≡ falls (SetStatic 2 (cell 0x100f_0e0d_0c0b_0a09) ∷ [])
    (of_bytes (1 ∷ 2 ∷ 3 ∷ 4 ∷ 5 ∷ 6 ∷ 7 ∷ 8 ∷ 17 ∷ 10 ∷ 11 ∷ 12 ∷ 13 ∷ 14 ∷ 15 ∷ 16 ∷ [])))
unfolding look spot holds access_fault loaded stored untouched
exchanges = (refl, refl, refl, refl)

-- A sum wraps within its bytes.
sums_wrapped :
    (run_with (op.FetchAdd 4 false 0 2 4 (negsuc 0)) (cell 0x100000) (of_bytes (replicate 8 0)) 0 ≡ falls (SetStatic 2 (cell 0) ∷ [])
    (of_bytes (replicate 4 255 ++ replicate 4 0)))
    × (run_with (op.FetchAdd 8 false 0 2 4 (pos 1)) (cell 0x100000) (of_bytes (replicate 8 255)) 0
    ≡ falls (SetStatic 2 (cell 0xffff_ffff_ffff_ffff) ∷ []) (of_bytes (replicate 8 0)))
unfolding look spot holds access_fault loaded stored untouched
sums_wrapped = (refl, refl)

-- The entry of the bytes goes, and the one beside them doesn't.
exchange_touches :
    ((run_with (op.Xchg 1 0 2 4 1) (cell 0x100007) (with_entry 0x100000) 0).memory.alat ≡ [])
    × ((run_with (op.Xchg 1 0 2 4 1) (cell 0x100008) (with_entry 0x100000) 0).memory.alat ≡ entry (Static 4) 0x100000 8 ∷ [])
    × ((run_with (op.FetchAdd 4 false 0 2 4 (pos 1)) (cell 0x100004) (with_entry 0x100000) 0).memory.alat ≡ [])
unfolding look spot holds access_fault loaded stored untouched
exchange_touches = (refl, refl, refl)

-- NaT of the address, or of the register that is exchanged; an address that is not a multiple of the size, and bytes that are
-- not data; a register outside the frame.
exchange_faults :
    (run_with (op.Xchg 8 0 2 4 1) (nat_cell 0x100001) memory 0 ≡ faults NatConsumed memory)
    × (run_with (op.Xchg 8 0 2 4 3) (cell 0x100001) memory 0 ≡ faults NatConsumed memory)
    × (run_with (op.FetchAdd 4 false 0 2 4 (pos 1)) (nat_cell 0x100000) memory 0 ≡ faults NatConsumed memory)
    × (run_with (op.FetchAdd 8 false 0 2 4 (pos 1)) (cell 0xffffc) memory 0 ≡ faults Unaligned memory)
    × (run_with (op.Xchg 2 0 2 4 1) (cell 0x100010) memory 0 ≡ faults BadAddress memory)
    × (run_with (op.Xchg 2 0 2 4 32) (cell 0x100000) memory 0 ≡ faults OutOfFrame memory)
unfolding look spot holds access_fault loaded stored untouched
exchange_faults = (refl, refl, refl, refl, refl, refl)

-- Landings. The program has an entry, bundle 1, and a call in bundle 2.

abbrev idle : Insn
idle = record { qp = 0; op = op.Nop M 0 }

abbrev of_three : Insn → Bundle
of_three insn = record { template = 0; slots = Three idle idle insn }

-- Of five bundles, the last with a long instruction and no stop at its end.
abbrev landed_in : Program
landed_in = record {
  bundles =
      of_three idle ∷ of_three idle ∷ of_three (record { qp = 0; op = op.BrCall 0 0 false false (pos 0) }) ∷ of_three
      idle ∷ record { template = 4; slots = Long idle idle } ∷ [];
  entries = 1 ∷ [];
  bytes = [];
  relations = record { bundle = 0; p = 6; q = 7 } ∷ record { bundle = 1; p = 1; q = 15 } ∷ record { bundle = 1; p = 6; q = 7 } ∷ [];
}

entries_landed :
    (landing landed_in 0x10000 ≡ Some 0)
    × (landing landed_in 0x1001f ≡ Some 1)
    × (landing landed_in 0x10020 ≡ None)
    × (landing landed_in 0x10030 ≡ Some 3)
    × (landing landed_in 0x10040 ≡ None)
    × (landing landed_in 0x10050 ≡ None)
    × (landing landed_in 0xffff ≡ None)
unfolding landing is_entry
entries_landed = (refl, refl, refl, refl, refl, refl, refl)

-- The first predicates with these two, and no others, 1.
abbrev two_ones : ℕ → ℕ → List Bool
two_ones p q = set (set (replicate 16 false) p true) q true

-- Bundle 1 declares that p1 and p15, and p6 and p7, are not both 1; bundle 0 only that p6 and p7 aren't.
relations_kept :
    (arrival landed_in (two_ones 6 7) 0x10010 ≡ Err BadRelation)
    × (arrival landed_in (two_ones 1 15) 0x10010 ≡ Err BadRelation)
    × (arrival landed_in (two_ones 1 7) 0x10010 ≡ Ok 1)
    × (arrival landed_in (two_ones 1 15) 0x10000 ≡ Ok 0)
    × (arrival landed_in (two_ones 6 7) 0x10030 ≡ Ok 3)
    × (arrival landed_in (two_ones 6 7) 0x10020 ≡ Err BadLanding)
unfolding landing is_entry
relations_kept = (refl, refl, refl, refl, refl, refl)

abbrev at : ℕ → ℕ → Place
at bundle slot = record { bundle = bundle; slot = slot }

-- A long instruction is that of slot 1.
places :
    (next_of landed_in.bundles (at 0 1) ≡ Some (at 0 2))
    × (next_of landed_in.bundles (at 0 2) ≡ Some (at 1 0))
    × (next_of landed_in.bundles (at 4 0) ≡ Some (at 4 1))
    × (next_of landed_in.bundles (at 4 1) ≡ None)
unfolding next_of
places = (refl, refl, refl, refl)

-- Template 3 has stops after slots 1 and 2, template 5 one after the long instruction.
stops :
    (is_stopped (record { template = 3; slots = Three idle idle idle } ∷ []) (at 0 0) ≡ false)
    × (is_stopped (record { template = 3; slots = Three idle idle idle } ∷ []) (at 0 1) ≡ true)
    × (is_stopped (record { template = 3; slots = Three idle idle idle } ∷ []) (at 0 2) ≡ true)
    × (is_stopped (record { template = 5; slots = Long idle idle } ∷ []) (at 0 0) ≡ false)
    × (is_stopped (record { template = 5; slots = Long idle idle } ∷ []) (at 0 1) ≡ true)
    × (is_stopped (record { template = 4; slots = Long idle idle } ∷ []) (at 0 1) ≡ false)
unfolding is_stopped
stops = (refl, refl, refl, refl, refl, refl)

-- A state of it at a place.
abbrev state_at : Place → State
state_at place = record { registers = registers; memory = memory; place = place }

-- A last slot that would fall through changes nothing.
last_slot_faults :
    ((seq_step landed_in (state_at (at 4 1))).end ≡ Some (Fault FellOff (at 4 1)))
    × ((seq_step landed_in (state_at (at 4 1))).state ≡ state_at (at 4 1))
    × ((seq_step landed_in (state_at (at 4 0))).state ≡ state_at (at 4 1))
unfolding look spot holds seq_step next_of insn_at is_stopped
last_slot_faults = (refl, refl, refl)

-- What is left of the rows: moves, checks, branches, the ALAT, and what does nothing.

moved_back :
    (run 0 (op.MovFromBr 4 2) (record registers { branches = 0 ∷ 0 ∷ 9 ∷ [] }) ≡ falls (SetStatic 4 (cell 9) ∷ []) memory)
    × (run 0 (op.MovFromAr 4 Ec) (record registers { ec = 6 }) ≡ falls (SetStatic 4 (cell 6) ∷ []) memory)
    × (run 0 (op.Movl 4 (2 ^ 63)) registers ≡ falls (SetStatic 4 (cell (2 ^ 63)) ∷ []) memory)
    × (run 0 (op.AddImm22 4 (negsuc 3) 1) registers ≡ falls (SetStatic 4 (cell (2 ^ 64 - 1)) ∷ []) memory)
unfolding look spot holds
moved_back = (refl, refl, refl, refl)

-- A check of a register branches where it has NaT.
checked :
    (run 0 (op.ChkS M 3 (negsuc 1)) registers ≡ goes [] memory 8)
    × (run 0 (op.ChkS M 1 (pos 2)) registers ≡ nothing)
unfolding look spot holds
checked = (refl, refl)

-- The ALAT is emptied, or loses the entry of one register.
emptied :
    (run_with op.Invala zero_cell (with_entry 0x100000) 0 ≡ falls [] memory)
    × (run_with (op.InvalaE 4) zero_cell (with_entry 0x100000) 0 ≡ falls [] memory)
    × (run_with (op.InvalaE 2) zero_cell (with_entry 0x100000) 0 ≡ falls [] (with_entry 0x100000))
unfolding look spot holds invalidated
emptied = (refl, refl, refl)

does_nothing :
    (run 0 op.Mf registers ≡ nothing)
    × (run 0 (op.Nop M 5) registers ≡ nothing)
    × (run 0 (op.Hint M 5) registers ≡ nothing)
    × (run 0 (op.Break M 5) registers ≡ breaks 5 memory)
unfolding holds
does_nothing = (refl, refl, refl, refl)

-- An indirect branch lands on an entry, and an indirect call too, where its relations hold.
landed :
    (run 0 (op.BrInd 2 0 false false) (record registers { branches = 0 ∷ 0 ∷ 32 ∷ [] }) ≡ goes [] memory 2)
    × (run 0 (op.BrInd 2 0 false false) (record registers { branches = 0 ∷ 0 ∷ 33 ∷ [] }) ≡ faults BadLanding memory)
    × ((run 0 (op.BrCallInd 1 2 0 false false) (record registers { branches = 0 ∷ 0 ∷ 32 ∷ [] })).next ≡ Goes 2)
    × (run 0 (op.BrCallInd 1 2 0 false false) registers ≡ faults BadLanding memory)
    × (run 0 (op.BrInd 2 0 false false) (record registers { branches = 0 ∷ 0 ∷ 32 ∷ []; predicates = set (replicate 64 false) 6 true })
    ≡ faults BadRelation memory)
unfolding holds
landed = (refl, refl, refl, refl, refl)

-- Loads of 1, 2 and 4 bytes, the lowest first, and a store that adds to its base.
sizes :
    (run_with (op.Load 1 load.Plain 0 2 4 update.None) (cell 0x100001) memory 0 ≡ falls (SetStatic 2 (cell 2) ∷ []) memory)
    × (run_with (op.Load 2 load.Plain 0 2 4 update.None) (cell 0x100002) memory 0 ≡ falls (SetStatic 2 (cell 0x0403) ∷ []) memory)
    × (run_with (op.Load 4 load.Plain 0 2 4 update.None) (cell 0x100004) memory 0 ≡ falls (SetStatic 2 (cell 0x08070605) ∷ []) memory)
unfolding look spot holds access_fault loaded
sizes = (refl, refl, refl)

store_updates :
    (run_with (op.Store 1 store.Plain 0 4 1 (update.Imm (pos 1))) (cell 0x100000) memory 0).writes ≡ SetStatic 4 (cell 0x100001) ∷ []
unfolding look spot holds access_fault
store_updates = refl

-- A loop branch that counts does nothing under a false predicate, and `wtop` goes on as a counted loop at LC 0.
loops_skipped :
    (run 2 (op.Br Cloop 0 false false (pos 1)) (record registers { lc = 1 }) ≡ nothing)
    × (run 2 (op.Br Ctop 0 false false (pos 1)) (record registers { lc = 1 }) ≡ nothing)
    × (run 2 (op.Br Wtop 0 false false (pos 1)) (record registers { lc = 1 }) ≡ falls (SetPredicate 63 false ∷ []) memory)
unfolding holds predicate_index
loops_skipped = (refl, refl, refl)

-- The resident range. A call past 96 cells spills, and a return below the first resident cell fills.
resident :
    (range_of zero_range ((0, 96) ∷ (90, 150) ∷ (0, 96) ∷ []) ≡ record { low = 0; high = 96; spilled = 54; filled = 54 })
    × (range_of zero_range ((0, 96) ∷ (90, 150) ∷ (90, 91) ∷ []) ≡ record { low = 54; high = 91; spilled = 54; filled = 0 })
resident = (refl, refl)

-- What resizes a frame counts, and what renames it doesn't.
changes : frame_changes (SetFrame Resized (record zero_frame { base = 5; sof = 3 }) ∷ SetLc 1 ∷ SetFrame Renamed zero_frame ∷ [])
    ≡ (5, 8) ∷ []
changes = refl
