-- Values at the edges, by the definitions.
use Rattle.std.proofs.Common.{◌≡◌, ◌+◌, ◌-◌, ◌^◌, refl, true, false, Some, None}
use Rattle.std.specs.Prelude.{negsuc}
use Rattle.ia_insn.specs.declared.choices.AluFn.TheVariants.{Add, Addp4, Sub, Sub1}
use Rattle.ia_insn.specs.declared.choices.CmpKind.TheVariants.{Normal}
use Rattle.ia_insn.specs.declared.choices.ShiftFn.TheVariants.{Shr, ShrU, Shl}
use Rattle.ia_insn.specs.declared.choices.Rel.TheVariants.{Eq, Lt, Ltu, Ge}
use Rattle.ia_insn.specs.declared.insn.Op.TheVariants.{AluImm8, AddImm14, Tbit}
use Rattle.ia_meaning.specs.Arithmetic.{alu, shift_add, shift, shift_pair, extract, deposit, extend, compared}
use Rattle.ia_meaning.specs.declared.action.Function.TheVariants.{AluImmediate}
use Rattle.ia_meaning.specs.declared.action.Condition.TheVariants.{BitIsZero}
use Rattle.ia_meaning.specs.declared.action.Action.TheVariants.{Compute, Test}
use Rattle.ia_meaning.specs.Actions.{action_of, value_of, result_of}

-- Counts of 63, 64 and 2^64 - 1.
shr_63 : shift Shr (2 ^ 63) 63 ≡ 2 ^ 64 - 1
shr_63 = refl

shr_64 : shift Shr (2 ^ 63) 64 ≡ 2 ^ 64 - 1
shr_64 = refl

shr_of_positive : shift Shr (2 ^ 63 - 1) (2 ^ 64 - 1) ≡ 0
shr_of_positive = refl

shr_u_63 : shift ShrU (2 ^ 63) 63 ≡ 1
shr_u_63 = refl

shr_u_64 : shift ShrU (2 ^ 63) 64 ≡ 0
shr_u_64 = refl

shl_63 : shift Shl 3 63 ≡ 2 ^ 63
shl_63 = refl

shl_64 : shift Shl 1 64 ≡ 0
shl_64 = refl

shl_most : shift Shl 1 (2 ^ 64 - 1) ≡ 0
shl_most = refl

shrp_63 : shift_pair 63 1 (2 ^ 63) ≡ 3
shrp_63 = refl

-- A field that passes bit 63: its sign is bit 63.
extr_cut : extract true 60 8 (2 ^ 63) ≡ 0xffff_ffff_ffff_fff8
extr_cut = refl

extr_u_cut : extract false 60 8 (2 ^ 63) ≡ 8
extr_u_cut = refl

dep_cut : deposit 60 16 0xffff 5 ≡ 0xf000_0000_0000_0005
dep_cut = refl

sxt1 : extend true 1 0x180 ≡ 0xffff_ffff_ffff_ff80
sxt1 = refl

-- Bits 31:30 of the base become bits 62:61; its own bits 62:61 and the carry past bit 31 are lost.
addp4_region : alu Addp4 0 0xc000_0000 ≡ 0x6000_0000_c000_0000
addp4_region = refl

addp4_high_bits : alu Addp4 0 0xe000_0000_0000_0001 ≡ 1
addp4_high_bits = refl

addp4_carry : alu Addp4 0xffff_ffff 0x4000_0001 ≡ 0x2000_0000_4000_0000
addp4_carry = refl

-- The bits shifted out and the carry past bit 63 are lost.
shladd_wraps : shift_add false 4 0x1fff_ffff_ffff_ffff 0x11 ≡ 1
shladd_wraps = refl

sub1_wraps : alu Sub1 0 0 ≡ 2 ^ 64 - 1
sub1_wraps = refl

-- sub r1=-128,r3: the immediate is the first operand
sub_immediate : (action_of (AluImm8 Sub 1 (negsuc 127) 2) ≡ Compute 1 0 2 (AluImmediate Sub (negsuc 127)))
    × (value_of (AluImmediate Sub (negsuc 127)) 7 1 ≡ 2 ^ 64 - 129)
sub_immediate = (refl, refl)

adds_immediate : (action_of (AddImm14 false 1 (negsuc 0) 2) ≡ Compute 1 0 2 (AluImmediate Add (negsuc 0)))
    × (value_of (AluImmediate Add (negsuc 0)) 7 0 ≡ 2 ^ 64 - 1)
adds_immediate = (refl, refl)

-- 2^63 is the least signed number, and above 2^63 - 1 unsigned.
lt_signed : compared false Lt (2 ^ 63) (2 ^ 63 - 1) ≡ true
lt_signed = refl

lt_unsigned : compared false Ltu (2 ^ 63) (2 ^ 63 - 1) ≡ false
lt_unsigned = refl

-- cmp4 sees no bit from 32 on, and its sign is bit 31.
cmp4_bit_32 : compared true Eq (2 ^ 32 + 5) 5 ≡ true
cmp4_bit_32 = refl

cmp4_sign : compared true Ge (2 ^ 32 - 1) (2 ^ 32) ≡ false
cmp4_sign = refl

-- tbit.z is true where the bit is 0, and has no result where the register has NaT.
tbit_of_bit : (action_of (Tbit false 6 7 8 63) ≡ Test Normal 6 7 0 8 (BitIsZero 63))
    × (result_of (BitIsZero 63) (record { value = 0; nat = false }) (record { value = 2 ^ 63; nat = false }) ≡ Some false)
tbit_of_bit = (refl, refl)

tbit_of_nat : result_of (BitIsZero 63) (record { value = 0; nat = false }) (record { value = 0; nat = true }) ≡ None
tbit_of_nat = refl
