-- The target of a listed instruction is near its bundle.
use Rattle.std.proofs.Common.{ℕ, suc, ◌<◌, ◌≤◌, ◌-◌, ◌^◌, true, false, cond, ltb, ℤ, pos, negsuc, ◌+ℤ◌, arith}
use Rattle.std.specs.Prelude.{IfSome}
use lib.IntN.{sub_ℕ}
use Rattle.ia_insn.specs.declared.insn.Op.{Op}
use Rattle.ia_insn.specs.declared.insn.Op.TheVariants as op
use Rattle.ia_insn.specs.Ranges.{HasRanges}
use Rattle.ia_insn.specs.Signed.{FitsSigned}
use Rattle.asm_printing.specs.SlotTexts.{target_of, natural_of}

fewer : (a b : ℕ) → natural_of (sub_ℕ a b) ≤ a
fewer a b =
    elim (ltb a b) as (λ less. natural_of (cond less (negsuc (b - suc a)) (pos (a - b))) ≤ a) [ true ↦ omega arith | false ↦ omega arith ]

near : (bundle : ℕ) (disp : ℤ) → bundle < 2 ^ 32 → FitsSigned 21 disp → natural_of (pos bundle +ℤ disp) < 2 ^ 34
near bundle (pos n) b h = omega (arith, b, h)
near bundle (negsuc n) b h = omega (arith, b, fewer bundle (suc n))

pub target_is_near : (bundle : ℕ) (x : Op) → bundle < 2 ^ 32 → HasRanges x → IfSome (target_of bundle x) (λ n. n < 2 ^ 34)
target_is_near bundle (op.ChkS u r2 disp) b h = near bundle disp b h.1
target_is_near bundle (op.ChkA clear r1 disp) b h = near bundle disp b h
target_is_near bundle (op.Br kind wh many clr disp) b h = near bundle disp b h.1
target_is_near bundle (op.BrCall b1 wh many clr disp) b h = near bundle disp b h.1
target_is_near bundle x b h = tt
