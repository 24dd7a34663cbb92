-- A listed instruction is printed with registers and numbers that are in their ranges.
use Rattle.std.proofs.Common.{◌≡◌, refl, sym, subst, lit<, arith, inl, inr, ℕ, ◌<◌, List, ◌∷◌, drop}
use Rattle.std.specs.List.{AllByRecursion}
use Rattle.ia_insn.specs.declared.insn.Insn.{Insn}
use Rattle.ia_insn.specs.declared.insn.Op.{Op}
use Rattle.ia_insn.specs.declared.insn.Op.TheVariants as op
use Rattle.insn_rows.specs.declared.value.Value.{Value}
use Rattle.insn_rows.specs.declared.value.Value.TheVariants as v
use Rattle.insn_rows.specs.Arms.{opcode_of, operands_of as values_under}
use Rattle.insn_rows.specs.Values.{at}
use Rattle.formats_a.specs.Listed.{rows as rows_a}
use Rattle.formats_a.proofs.Table.{are_table as table_a}
use Rattle.formats_i.specs.Listed.{rows as rows_i}
use Rattle.formats_i.proofs.Table.{are_table as table_i}
use Rattle.formats_m.specs.Listed.{rows as rows_m}
use Rattle.formats_m.proofs.Table.{are_table as table_m}
use Rattle.formats_b.specs.ListedB.{rows as rows_b}
use Rattle.formats_b.proofs.TableB.{are_table as table_b}
use Rattle.formats_b.specs.ListedF.{rows as rows_f}
use Rattle.formats_b.proofs.TableF.{are_table as table_f}
use Rattle.formats_b.specs.ListedX.{rows as rows_x, slot_part}
use Rattle.formats_b.proofs.TableX.{are_table as table_x}
use Rattle.formats_b.specs.PartsX.{slot_op, HasNumberInRange}
use Rattle.ia_program.specs.Listed.{IsListed}
use Rattle.asm_forms.specs.Rows.{row_of}
use Rattle.asm_canonical.specs.Canonical.{form_of}
use Rattle.asm_canonical.proofs.InRange.{IsInRange, IsTokenInRange, listed_in_range, printed_in_range}
use Rattle.asm_canonical.proofs.Written.{operands_of}

-- A long instruction, whose row has a part of its immediate.
whole_in_range : (qp : ℕ) (x : Op) → AllByRecursion IsInRange (values_under qp (slot_op x)) → HasNumberInRange x
    → AllByRecursion IsInRange (values_under qp x)
whole_in_range qp (op.Movl r1 imm) h within = (h.0, (h.1.0, (within, (tt, (tt, (tt, (tt, tt)))))))
whole_in_range qp (op.Break u imm) h within = (h.0, (omega (arith, within), (tt, (tt, (tt, (tt, (tt, tt)))))))
whole_in_range qp (op.Nop u imm) h within = (h.0, (omega (arith, within), (tt, (tt, (tt, (tt, (tt, tt)))))))
whole_in_range qp x h within = h

values_in_range : (i : Insn) → IsListed i → AllByRecursion IsInRange (values_under i.qp i.op)
values_in_range i (inl l) = listed_in_range rows_a i table_a l
values_in_range i (inr (inl l)) = listed_in_range rows_i i table_i l
values_in_range i (inr (inr (inl l))) = listed_in_range rows_m i table_m l
values_in_range i (inr (inr (inr (inl l)))) = listed_in_range rows_b i table_b l
values_in_range i (inr (inr (inr (inr (inl l))))) = listed_in_range rows_f i table_f l
values_in_range i (inr (inr (inr (inr (inr l))))) =
    whole_in_range i.qp i.op (listed_in_range rows_x (slot_part i) table_x (l.0, l.1.code)) l.1.within

-- The predicate is the first value, and the others are without it the same.
pub values_first : (qp : ℕ) (x : Op) → values_under qp x ≡ v.Pr qp ∷ drop 1 (values_under 0 x)
values_first qp op.Mf = refl
values_first qp x = refl

first_again : (x : Op) → values_under 0 x ≡ v.Pr 0 ∷ drop 1 (values_under 0 x)
first_again x = values_first 0 x

pub printed : (i : Insn) → IsListed i → (i.qp < 64) × AllByRecursion IsTokenInRange (operands_of i.op)
printed i l =
    let All : List Value → Type 0 = AllByRecursion IsInRange in
    let h = subst All (values_first i.qp i.op) (values_in_range i l) in
    let other = subst All (sym (first_again i.op)) (lit< tt, h.1) in (
      h.0,
      printed_in_range (row_of (form_of (opcode_of i.op) (at (values_under 0 i.op)))).items (opcode_of i.op)
          (values_under 0 i.op) other,
    )
