-- The instruction of a draft is listed, also where its unit letter was missing.
use Rattle.std.proofs.Common.{inl, inr, refl, ℕ, ◌^◌, ◌<◌, Bool, true, false, ℤ, arith}
use Rattle.std.specs.Prelude.{IsTrue, if◌then◌else◌}
use Rattle.ia_insn.specs.declared.choices.Unit.{Unit as ExecutionUnit}
use Rattle.ia_insn.specs.declared.choices.Unit.TheVariants as unit
use Rattle.ia_insn.specs.declared.insn.Insn.{Insn}
use Rattle.ia_insn.specs.declared.insn.Op.{Op}
use Rattle.ia_insn.specs.declared.insn.Op.TheVariants as op
use Rattle.ia_insn.specs.Ranges.{IsHintOf}
use Rattle.ia_insn.specs.Signed.{FitsSigned}
use Rattle.insn_rows.specs.Arms.{opcode_of}
use Rattle.insn_rows.specs.Rows.{listed}
use Rattle.insn_rows.proofs.Laws.{AsRow}
use Rattle.formats_i.specs.Listed.{rows as rows_i}
use Rattle.formats_i.specs.RowIndexes.{row_index_of as row_index_i}
use Rattle.formats_i.proofs.Words.{of_row_i}
use Rattle.formats_m.specs.Listed.{rows as rows_m}
use Rattle.formats_m.specs.RowIndexes.{row_index_of as row_index_m}
use Rattle.formats_m.proofs.Words.{of_row_m}
use Rattle.ia_program.specs.Listed.{IsListed}
use Rattle.ia_program.proofs.OperandRanges.{ranges_of_listed}
use Rattle.asm_canonical.proofs.Printed.{printed}
use Rattle.asm_reading.specs.declared.line.Draft.{Draft}
use Rattle.asm_build.specs.Drafts.{lettered}
use Rattle.loose_items.specs.Units.{bare_unit}
use Rattle.loose_text.specs.LooseParts.{insn_of, IsNarrow}

-- An operation of unit I with a narrow number has a row, and so has a check of unit M.
break_row : (qp imm : ℕ) → qp < 64 → imm < 2 ^ 21 → AsRow rows_i (row_index_i (opcode_of (op.Break unit.I imm)))
    (record { qp = qp; op = op.Break unit.I imm })
unfolding rows_i listed
break_row qp imm small narrow = grind arith

nop_row : (qp imm : ℕ) → qp < 64 → imm < 2 ^ 21 → AsRow rows_i (row_index_i (opcode_of (op.Nop unit.I imm)))
    (record { qp = qp; op = op.Nop unit.I imm })
unfolding rows_i listed
nop_row qp imm small narrow = grind arith

hint_row : (qp imm : ℕ) → qp < 64 → imm < 2 ^ 21 → AsRow rows_i (row_index_i (opcode_of (op.Hint unit.I imm)))
    (record { qp = qp; op = op.Hint unit.I imm })
unfolding rows_i listed
hint_row qp imm small narrow = grind arith

check_row : (qp r2 : ℕ) (disp : ℤ) → qp < 64 → r2 < 128 → FitsSigned 21 disp
    → AsRow rows_m (row_index_m (opcode_of (op.ChkS unit.M r2 disp))) (record { qp = qp; op = op.ChkS unit.M r2 disp })
unfolding rows_m listed
check_row qp r2 disp small register near = grind arith

-- The number of a hint is narrow.
narrow_hint : (u : ExecutionUnit) (imm : ℕ) → IsHintOf u imm → imm < 2 ^ 21
narrow_hint u imm h = grind arith

-- An operation without its unit letter, with the unit that it has then.
bare_listed : (qp : ℕ) (x : Op) → IsNarrow x → IsListed (record { qp = qp; op = x })
    → IsListed (record { qp = qp; op = lettered (bare_unit x) x })
bare_listed qp (op.Break u imm) narrow l = inr (inl (of_row_i _ (break_row qp imm (printed _ l).0 narrow)))
bare_listed qp (op.Nop u imm) narrow l = inr (inl (of_row_i _ (nop_row qp imm (printed _ l).0 narrow)))
bare_listed qp (op.Hint u imm) narrow l =
    inr (inl (of_row_i _ (hint_row qp imm (printed _ l).0 (narrow_hint u imm (ranges_of_listed _ l)))))
bare_listed qp (op.ChkS u r2 disp) narrow l =
    let p = printed (record { qp = qp; op = op.ChkS u r2 disp }) l in
    inr (inr (inl (of_row_m _ (check_row qp r2 disp p.0 p.1.0 (ranges_of_listed (record { qp = qp; op = op.ChkS u r2 disp }) l).1))))
bare_listed qp x narrow l = l

insn_is_listed : (bare : Bool) (i : Insn) → IsListed i → (IsTrue bare → IsNarrow i.op)
    → IsListed (if bare then record { qp = i.qp; op = lettered (bare_unit i.op) i.op } else i)
insn_is_listed true i listed narrow = bare_listed i.qp i.op (narrow refl) listed
insn_is_listed false i listed narrow = listed

pub draft_listed : (d : Draft) → IsListed d.insn → (IsTrue d.bare → IsNarrow d.insn.op) → IsListed (insn_of d)
draft_listed d listed narrow = insn_is_listed d.bare d.insn listed narrow
