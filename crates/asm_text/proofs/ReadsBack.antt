-- Each listed instruction is read back as it is printed.
use Rattle.std.proofs.Common.{◌≡◌, refl, sym, ◌∙◌, inl, inr, ℕ, true, false, get_or}
use Rattle.std.specs.List.{list_all}
use Rattle.ia_insn.specs.declared.insn.Insn.{Insn}
use Rattle.ia_insn.specs.declared.insn.Op.{Op}
use Rattle.ia_insn.specs.declared.insn.Op.TheVariants as op
use Rattle.ia_insn.specs.Ranges.{HasRanges}
use Rattle.insn_rows.specs.Arms.{opcode_of}
use Rattle.insn_rows.specs.Codes.{IsListedBy}
use Rattle.insn_rows.specs.Rows.{listed}
use Rattle.insn_rows.proofs.RowBack.{no_row}
use Rattle.insn_rows.proofs.RowWords.{all_get}
use Rattle.formats_a.specs.Listed.{rows as rows_a}
use Rattle.formats_i.specs.Listed.{rows as rows_i}
use Rattle.formats_m.specs.Listed.{rows as rows_m}
use Rattle.formats_b.specs.ListedB.{rows as rows_b}
use Rattle.formats_b.specs.ListedF.{rows as rows_f}
use Rattle.formats_b.specs.ListedX.{rows as rows_x, slot_part}
use Rattle.formats_b.specs.PartsX.{slot_op}
use Rattle.ia_program.specs.Listed.{IsListed}
use Rattle.asm_text.proofs.FormsBack.{begun, said_by, moved}
use Rattle.asm_text.proofs.FormFound.{is_apart, row_agrees, OpcodesBack, listed_back}
use Rattle.asm_text.proofs.ReadsApart.{alloc_back, movl_back, break_back, nop_back}
use Rattle.asm_text.proofs.WayBack.{ReadsBack}

agree_a : list_all row_agrees rows_a ≡ true
unfolding rows_a listed
agree_a = refl

opcodes_a : OpcodesBack rows_a
unfolding rows_a listed begun said_by moved
opcodes_a = refl

agree_i : list_all row_agrees rows_i ≡ true
unfolding rows_i listed
agree_i = refl

opcodes_i : OpcodesBack rows_i
unfolding rows_i listed begun said_by moved
opcodes_i = refl

agree_m : list_all row_agrees rows_m ≡ true
unfolding rows_m listed
agree_m = refl

opcodes_m : OpcodesBack rows_m
unfolding rows_m listed begun said_by moved
opcodes_m = refl

agree_b : list_all row_agrees rows_b ≡ true
unfolding rows_b listed
agree_b = refl

opcodes_b : OpcodesBack rows_b
unfolding rows_b listed begun said_by moved
opcodes_b = refl

agree_f : list_all row_agrees rows_f ≡ true
unfolding rows_f listed
agree_f = refl

opcodes_f : OpcodesBack rows_f
unfolding rows_f listed begun said_by moved
opcodes_f = refl

-- The rows of long instructions are read back by themselves.
all_apart : list_all (λ r. is_apart r.opcode) rows_x ≡ true
unfolding rows_x
all_apart = refl

slot_apart : (x : Op) → is_apart (opcode_of (slot_op x)) ≡ is_apart (opcode_of x)
slot_apart (op.Movl r1 imm) = refl
slot_apart (op.Break u imm) = refl
slot_apart (op.Nop u imm) = refl
slot_apart x = refl

long_is_apart : (i : Insn) → IsListedBy rows_x (slot_part i) → is_apart (opcode_of i.op) ≡ true
long_is_apart i l =
    let h : is_apart (get_or rows_x l.1.row_index no_row).opcode ≡ true =
    all_get (λ r. is_apart r.opcode) rows_x l.1.row_index no_row l.1.inside all_apart in
    sym (slot_apart i.op) ∙ (rw ((l.1.row no_row).opcode) at h)

by_row : (i : Insn) → IsListed i → is_apart (opcode_of i.op) ≡ false → ReadsBack i.op
by_row i (inl l) h = listed_back rows_a i agree_a opcodes_a l h
by_row i (inr (inl l)) h = listed_back rows_i i agree_i opcodes_i l h
by_row i (inr (inr (inl l))) h = listed_back rows_m i agree_m opcodes_m l h
by_row i (inr (inr (inr (inl l)))) h = listed_back rows_b i agree_b opcodes_b l h
by_row i (inr (inr (inr (inr (inl l))))) h = listed_back rows_f i agree_f opcodes_f l h
by_row i (inr (inr (inr (inr (inr l))))) h = let t = long_is_apart i (l.0, l.1.code) in cc

pub reads_back : (qp : ℕ) (x : Op) → IsListed (record { qp = qp; op = x }) → HasRanges x → ReadsBack x
reads_back qp (op.Alloc r1 sof sol sor) l h = alloc_back r1 sof sol sor h.1 h.2 h.3
reads_back qp (op.Movl r1 imm) l h = movl_back r1 imm h.1
reads_back qp (op.Break u imm) l h = break_back u imm h
reads_back qp (op.Nop u imm) l h = nop_back u imm h
reads_back qp x l h = by_row (record { qp = qp; op = x }) l refl
