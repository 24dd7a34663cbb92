-- The words of the long instructions.
use Rattle.std.proofs.Common.{◌≡◌, ℕ, ◌^◌, ◌<◌, sym, ap, ◌∙◌, refl, subst}
use Rattle.ia_insn.specs.declared.insn.Insn.{Insn}
use Rattle.ia_insn.specs.declared.insn.Op.{Op}
use Rattle.ia_insn.specs.declared.insn.Op.TheVariants.{Movl, Break, Nop}
use Rattle.ia_insn.specs.declared.choices.Unit.TheVariants as unit
use Rattle.insn_rows.specs.Arms.{opcode_of}
use Rattle.insn_rows.specs.Rows.{listed}
use Rattle.insn_rows.specs.Codes.{HasRow}
use Rattle.insn_rows.proofs.RowBack.{no_row, code_below, only_insn}
use Rattle.insn_rows.proofs.Laws.{only_word, AsRow, as_row, from_row}
use Rattle.formats_b.specs.PartsX.{slot_op, whole_op, HasNumberInRange}
use Rattle.formats_b.specs.ListedX.{rows, slot_part, CodeX, IsListedX, OneLongInstruction, OneLongWord}
use Rattle.formats_b.specs.RowIndexesX.{row_index_of}
use Rattle.formats_b.proofs.TableX.{are_table, is_row_index_of}
use Rattle.formats_b.proofs.PartsX.{whole_back, IsPart, slot_again, low_again, within_again, low_below}

-- The row of an instruction of the X slot.
pub row_x : (i : Insn) (w : ℕ) → HasRow rows i w → AsRow rows (row_index_of (opcode_of i.op)) i
row_x i w code = as_row rows (row_index_of (opcode_of i.op)) i w (is_row_index_of (opcode_of i.op)) code

is_part : (qp : ℕ) (x : Op) (w : ℕ) → HasRow rows (record { qp = qp; op = x }) w → IsPart x
unfolding rows listed
is_part qp (Movl r1 p) w code = (row_x _ w code).takes.1.1.0
is_part qp (Break unit.X p) w code = (row_x _ w code).takes.1.0
is_part qp (Break u p) w code = absurd (row_x _ w code)
is_part qp (Nop unit.X p) w code = (row_x _ w code).takes.1.0
is_part qp (Nop u p) w code = absurd (row_x _ w code)
is_part qp x w code = absurd (row_x _ w code)

-- The whole of the part that the word of the X slot has is the instruction.
pub whole_found : (part : Insn) (l w : ℕ) → l < 2 ^ 41 → HasRow rows part w → CodeX (record { qp = part.qp; op = whole_op l part.op }) l w
whole_found part l w fits code =
    let p = is_part part.qp part.op w code in
    let P : Op → Type 0 = λ x. HasRow rows (record { qp = part.qp; op = x }) w in
    record {
      code = subst P (sym (slot_again l part.op fits p)) code;
      low = sym (low_again l part.op fits p);
      within = within_again l part.op fits p;
    }

pub whole_only : (i : Insn) (l w : ℕ) → CodeX i l w → record { qp = i.qp; op = whole_op l (slot_op i.op) } ≡ i
whole_only i l w code =
    ap (λ (x : Op). record { qp = i.qp; op = x }) (ap (λ low. whole_op low (slot_op i.op)) code.low ∙ whole_back i.op code.within)

pub l_below : (i : Insn) (l w : ℕ) → CodeX i l w → l < 2 ^ 41
l_below i l w code = let P : ℕ → Type 0 = λ n. n < 2 ^ 41 in subst P (sym code.low) (low_below i.op)

pub word_below : (i : Insn) (l w : ℕ) → CodeX i l w → w < 2 ^ 41
word_below i l w code = code_below rows (slot_part i) w no_row are_table code.code

pub part_below : (part : Insn) (w : ℕ) → HasRow rows part w → w < 2 ^ 41
part_below part w code = code_below rows part w no_row are_table code

pub one_insn : OneLongInstruction
one_insn l w i j of-i of-j =
    let same : slot_part i ≡ slot_part j = only_insn rows (slot_part i) (slot_part j) w no_row are_table of-i.code of-j.code in
    sym (whole_only i l w of-i) ∙ ap (λ (p : Insn). record { qp = p.qp; op = whole_op l p.op }) same ∙ whole_only j l w of-j

pub one_word : OneLongWord
one_word i l m v w of-v of-w = (
  of-v.low ∙ sym of-w.low,
  only_word rows (row_index_of (opcode_of (slot_op i.op)))
      (slot_part i) v w (is_row_index_of (opcode_of (slot_op i.op))) of-v.code of-w.code,
)

-- A listed instruction has a row for its part, and its immediate has its bits.
pub row_of_x : (i : Insn) → IsListedX i → AsRow rows (row_index_of (opcode_of (slot_op i.op))) (slot_part i) × HasNumberInRange i.op
row_of_x i l = (row_x (slot_part i) l.0 l.1.code, l.1.within)

pub of_row_x : (i : Insn) → AsRow rows (row_index_of (opcode_of (slot_op i.op))) (slot_part i) → HasNumberInRange i.op → IsListedX i
of_row_x i h within =
    let l = from_row rows (row_index_of (opcode_of (slot_op i.op))) (slot_part i) (is_row_index_of (opcode_of (slot_op i.op))) h in
    (l.0, record { code = l.1; low = refl; within = within })
