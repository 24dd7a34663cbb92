-- It is decided whether an instruction is listed.
use Rattle.std.proofs.Common.{◌^◌}
use Rattle.std.proofs.Math.Decide.{dec_lt}
use Rattle.ia_insn.specs.declared.insn.Insn.{Insn}
use Rattle.ia_insn.specs.declared.insn.Op.{Op}
use Rattle.ia_insn.specs.declared.insn.Op.TheVariants.{Movl, Break, Nop}
use Rattle.insn_rows.specs.Arms.{opcode_of}
use Rattle.insn_rows.proofs.Decided.{alike, either, both}
use Rattle.insn_rows.proofs.DecidedRows.{as_row_decided, listed_by}
use Rattle.formats_a.specs.Listed.{rows as rows_a, IsListedA}
use Rattle.formats_a.specs.RowIndexes.{row_index_of as row_index_a}
use Rattle.formats_a.proofs.Table.{is_row_index_of as is_row_index_a}
use Rattle.formats_i.specs.Listed.{rows as rows_i, IsListedI}
use Rattle.formats_i.specs.RowIndexes.{row_index_of as row_index_i}
use Rattle.formats_i.proofs.Table.{is_row_index_of as is_row_index_i}
use Rattle.formats_m.specs.Listed.{rows as rows_m, IsListedM}
use Rattle.formats_m.specs.RowIndexes.{row_index_of as row_index_m}
use Rattle.formats_m.proofs.Table.{is_row_index_of as is_row_index_m}
use Rattle.formats_b.specs.ListedB.{rows as rows_b, IsListedB}
use Rattle.formats_b.specs.RowIndexesB.{row_index_of as row_index_b}
use Rattle.formats_b.proofs.TableB.{is_row_index_of as is_row_index_b}
use Rattle.formats_b.specs.ListedF.{rows as rows_f, IsListedF}
use Rattle.formats_b.specs.RowIndexesF.{row_index_of as row_index_f}
use Rattle.formats_b.proofs.TableF.{is_row_index_of as is_row_index_f}
use Rattle.formats_b.specs.ListedX.{rows as rows_x, slot_part, IsListedX}
use Rattle.formats_b.specs.RowIndexesX.{row_index_of as row_index_x}
use Rattle.formats_b.specs.PartsX.{slot_op, HasNumberInRange}
use Rattle.formats_b.proofs.WordsX.{row_of_x, of_row_x}
use Rattle.ia_program.specs.Listed.{IsListed}

pub listed_a : (i : Insn) → Dec (IsListedA i)
listed_a i = listed_by rows_a (row_index_a (opcode_of i.op)) i (is_row_index_a (opcode_of i.op))

pub listed_i : (i : Insn) → Dec (IsListedI i)
listed_i i = listed_by rows_i (row_index_i (opcode_of i.op)) i (is_row_index_i (opcode_of i.op))

pub listed_m : (i : Insn) → Dec (IsListedM i)
listed_m i = listed_by rows_m (row_index_m (opcode_of i.op)) i (is_row_index_m (opcode_of i.op))

pub listed_b : (i : Insn) → Dec (IsListedB i)
listed_b i = listed_by rows_b (row_index_b (opcode_of i.op)) i (is_row_index_b (opcode_of i.op))

pub listed_f : (i : Insn) → Dec (IsListedF i)
listed_f i = listed_by rows_f (row_index_f (opcode_of i.op)) i (is_row_index_f (opcode_of i.op))

within : (x : Op) → Dec (HasNumberInRange x)
within (Movl r1 imm) = dec_lt imm (2 ^ 64)
within (Break unit imm) = dec_lt imm (2 ^ 62)
within (Nop unit imm) = dec_lt imm (2 ^ 62)
within x = yes tt

pub listed_x : (i : Insn) → Dec (IsListedX i)
listed_x i =
    alike (both (as_row_decided rows_x (row_index_x (opcode_of (slot_op i.op))) (slot_part i)) (within i.op)) (λ h. of_row_x i h.0 h.1)
    (row_of_x i)

pub listed : (i : Insn) → Dec (IsListed i)
listed i = either (listed_a i) (either (listed_i i) (either (listed_m i) (either (listed_b i) (either (listed_f i) (listed_x i)))))
