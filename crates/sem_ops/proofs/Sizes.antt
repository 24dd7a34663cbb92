-- An exchange or a fetch-and-add that is listed is of 1, 2, 4 or 8 bytes.
use Rattle.std.proofs.Common.{ℕ, arith}
use Rattle.ia_insn.specs.declared.insn.Insn.{Insn}
use Rattle.ia_insn.specs.declared.insn.Op.{Op}
use Rattle.ia_insn.specs.declared.insn.Op.TheVariants.{Xchg, FetchAdd}
use Rattle.ia_insn.specs.Ranges.{IsAccessSize}
use Rattle.insn_rows.specs.Arms.{opcode_of}
use Rattle.insn_rows.specs.Rows.{listed}
use Rattle.insn_rows.proofs.Laws.{AsRow}
use Rattle.formats_m.specs.Listed.{rows, IsListedM}
use Rattle.formats_m.specs.RowIndexes.{row_index_of}
use Rattle.formats_m.proofs.Words.{row_m}

abbrev pub HasSize : Op → Type 0
HasSize (Xchg size hint r1 r3 r2) = IsAccessSize size
HasSize (FetchAdd size release hint r1 r3 inc) = IsAccessSize size
HasSize op = Unit {0}

sized : (qp : ℕ) (x : Op) → AsRow rows (row_index_of (opcode_of x)) (record { qp = qp; op = x }) → HasSize x
unfolding rows listed
sized qp x h = grind arith

pub has_size : (i : Insn) → IsListedM i → HasSize i.op
has_size i l = sized i.qp i.op (row_m i l)
