use Rattle.std.proofs.Common.{ℕ, Option, subst}
use Rattle.insn_rows.specs.Codes.{IsRowIndexOf}
use Rattle.insn_rows.specs.Arms.{opcode_of}
use Rattle.insn_rows.proofs.RowBack.{table_made, has_row_index, has_values}
use Rattle.insn_rows.proofs.codec.word_with.Goals as goal

pub unwrap-n-requires : goal.unwrap-n-requires
unwrap-n-requires c =
    has_row_index c.args.rows.now c.args.row_index c.args.insn.now c.requires.listed.0 c.requires.row_index c.requires.listed.1

pub word_by-requires-clause-made : goal.word_by-requires-clause-made
word_by-requires-clause-made c =
    let P : Option ℕ → Type 0 = λ p. IsRowIndexOf c.args.rows.now p (opcode_of c.args.insn.now.op) in
    table_made c.args.rows.now c.unwrap-n.result _ c.requires.table (subst P c.unwrap-n.ensures c.requires.row_index).0

pub word_by-requires-clause-listed : goal.word_by-requires-clause-listed
word_by-requires-clause-listed c =
    let P : Option ℕ → Type 0 = λ p. IsRowIndexOf c.args.rows.now p (opcode_of c.args.insn.now.op) in
    has_values c.args.rows.now c.args.insn.now c.requires.listed.0 c.unwrap-n.result _ c.values_of.result
    (subst P c.unwrap-n.ensures c.requires.row_index) c.requires.listed.1 c.values_of.ensures
