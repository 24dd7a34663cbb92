use Rattle.std.proofs.Common.{ℕ, Option, subst}
use Rattle.insn_rows.specs.Codes.{IsRowIndexOf}
use Rattle.insn_rows.specs.Arms.{opcode_of}
use Rattle.insn_rows.proofs.RowBack.{no_row, table_made, no_row_index}
use Rattle.insn_rows.proofs.codec.encode_with.Goals as goal

pub has_word-requires : goal.has_word-requires
has_word-requires c =
    let P : Option ℕ → Type 0 = λ p. IsRowIndexOf c.args.rows.now p (opcode_of c.args.insn.now.op) in
    table_made c.args.rows.now c.in-Some.n _ c.requires.table (subst P c.in-Some.is c.requires.row_index).0

pub word_by-requires-clause-made : goal.word_by-requires-clause-made
word_by-requires-clause-made c =
    let P : Option ℕ → Type 0 = λ p. IsRowIndexOf c.args.rows.now p (opcode_of c.args.insn.now.op) in
    table_made c.args.rows.now c.in-Some.n _ c.requires.table (subst P c.in-Some.is c.requires.row_index).0

pub returns-in-None-clause-listed : goal.returns-in-None-clause-listed
returns-in-None-clause-listed c =
    let P : Option ℕ → Type 0 = λ p. IsRowIndexOf c.args.rows.now p (opcode_of c.args.insn.now.op) in (
      λ h. absurd (cc),
      λ l. absurd (no_row_index c.args.rows.now c.args.insn.now l.0 no_row (subst P c.in-None.is c.requires.row_index)
          l.1),
    )

pub returns-in-None-clause-only : goal.returns-in-None-clause-only
returns-in-None-clause-only c = λ w code.
    let P : Option ℕ → Type 0 = λ p. IsRowIndexOf c.args.rows.now p (opcode_of c.args.insn.now.op) in
    absurd (no_row_index c.args.rows.now c.args.insn.now w no_row (subst P c.in-None.is c.requires.row_index) code)
