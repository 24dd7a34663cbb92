use Rattle.std.proofs.Common.{refl, arith}
use Rattle.insn_rows.proofs.RowBack.{no_row, table_made, row_found, code_below}
use Rattle.insn_rows.proofs.Indexed.{inside_at, none_at}
use Rattle.insn_rows.proofs.codec.decode_with.Goals as goal

pub returns-then-word-clause-only : goal.returns-then-word-clause-only
returns-then-word-clause-only c =
    λ i code. let below = code_below c.args.rows.now i c.args.word no_row c.requires.table code in
    absurd (omega (arith, below, c.if-word.true))

pub find_row-requires : goal.find_row-requires
find_row-requires c = inside_at c.args.rows.now c.args.index.now _ _ c.requires.index (omega (arith, c.told-index, c.if-word.false))

pub decode_by-requires-clause-made : goal.decode_by-requires-clause-made
decode_by-requires-clause-made c = table_made c.args.rows.now c.in-Some.n _ c.requires.table c.in-Some.ensures.found.0

pub returns-in-Some-clause-only : goal.returns-in-Some-clause-only
returns-in-Some-clause-only c =
    λ i code. c.decode_by.ensures.only i (row_found c.args.rows.now i c.args.word c.in-Some.n _ c.requires.table code
    c.in-Some.ensures.found.0 (c.in-Some.ensures.found.1 _))

pub returns-in-None-clause-only : goal.returns-in-None-clause-only
returns-in-None-clause-only c =
    λ i code. absurd (none_at c.args.rows.now c.args.index.now i c.args.word _ c.requires.table c.requires.index
    (omega (arith, c.told-index, c.if-word.false)) (c.in-None.ensures.none refl) code)
