use Rattle.std.proofs.Common.{List, Some, sym, ap, ◌∙◌, subst}
use Rattle.ia_insn.specs.declared.insn.Insn.{Insn}
use Rattle.insn_rows.specs.declared.value.Value.{Value}
use Rattle.insn_rows.specs.Values.{at}
use Rattle.insn_rows.specs.Rows.{HasWord, operands}
use Rattle.insn_rows.specs.Reading.{read}
use Rattle.insn_rows.specs.ArmsBack.{insn_of}
use Rattle.insn_rows.specs.Codes.{IsOfRow}
use Rattle.insn_rows.proofs.RowBack.{read_found, read_only, no_values}
use Rattle.insn_rows.proofs.codec.decode_by.Goals as goal

pub returns-then-read_row-clause-found : goal.returns-then-read_row-clause-found
returns-then-read_row-clause-found c =
    let same = c.read_row.ensures.values in
    let P : List Value → Type 0 = λ xs. HasWord c.args.row.now xs in
    let Q : Insn → Type 0 = λ i. IsOfRow c.args.row.now i c.args.word in
    let has = subst P same (c.read_row.ensures.has.0 c.if-read_row.true) in
    let e = ap (λ xs. insn_of c.args.row.now.opcode (at xs)) (sym same) ∙ sym c.insn_of.ensures in
    subst Q e (read_found c.args.row.now c.args.word c.ranges.word.fits c.requires.made c.requires.matches has)

pub returns-else-read_row-clause-only : goal.returns-else-read_row-clause-only
returns-else-read_row-clause-only c = λ i code.
    let P : List Value → Type 0 = λ xs. HasWord c.args.row.now xs in
    let none : HasWord c.args.row.now (read (operands c.args.row.now) c.args.word) → ⊥ =
    λ has. let t = c.read_row.ensures.has.1 (subst P (sym c.read_row.ensures.values) has) in absurd (cc) in
    absurd (no_values c.args.row.now i c.args.word c.requires.made none code)

pub returns-then-read_row-clause-only : goal.returns-then-read_row-clause-only
returns-then-read_row-clause-only c = λ i code.
    let e = ap (λ xs. insn_of c.args.row.now.opcode (at xs)) (sym c.read_row.ensures.values) ∙ sym c.insn_of.ensures in
    ap Some (sym e ∙ read_only c.args.row.now i c.args.word c.requires.made code)
