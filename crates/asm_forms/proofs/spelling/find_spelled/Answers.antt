use Rattle.std.proofs.Common.{◌∙◌, sym, ap}
use Rattle.std.specs.Prelude.{Some}
use Rattle.asm_forms.proofs.RowSpelled.{no_row, own_after, here_at, past_at}
use Rattle.asm_forms.proofs.spelling.find_spelled.Goals as goal

pub returns-then-is_spelled-clause-value : goal.returns-then-is_spelled-clause-value
returns-then-is_spelled-clause-value c =
    let i = c.loop-row.invariant in
    ap Some c.of.ensures
    ∙ sym (here_at c.args.name.now c.args.operands.now c.rows_by_letter-rows.result.now c.loop-row.row-index no_row c.loop-row-test.true
    i.own (sym c.is_spelled.ensures.value ∙ c.if-is_spelled.true))
    ∙ i.value

pub loop-row-preserved : goal.loop-row-preserved
loop-row-preserved c =
    let i = c.loop-row.invariant in
    record {
      value =
          past_at c.args.name.now c.args.operands.now c.rows_by_letter-rows.result.now c.loop-row.row-index no_row c.loop-row-test.true
          i.own (sym c.is_spelled.ensures.value ∙ c.if-is_spelled.false) ∙ i.value;
      own = own_after c.rows_by_letter-rows.result.now c.loop-row.row-index no_row c.loop-row-test.true i.own;
    }
