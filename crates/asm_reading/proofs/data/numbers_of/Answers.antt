use Rattle.std.proofs.Common.{◌∙◌, ◌*◌, ◌^◌, arith}
use Rattle.asm_instructions.specs.Operands.{bytes}
use Rattle.asm_reading.proofs.DataLines.{one_more}
use Rattle.asm_reading.proofs.data.numbers_of.Goals as goal

pub loop-at-preserved : goal.loop-at-preserved
loop-at-preserved c = record {
  room = omega (arith, c.push.ensures.len, c.loop-at.invariant.room);
  value =
      one_more (2 ^ (8 * bytes c.args.size)) c.args.tokens.now c.loop-at.at c.index-tokens-at.result _ _ c.number_of.result
      c.loop-at-test.true c.index-tokens-at.is c.number_of.ensures c.push.ensures.items
      ∙ c.loop-at.invariant.value;
}
