use Rattle.std.proofs.Common.{arith, rules, inr, ap, length, ◌≡◌, sym}
use Rattle.asm_build.specs.declared.reason.Reason.TheVariants.{Limit}
use Rattle.asm_build.proofs.ValueFaults.{data_full}
use Rattle.asm_build.proofs.text_parts.TextParts.numbers.Goals as goal

pub returns-then-len-numbers-gt-DATA_LIMIT-clause-err : goal.returns-then-len-numbers-gt-DATA_LIMIT-clause-err
returns-then-len-numbers-gt-DATA_LIMIT-clause-err c =
    let len : c.len.result ≡ length c.self.inside.data.items = search rules in
    inr (
      Limit,
      c.fault-then-len-numbers-gt-DATA_LIMIT.ensures,
      data_full c.args.self.now c.args.size c.args.values.now
          (length c.numbers-numbers.result.now) c.min-size.result (search rules) (ap length c.numbers-numbers.ensures.value) (search rules)
          (rw (sym c.self.view_is) (omega (arith, len, c.if-len-numbers-gt-DATA_LIMIT.true))),
    )
