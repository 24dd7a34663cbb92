use Rattle.std.proofs.Common.{arith, length, ◌-◌}
use Rattle.asm_forms.proofs.NameEnds.{differ_at}
use Rattle.asm_forms.proofs.naming.differ_at_the_end.Goals as goal

pub returns-else-text-name-clause-value : goal.returns-else-text-name-clause-value
returns-else-text-name-clause-value c other =
    let some = c.in-len1-up.len_at_least in
    differ_at c.args.name.now c.args.text.now (length c.args.text.now - 1) (omega (arith, some))
    (omega (arith, some, c.if-text-name.false)) other
