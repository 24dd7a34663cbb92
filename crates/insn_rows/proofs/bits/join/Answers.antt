use Rattle.std.proofs.Common.{arith, ◌+◌}
use Rattle.insn_rows.proofs.Masks.{joined, joined_below, small}
use Rattle.insn_rows.proofs.bits.join.Goals as goal

pub overflow_add-result : goal.overflow_add-result
overflow_add-result c =
    let a = joined c.args.high c.args.low c.args.width c.args.high_width c.requires.room c.requires.high_fits in
    let b =
    small _ (c.args.high_width + c.args.width) c.requires.room (joined_below c.args.high c.args.low c.args.width c.args.high_width
    c.requires.high_fits c.requires.low_fits) in
    record { fits = omega (arith, a, b) }

pub returns-clause-value : goal.returns-clause-value
returns-clause-value c = joined c.args.high c.args.low c.args.width c.args.high_width c.requires.room c.requires.high_fits

pub returns-clause-within : goal.returns-clause-within
returns-clause-within c =
    let a = joined c.args.high c.args.low c.args.width c.args.high_width c.requires.room c.requires.high_fits in
    rw a (joined_below c.args.high c.args.low c.args.width c.args.high_width c.requires.high_fits c.requires.low_fits)
