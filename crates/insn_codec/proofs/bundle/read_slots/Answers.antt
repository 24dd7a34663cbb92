use Rattle.std.proofs.Common.{rules}
use Rattle.std.specs.Prelude.{◌≡◌, ◌≢◌}
use Rattle.std.proofs.lemmas.Result.{err_from_is_err_and}
use Rattle.ia_insn.specs.declared.choices.Unit.TheVariants.{L}
use Rattle.insn_codec.proofs.Faults.{long_unlisted, second_unlisted, third_unlisted}
use Rattle.insn_codec.proofs.bundle.read_slots.Goals as goal

pub returns-in_err-third-clause-fault : goal.returns-in_err-third-clause-fault
returns-in_err-third-clause-fault c =
    let other : c.args.v ≢ L = search rules in
    let p = err_from_is_err_and c.from_residual-in_err-third.result c.from_residual-in_err-third.ensures.1 in
    let why = c.in_err-third.ensures.fault in
    rw (p.1, p.2) (third_unlisted c.args.u c.args.v c.args.w c.args.words.now c.in_err-third.field-0.0 other
    (c.in_ok-first.first, c.in_ok-first.ensures.found) (c.in_ok-second.second, c.in_ok-second.ensures.found) why.0 why.1)

pub returns-in_err-long-clause-fault : goal.returns-in_err-long-clause-fault
returns-in_err-long-clause-fault c =
    let long : c.args.v ≡ L = search rules in
    let p = err_from_is_err_and c.from_residual-in_err-long.result c.from_residual-in_err-long.ensures.1 in
    let why = c.in_err-long.ensures.fault in
    rw (p.1, p.2) (long_unlisted c.args.u c.args.v c.args.w c.args.words.now c.in_err-long.field-0.0 long
    (c.in_ok-first.first, c.in_ok-first.ensures.found) why.0 why.1)

pub returns-in_err-second-clause-fault : goal.returns-in_err-second-clause-fault
returns-in_err-second-clause-fault c =
    let other : c.args.v ≢ L = search rules in
    let p = err_from_is_err_and c.from_residual-in_err-second.result c.from_residual-in_err-second.ensures.1 in
    let why = c.in_err-second.ensures.fault in
    rw (p.1, p.2) (second_unlisted c.args.u c.args.v c.args.w c.args.words.now c.in_err-second.field-0.0 other
    (c.in_ok-first.first, c.in_ok-first.ensures.found) why.0 why.1)
