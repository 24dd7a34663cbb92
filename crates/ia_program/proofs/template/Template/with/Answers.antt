use Rattle.std.proofs.Common.{◌<◌, arith}
use Rattle.ia_program.proofs.TemplateCodes.{code_small}
use Rattle.ia_program.proofs.template.Template.with.Goals as goal

pub returns : goal.returns
returns c code is shape =
    let small : code < 32 = code_small code is in
    let below : code < c.loop-code.code = omega arith in
    c.loop-code.invariant code below is shape
