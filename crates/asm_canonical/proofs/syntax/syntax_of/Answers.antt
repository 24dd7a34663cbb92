use Rattle.std.proofs.Common.{◌∙◌}
use Rattle.asm_canonical.proofs.Written.{syntax_is}
use Rattle.asm_canonical.proofs.syntax.syntax_of.Goals as goal

pub returns : goal.returns
returns c =
    c.syntax_by.ensures ∙ syntax_is c.args.op.now c.default.result c.form_of-row.result c.opcode_of-opcode.result _ _
    c.opcode_of-opcode.ensures c.default.ensures c.values_of-values.ensures c.form_of-row.ensures c.written.ensures
