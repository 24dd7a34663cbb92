use Rattle.std.proofs.Common.{rules}
use Rattle.asm_forms.specs.Items.{taken}
use Rattle.asm_forms.specs.Rows.{row_of}
use Rattle.asm_instructions.proofs.instruction.op_of.Goals as goal

pub returns-in-ShlNumber : goal.returns-in-ShlNumber
returns-in-ShlNumber c =
    let shifted = c.shifted_left.ensures (taken (row_of c.args.row.now).items c.args.tokens.now) in
    search (rules, shifted)

pub returns-in-ShrNumber : goal.returns-in-ShrNumber
returns-in-ShrNumber c =
    let shifted = c.shifted_right.ensures (taken (row_of c.args.row.now).items c.args.tokens.now) in
    search (rules, shifted)
