use Rattle.std.proofs.Common.{◌∙◌, sym}
use Rattle.asm_lexemes.proofs.OneRegister.{by_number}
use Rattle.asm_lexemes.proofs.registers.register_of.Goals as goal

pub returns-in-Some : goal.returns-in-Some
returns-in-Some c = by_number c.args.name.now c.in-Some.register (sym c.numbered_register.ensures ∙ c.in-Some.is)
