use Rattle.asm_build.proofs.NamedTemplates.{template_found}
use Rattle.asm_build.proofs.template_name.template_of.Goals as goal

pub returns : goal.returns
returns c = template_found c.args.name c.args.first c.args.second c.args.third c.with.result (rw c.units_named.ensures at c.with.ensures)
