use Rattle.insn_rows.proofs.Families.{one_insn}
use Rattle.insn_rows.proofs.family.Family.one_instruction.Goals as goal

pub returns : goal.returns
returns g c = one_insn c.is_family.ensures
