use Rattle.insn_rows.proofs.Families.{one_word}
use Rattle.insn_rows.proofs.family.Family.one_word.Goals as goal

pub returns : goal.returns
returns g c = one_word c.is_family.ensures
