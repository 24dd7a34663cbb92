use Rattle.insn_rows.proofs.Families.{is_from}
use Rattle.insn_rows.proofs.family.Family.words_are_from.Goals as goal

pub returns : goal.returns
returns g c = is_from c.is_family.ensures
