use Rattle.insn_rows.proofs.Families.{is_below}
use Rattle.insn_rows.proofs.family.Family.words_are_below.Goals as goal

pub returns : goal.returns
returns g c = is_below c.is_family.ensures
