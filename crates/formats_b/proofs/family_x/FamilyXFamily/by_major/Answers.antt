use Rattle.std.proofs.Common.{refl}
use Rattle.insn_rows.specs.Indexes.{is_index}
use Rattle.formats_b.specs.ListedX.{rows}
use Rattle.formats_b.proofs.family_x.FamilyXFamily.by_major.Goals as goal

pub returns : goal.returns
unfolding rows is_index
returns c = refl
