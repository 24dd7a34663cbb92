use Rattle.std.proofs.Common.{refl}
use Rattle.insn_rows.specs.Indexes.{is_index}
use Rattle.formats_b.specs.ListedF.{rows}
use Rattle.formats_b.proofs.family_f.FamilyFFamily.by_major.Goals as goal

pub returns : goal.returns
unfolding rows is_index
returns c = refl
