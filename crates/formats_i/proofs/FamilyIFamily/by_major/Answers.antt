use Rattle.std.proofs.Common.{refl}
use Rattle.insn_rows.specs.Indexes.{is_index}
use Rattle.formats_i.specs.Listed.{rows}
use Rattle.formats_i.proofs.FamilyIFamily.by_major.Goals as goal

pub returns : goal.returns
unfolding rows is_index
returns c = refl
