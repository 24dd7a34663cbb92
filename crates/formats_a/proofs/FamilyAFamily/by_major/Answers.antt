use Rattle.std.proofs.Common.{refl}
use Rattle.insn_rows.specs.Indexes.{is_index}
use Rattle.formats_a.specs.Listed.{rows}
use Rattle.formats_a.proofs.FamilyAFamily.by_major.Goals as goal

pub returns : goal.returns
unfolding rows is_index
returns c = refl
