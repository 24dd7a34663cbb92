use Rattle.std.proofs.Common.{sym, ◌∙◌}
use Rattle.bundle_bits.proofs.Parts.{only-parts}
use Rattle.bundle_bits.proofs.bundle.split.Goals as goal

pub returns-clause-only : goal.returns-clause-only
returns-clause-only c raw parts is = only-parts raw _ parts (is ∙ sym c.from_le_bytes-number.ensures)
