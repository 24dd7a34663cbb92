use Rattle.bundle_bits.proofs.Parts.{one-raw}
use Rattle.bundle_bits.proofs.laws.one_raw.Goals as goal

pub returns : goal.returns
returns c = one-raw
