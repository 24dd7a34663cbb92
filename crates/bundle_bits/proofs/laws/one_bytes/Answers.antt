use Rattle.bundle_bits.proofs.Bytes.{one-bytes}
use Rattle.bundle_bits.proofs.laws.one_bytes.Goals as goal

pub returns : goal.returns
returns c = one-bytes
