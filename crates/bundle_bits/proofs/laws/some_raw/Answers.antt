use Rattle.std.specs.Int.{w128, from_le_bytes}
use Rattle.bundle_bits.proofs.Parts.{parts_of, are-parts, number-of-parts}
use Rattle.bundle_bits.proofs.Bytes.{number-fits}
use Rattle.bundle_bits.proofs.laws.some_raw.Goals as goal

pub returns : goal.returns
returns c bytes are =
    let n = from_le_bytes w128 bytes in (parts_of n, are-parts n (number-fits bytes are), number-of-parts n)
