use Rattle.std.proofs.Common.{◌≡◌, ℕ, ◌+◌, ◌*◌, arith, ap, sym, ◌∙◌}
use Rattle.std.specs.Int.{w128, from_le_bytes}
use Rattle.bundle_bits.proofs.Bytes.{back, forth}
use Rattle.bundle_bits.proofs.bundle.join.Goals as goal

pub returns-clause-number : goal.returns-clause-number
returns-clause-number c =
    let n : ℕ = c.from.result + c.from-2.result * 32 + c.from-3.result * 70368744177664 + c.from-4.result * 154742504910672534362390528 in
    ap (from_le_bytes w128) c.to_le_bytes.ensures ∙ forth n (omega arith) ∙ omega arith

pub returns-clause-only : goal.returns-clause-only
returns-clause-only c bytes are is =
    let n : ℕ = c.from.result + c.from-2.result * 32 + c.from-3.result * 70368744177664 + c.from-4.result * 154742504910672534362390528 in
    let e : from_le_bytes w128 bytes ≡ n = is ∙ omega arith in
    sym (back bytes n are.count are.small e) ∙ sym c.to_le_bytes.ensures
