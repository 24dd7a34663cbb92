use Rattle.std.proofs.Common.{◌≡◌, ℕ, ◌<◌, false}
use Rattle.predicate_rel.specs.Pairs.{has_bit, pairs_of}
use Rattle.predicate_rel.specs.Rows.{IsApart}
use Rattle.predicate_rel.proofs.facts.Facts.may_change.Given as goal

abbrev pub invariant-loop-x : goal.invariant-loop-x
invariant-loop-x l =
    (k : ℕ) → k < 64 → has_bit l.rows k ≡ false → (has_bit l.written k ≡ false) × (pairs_of l.self l.fn.g k ≡ false)
    × (k < l.x → IsApart (pairs_of l.self) l.written k)
