use Rattle.std.proofs.Common.{◌≡◌, ℕ, ◌<◌, ◌-◌, true, false, eqb-true, arith}
use Rattle.std.specs.Prelude.{bit_and}
use Rattle.std.proofs.lemmas.Bool.{OnTrue_from, OnFalse_from, eqb-false}
use Rattle.std.proofs.lemmas.Nat.{and_le_l}
use Rattle.predicate_rel.specs.Pairs.{has_bit}
use Rattle.predicate_rel.proofs.BitLemmas.{none_less, some_less}
use Rattle.predicate_rel.proofs.bits.is_within.Goals as goal

pub returns-clause-within : goal.returns-clause-within
returns-clause-within c =
    OnTrue_from _ ((y : ℕ) → y < 64 → has_bit c.args.a y ≡ true → has_bit c.args.b y ≡ true)
    (λ e. none_less c.args.a c.args.b (omega arith) (eqb-true _ _ e))

pub returns-clause-more : goal.returns-clause-more
returns-clause-more c = OnFalse_from _ ((y : ℕ) × (y < 64) × (has_bit c.args.a y ≡ true) × (has_bit c.args.b y ≡ false)) (λ e.
    let apart = eqb-false (bit_and c.args.a (18446744073709551615 - c.args.b)) 0 e in
    let some : 0 < bit_and c.args.a (18446744073709551615 - c.args.b) = omega (arith, apart) in
    some_less c.args.a c.args.b (omega arith) some (omega (arith, and_le_l c.args.a (18446744073709551615 - c.args.b))))
