-- A relation line with two predicates.
use Rattle.std.proofs.Common.{◌≡◌, ◌≤◌, ◌<◌, refl, ℕ, true, false, eqb, leb, [], ◌∷◌, Ok, arith}
use Rattle.std.proofs.lemmas.Bool.{le-leb}
use Rattle.std.proofs.lemmas.Bool.Decides.{nat_tests}
use Rattle.asm_matching.proofs.NamedPredicates.{two, two_named}
use Rattle.asm_reading.specs.declared.line.Line.TheVariants as line
use Rattle.asm_reading.specs.Lines.{relation_of}

-- A line with two predicates in rising order declares them.
pub two_read : (p q : ℕ) → 1 ≤ p → p < q → q ≤ 15 → relation_of (two p q) ≡ Ok (line.Relation (p ∷ q ∷ []))
two_read p q some less few =
    let low : leb 1 p ≡ true = le-leb 1 p some in
    let high : leb p 15 ≡ true = le-leb p 15 (omega (arith, less, few)) in
    let low' : leb 1 q ≡ true = le-leb 1 q (omega (arith, less)) in
    let high' : leb q 15 ≡ true = le-leb q 15 few in
    let apart : eqb p q ≡ false = grind (arith, nat_tests) in
    rw (low, high, low', high', apart, two_named p q some less few) refl
