use Rattle.std.proofs.Common.{◌≤◌, length, ap, arith}
use Rattle.asm_matching.specs.Relations.{named_predicates}
use Rattle.asm_matching.proofs.NamedPredicates.{are_predicates}
use Rattle.asm_reading.proofs.relation.relation_of.Goals as goal

pub of_numbers-predicates-requires : goal.of_numbers-predicates-requires
of_numbers-predicates-requires c =
    let same = c.named_predicates-numbers.ensures in
    let some : 2 ≤ length (named_predicates c.args.tokens.now) =
    omega (arith, ap (λ xs. length xs) same, c.len.ensures.value, c.if-len-ge2.true) in
    rw same (are_predicates c.args.tokens.now some)
