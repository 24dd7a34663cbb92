use Rattle.std.proofs.Common.{ap, sym, ◌∙◌, arith}
use Rattle.std.proofs.lemmas.Bool.{or_parts}
use Rattle.predicate_rel.specs.Pairs.{has_bit, pairs_of}
use Rattle.predicate_rel.proofs.facts.Facts.may_change.Goals as goal

pub loop-x-init : goal.loop-x-init
loop-x-init c k l none =
    let parts = or_parts (has_bit c.written_by-written.result k) (has_bit c.row.result k) (sym (c.either-rows.ensures k) ∙ none) in (
      parts.0,
      ap (λ n. pairs_of c.args.self.now n k) (sym c.number.ensures.value) ∙ sym (c.row.ensures k l) ∙ parts.1,
      λ u. absurd (omega arith),
    )

pub returns : goal.returns
returns c x l none y m =
    let left = c.loop-x.invariant x l none in c.written_by-written.ensures c.args.g x _ l left.0 (left.2 (omega arith)) left.1 y m
