use Rattle.std.proofs.Common.{refl, sym, ap, ◌∙◌}
use Rattle.predicate_rel.specs.Pairs.{pairs_of}
use Rattle.predicate_rel.specs.Rules.{PairRule, one, is_met, is_target}
use Rattle.predicate_rel.proofs.OrAndcm.{first_row, second_row, other_row}
use Rattle.predicate_rel.proofs.facts.Facts.or_andcm_row.Goals as goal

pub returns-then-has_bit : goal.returns-then-has_bit
returns-then-has_bit c y l =
    let raised = sym (c.targets-raised.ensures c.args.x c.requires) ∙ sym c.has_bit.ensures ∙ c.if-has_bit.true in
    c.written_row.ensures (is_target c.args.p1 c.args.p2) one refl c.targets-written.ensures c.row-row.ensures y l
    ∙ ap (λ (r : PairRule). is_met r (pairs_of c.args.self.now)) (first_row c.args.p1 c.args.p2 c.args.g c.args.x y raised)

pub returns-then-has_bit-2 : goal.returns-then-has_bit-2
returns-then-has_bit-2 c y l =
    let raised = sym (c.targets-raised.ensures c.args.x c.requires) ∙ sym c.has_bit.ensures ∙ c.if-has_bit.false in
    let written = sym (c.targets-written.ensures c.args.x c.requires) ∙ sym c.has_bit-else-has_bit.ensures ∙ c.if-has_bit-2.true in
    c.written_row-then-has_bit-2.ensures (is_target c.args.p1 c.args.p2) one refl c.targets-written.ensures c.row-row.ensures y l
    ∙ ap (λ (r : PairRule). is_met r (pairs_of c.args.self.now)) (second_row c.args.p1 c.args.p2 c.args.g c.args.x y raised written)

pub returns-else-has_bit-2 : goal.returns-else-has_bit-2
returns-else-has_bit-2 c y l =
    let raised = sym (c.targets-raised.ensures c.args.x c.requires) ∙ sym c.has_bit.ensures ∙ c.if-has_bit.false in
    let written = sym (c.targets-written.ensures c.args.x c.requires) ∙ sym c.has_bit-else-has_bit.ensures ∙ c.if-has_bit-2.false in
    c.written_row-else-has_bit-2.ensures (is_target c.args.p1 c.args.p1) one refl c.targets-raised.ensures c.row-row.ensures y l
    ∙ ap (λ (r : PairRule). is_met r (pairs_of c.args.self.now)) (other_row c.args.p1 c.args.p2 c.args.g c.args.x y raised written)
