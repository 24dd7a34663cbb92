use Rattle.std.proofs.Common.{get_or-set_same, get_or-set_other, length, length-set, ap, arith}
use Rattle.flow_facts.proofs.Words.{kept_unmarked}
use Rattle.flow_facts.proofs.dirty.DirtyPlaces.take.Goals as goal

pub invariant_of-self : goal.invariant_of-self
invariant_of-self c =
    let rows = c.self.inside.rows.items in
    kept_unmarked rows _ c.self.inside.blocks.items c.unmark.new.words.items c.self.inside.regions.items c.self.inside.low c.args.n
    (length-set rows c.args.n 0) (λ k far. get_or-set_other rows c.args.n k 0 0 far)
    (get_or-set_same rows c.args.n 0 0 (omega (arith, c.requires, ap length c.self.view_is)))
    c.unmark.ensures.same_length c.unmark.ensures.marks c.unmark.ensures.at_most c.self.invariant
