use Rattle.std.proofs.Common.{◌/◌, get_or-set_other, length-set, arith}
use Rattle.flow_facts.proofs.Words.{kept_marked}
use Rattle.flow_facts.proofs.dirty.DirtyPlaces.insert.Goals as goal

pub invariant_of-self : goal.invariant_of-self
invariant_of-self c =
    kept_marked c.self.inside.rows.items _ c.self.inside.blocks.items c.mark.new.words.items c.self.inside.regions.items
    c.mark-2.new.words.items c.self.inside.low (c.args.n / 64 / 64) c.args.n
    (length-set c.self.inside.rows.items c.args.n _) (λ k far. get_or-set_other c.self.inside.rows.items c.args.n k _ 0 far)
    c.mark.ensures.same_length c.mark.ensures.marks c.mark.ensures.others c.mark-2.ensures.same_length c.mark-2.ensures.marks
    c.mark-2.ensures.others
    (omega arith) (omega arith) c.self.invariant

pub invariant_of-self-else-region-self : goal.invariant_of-self-else-region-self
invariant_of-self-else-region-self c =
    kept_marked c.self.inside.rows.items _ c.self.inside.blocks.items c.mark.new.words.items c.self.inside.regions.items
    c.mark-2.new.words.items c.self.inside.low c.self.inside.low c.args.n
    (length-set c.self.inside.rows.items c.args.n _) (λ k far. get_or-set_other c.self.inside.rows.items c.args.n k _ 0 far)
    c.mark.ensures.same_length c.mark.ensures.marks c.mark.ensures.others c.mark-2.ensures.same_length c.mark-2.ensures.marks
    c.mark-2.ensures.others
    (omega arith) (omega arith) c.self.invariant
