use Rattle.resource_sets.proofs.masking.InsnAccesses.written_predicates.Goals as goal

pub returns : goal.returns
returns c = rw (← c.self.view_is) c.self.invariant.sums.written
