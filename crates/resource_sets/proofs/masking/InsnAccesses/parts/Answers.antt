use Rattle.resource_sets.proofs.masking.InsnAccesses.parts.Goals as goal

pub returns : goal.returns
returns c = rw (← c.self.view_is) c.self.invariant.parts
