use Rattle.resource_sets.proofs.SetBits.{register_inserted, predicate_inserted, branch_inserted}
use Rattle.resource_sets.proofs.sets.ResourceSet.insert.Goals as goal

pub returns-in-Gr : goal.returns-in-Gr
returns-in-Gr c q = rw c.in-Gr.is (register_inserted c.args.self.now c.in-Gr.r (rw c.in-Gr.is at c.requires) q)

pub returns-in-Pr : goal.returns-in-Pr
returns-in-Pr c q = rw c.in-Pr.is (predicate_inserted c.args.self.now c.in-Pr.p (rw c.in-Pr.is at c.requires) q)

pub returns-in-Br : goal.returns-in-Br
returns-in-Br c q = rw c.in-Br.is (branch_inserted c.args.self.now c.in-Br.b (rw c.in-Br.is at c.requires) q)
