use Rattle.resource_sets.proofs.SetBits.{count_all}
use Rattle.resource_sets.proofs.sets.ResourceSet.len.Goals as goal

pub returns-clause-count : goal.returns-clause-count
returns-clause-count c =
    rw (c.numbered_len.ensures.count, c.from.ensures, c.from-2.ensures, c.from-3.ensures, c.from-4.ensures, c.from-5.ensures)
    (count_all c.args.self.now c.numbered_len.ensures.registers c.numbered_len.ensures.predicates c.numbered_len.ensures.branches)
