use Rattle.resource_sets.proofs.BitWords.{one_bit}
use Rattle.resource_sets.proofs.Summing.{rotating_bit}
use Rattle.resource_sets.proofs.masking.written_by.Goals as goal

pub returns-in-Pr-Write : goal.returns-in-Pr-Write
returns-in-Pr-Write c g l = rw (c.in-Pr-Write.is-0, c.in-Pr-Write.is-1) (one_bit c.in-Pr-Write.p g (rw c.in-Pr-Write.is-0 at c.requires))

pub returns-in-Pr-LoopWrite : goal.returns-in-Pr-LoopWrite
returns-in-Pr-LoopWrite c g l =
    rw (c.in-Pr-LoopWrite.is-0, c.in-Pr-LoopWrite.is-1) (one_bit c.in-Pr-LoopWrite.p g (rw c.in-Pr-LoopWrite.is-0 at c.requires))

pub returns-in-Pr-OrWrite : goal.returns-in-Pr-OrWrite
returns-in-Pr-OrWrite c g l =
    rw (c.in-Pr-OrWrite.is-0, c.in-Pr-OrWrite.is-1) (one_bit c.in-Pr-OrWrite.p g (rw c.in-Pr-OrWrite.is-0 at c.requires))

pub returns-in-Pr-AndWrite : goal.returns-in-Pr-AndWrite
returns-in-Pr-AndWrite c g l =
    rw (c.in-Pr-AndWrite.is-0, c.in-Pr-AndWrite.is-1) (one_bit c.in-Pr-AndWrite.p g (rw c.in-Pr-AndWrite.is-0 at c.requires))

pub returns-in-Cfm-Write : goal.returns-in-Cfm-Write
returns-in-Cfm-Write c g l = rw (c.in-Cfm-Write.is-0, c.in-Cfm-Write.is-1) (rotating_bit g l)
