use Rattle.group_engine.specs.Groups.{gathered_of}
use Rattle.group_engine.proofs.TakingIn.{taken_in}
use Rattle.group_engine.proofs.gathering.Gathering.take_in.Goals as goal

pub returns-clause-value : goal.returns-clause-value
returns-clause-value c =
    rw (c.collect.ensures.value, c.make.ensures.memory, c.make.ensures.unat)
    (taken_in (gathered_of c.args.self.now) c.args.pfs c.args.change.now c.args.place)
