use Rattle.group_engine.specs.Groups.{gathered_of}
use Rattle.group_engine.proofs.Starts.{effect_from_start}
use Rattle.group_engine.proofs.gathering.Gathering.go_on_from_start.Goals as goal

pub go_on-requires-clause-does : goal.go_on-requires-clause-does
go_on-requires-clause-does c insn at =
    rw c.branch_inputs.ensures
    (effect_from_start c.args.table.now (gathered_of c.args.self.now) c.args.slot.now c.args.effect.now c.requires.slot c.requires.direct
    c.requires.value c.requires.may insn at)
