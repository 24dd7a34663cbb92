use Rattle.std.proofs.Common.{sym, ap}
use Rattle.group_engine.specs.Groups.{memory_of, gathered_of, state_of}
use Rattle.group_engine.proofs.Groups.{group_made, engine_made}
use Rattle.group_engine.proofs.machine.GroupMachine.run_group.Goals as goal

pub returns : goal.returns
returns c =
    let inside = c.self.inside in
    let gathered = c.gather.new.self in
    let m =
    group_made c.args.number inside.table.now (state_of inside.gathering) (gathered_of gathered) gathered.end c.gather.ensures.value in
    let made = c.finish.ensures in
    let after = c.finish.new.self in
    engine_made c.args.number inside.table.now (state_of inside.gathering)
    (gathered_of gathered) gathered.end inside.gathering.end after.end inside.groups inside.range c.finish.new.range
    after.registers (memory_of after.in_order) after.place c.args.self.now
    m (sym c.self.view_is) made.registers (ap memory_of made.in_order) made.place made.range made.end
