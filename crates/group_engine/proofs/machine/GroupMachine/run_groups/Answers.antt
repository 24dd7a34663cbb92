use Rattle.std.proofs.Common.{◌-◌, sym, ap, ◌∙◌, arith}
use Rattle.group_engine.specs.Engine.{Engine, groups_further}
use Rattle.group_engine.proofs.Runs.{runs_on, further_on}
use Rattle.group_engine.proofs.machine.GroupMachine.run_groups.Goals as goal

pub loop-left-preserved : goal.loop-left-preserved
loop-left-preserved c =
    let l = c.loop-left in
    let running = ap (λ (e : Engine). e.end) (sym c.self.view_is) ∙ runs_on c.self.inside.gathering.end c.if-is_none.ensures in
    let made = c.run_group.ensures in
    let groups = ap (λ (e : Engine). e.groups) made in
    record {
      rest =
          ap (groups_further (l.left - 1) c.args.number) made ∙ sym (further_on l.left c.args.number l.self running c.loop-left-test.true)
          ∙ l.invariant.rest;
      room = omega (arith, groups, l.invariant.room, c.loop-left-test.true);
    }
