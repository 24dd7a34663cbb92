use Rattle.slot_effects.proofs.effects.skip.Goals as goal

pub returns-in-Test-clause-may : goal.returns-in-Test-clause-may
returns-in-Test-clause-may g c = c.skip_test.ensures.may (g.S.StateView.registers c.args.seen.now) (g.S.StateView.memory c.args.seen.now)
