use Rattle.ia_meaning.proofs.Sequences.{stop_same}
use Rattle.slot_table.proofs.edges.is_stopped.Goals as goal

pub returns : goal.returns
returns c = stop_same c.args.program.now.bundles c.args.place c.stop_after.result c.stop_after.ensures
