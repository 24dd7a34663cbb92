use Rattle.ia64_top.proofs.Answering.{untouched}
use Rattle.ia64_top.proofs.top.read_input.Goals as goal

pub returns-in-Trial-clause-too_long : goal.returns-in-Trial-clause-too_long
returns-in-Trial-clause-too_long g c = untouched _ (g.S.Source.left c.args.source.now) (λ e. cc)
