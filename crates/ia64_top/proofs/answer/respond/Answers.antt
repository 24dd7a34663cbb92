use Rattle.std.proofs.lemmas.Result.{on_ok_weaker}
use Rattle.ia64_top.specs.Runs.{HaveWatched}
use Rattle.ia64_top.proofs.Running.{of_watch}
use Rattle.ia64_top.proofs.answer.respond.Goals as goal

pub returns-in-Watch-clause-watched : goal.returns-in-Watch-clause-watched
returns-in-Watch-clause-watched g c =
    on_ok_weaker c.watch_input.result (λ w. of_watch (λ n. HaveWatched n c.args.input.now _ _) c.in-Watch.groups c.args.command
    c.in-Watch.is w) c.watch_input.ensures.watched
