use Rattle.group_engine.proofs.Seen.{seen_one}
use Rattle.group_engine.proofs.view.see.Goals as goal

pub returns : goal.returns
returns g c =
    seen_one c.args.seen.now c.args.latest.now c.args.n c.index-latest-n.result c.requires.count c.requires.place c.index-latest-n.is
