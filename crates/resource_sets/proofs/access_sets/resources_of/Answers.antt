use Rattle.std.proofs.lemmas.List.Elements.{Contains-get_or}
use Rattle.resource_sets.proofs.access_sets.resources_of.Goals as goal

pub insert-requires : goal.insert-requires
insert-requires c = c.requires _ (Contains-get_or c.args.accesses.now c.loop-n.n _ c.loop-n-test.true)
