use Rattle.image_form.proofs.Wholes.{parts_of_image}
use Rattle.image_form.proofs.reading.bundles_of.Goals as goal

pub unreachable-requires : goal.unreachable-requires
unreachable-requires c = c.no_fault_where_spelled.ensures c.requires.0 c.args.image.now _ c.requires.1 c.in_default.ensures.fault

pub returns : goal.returns
returns c p s = rw c.parts.ensures.bundles (let are = parts_of_image s.0 p c.args.image.now s.1 in are.spelled)
