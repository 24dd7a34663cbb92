use Rattle.std.proofs.Common.{◌≡◌, length, arith}
use Rattle.predicate_rel.proofs.Changing.{row_set}
use Rattle.predicate_rel.proofs.facts.Facts.set_row.Goals as goal

pub returns : goal.returns
returns c k y l m =
    let sized : length c.self.inside.rows ≡ 64 = omega arith in
    rw (← c.self.view_is) (row_set c.self.inside.rows c.args.x c.args.row sized c.requires k y l m)
