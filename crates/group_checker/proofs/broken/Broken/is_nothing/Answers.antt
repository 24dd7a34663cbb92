use Rattle.std.proofs.Common.{refl}
use Rattle.group_checker.proofs.FirstFound.{broken_by_counts}
use Rattle.group_checker.proofs.broken.Broken.is_nothing.Goals as goal

pub returns : goal.returns
returns c =
    let told =
    broken_by_counts c.args.self.now _ _ _ _ _ c.len.ensures.count c.len-2.ensures.count c.len-3.ensures.count c.len-4.ensures.count
    c.len-5.ensures.count _ refl in
    record { nothing = told.0; something = told.1 }
