use Rattle.std.proofs.Common.{rules}
use Rattle.ia_program.proofs.DeclaredRelations.{starts_first, found_between}
use Rattle.ia_program.proofs.relations.relations_at.Goals as goal

pub slice_bounds-result-count : goal.slice_bounds-result-count
slice_bounds-result-count c =
    starts_first c.args.relations.now c.args.bundle c.count_below-start.result c.count_below-end.result c.count_below-start.ensures
    c.count_below-end.ensures

pub slice_bounds-result-start : goal.slice_bounds-result-start
slice_bounds-result-start c =
    let le = starts_first c.args.relations.now c.args.bundle c.count_below-start.result c.count_below-end.result c.count_below-start.ensures
    c.count_below-end.ensures in search rules

pub returns : goal.returns
returns c =
    found_between c.args.relations.now c.args.bundle c.count_below-start.result c.count_below-end.result c.count_below-start.ensures
    c.count_below-end.ensures
