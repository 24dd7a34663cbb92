use Rattle.std.proofs.Common.{None, set, sym, ap, ◌∙◌}
use Rattle.std.proofs.lemmas.List.{get_or_default}
use Rattle.flow_facts.proofs.table.narrow.Goals as goal

pub returns : goal.returns
returns c f known is there =
    let t = c.args.table.now in
    let less =
    c.narrow_there.ensures f known (c.index-table-from.is ∙ sym
    (get_or_default t c.args.from None c.index-table-from.result c.requires.from) ∙ is)
    (sym (get_or_default t c.args.to None c.index-table-to.result c.requires.to) ∙ there) in
    (less.0, ap (set t c.args.to) less.1, less.2)
