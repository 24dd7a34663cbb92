use Rattle.std.proofs.Common.{None, set, set-set, get_or-set_same, sym, ap, ◌∙◌}
use Rattle.std.proofs.lemmas.List.{get_or_default}
use Rattle.flow_facts.proofs.table.begin.Goals as goal

pub returns : goal.returns
returns c before known =
    let t = c.args.table.now in
    let to = c.args.to in
    let from = c.index-table-from.result in
    let gone =
    c.go_on.ensures before (get_or-set_same t to from _ c.requires.to ∙ c.index-table-from.is
    ∙ sym (get_or_default t c.args.from None from c.requires.from) ∙ known) in
    (gone.0, set-set t to from c.go_on.new.there ∙ ap (set t to) gone.1, gone.2)
