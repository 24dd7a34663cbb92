use Rattle.std.proofs.Common.{rules, tests}
use Rattle.std.proofs.lemmas.Iterator.{YieldsList-from_slice}
use Rattle.std.proofs.lemmas.Iterator.Search.{any_from_yields_List}
use Rattle.resource_sets.specs.Accesses.{is_framed}
use Rattle.resource_sets.proofs.insn_accesses.any_framed.Goals as goal

pub returns : goal.returns
returns c =
    any_from_yields_List (λ row. is_framed row.resource) _ _ _ c.any.ensures.ran (YieldsList-from_slice c.args.rows.now cc)
    (λ x b q k. search (rules, tests))
