use Rattle.std.proofs.Common.{sym, ◌∙◌, rules, tests}
use Rattle.std.proofs.lemmas.Iterator.{YieldsList-from_slice}
use Rattle.std.proofs.lemmas.Iterator.Search.{any_from_yields_List}
use Rattle.ia_meaning.specs.Loads.{is_spot}
use Rattle.nat_alat.proofs.Entries.{entry_is_any}
use Rattle.nat_alat.proofs.alat.Alat.has.Goals as goal

pub returns : goal.returns
returns c =
    any_from_yields_List (λ e. is_spot e.key c.args.key) _ _ _ c.any.ensures.ran (YieldsList-from_slice c.args.self.now cc)
    (λ x b q k. search (rules, tests))
    ∙ sym (entry_is_any c.args.self.now c.args.key)
