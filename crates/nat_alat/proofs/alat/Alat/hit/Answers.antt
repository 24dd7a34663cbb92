use Rattle.std.proofs.Common.{sym, ◌∙◌, rules, tests}
use Rattle.std.proofs.lemmas.Iterator.{YieldsList-from_slice}
use Rattle.std.proofs.lemmas.Iterator.Search.{any_from_yields_List}
use Rattle.nat_alat.proofs.Entries.{is_entry, hit_is_any}
use Rattle.nat_alat.proofs.alat.Alat.hit.Goals as goal

pub returns : goal.returns
returns c =
    any_from_yields_List (λ d. is_entry d c.args.entry) _ _ _ c.any.ensures.ran (YieldsList-from_slice c.args.self.now cc)
    (λ x b q k. search (rules, tests))
    ∙ sym (hit_is_any c.args.self.now c.args.entry)
