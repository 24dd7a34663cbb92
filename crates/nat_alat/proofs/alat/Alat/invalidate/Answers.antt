use Rattle.std.proofs.Common.{sym, ◌∙◌, rules}
use Rattle.std.specs.Prelude.{not}
use Rattle.arrayvec.proofs.ArrayVecLemmas.{filter-from_retain}
use Rattle.ia_meaning.specs.Loads.{is_spot}
use Rattle.ia_meaning.proofs.AlatLists.{invalidated_is_filter}
use Rattle.nat_alat.proofs.alat.Alat.invalidate.Goals as goal

pub returns : goal.returns
returns c =
    rw (← c.self.view_is)
    (filter-from_retain _ (λ e. not (is_spot e.key c.args.key)) _ (λ x b f' y called. search rules) _ _ c.retain.ensures.filtered
    ∙ sym (invalidated_is_filter _ c.args.key))
