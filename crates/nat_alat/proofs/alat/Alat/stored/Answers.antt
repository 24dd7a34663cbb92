use Rattle.std.proofs.Common.{sym, ◌∙◌, rules}
use Rattle.arrayvec.proofs.ArrayVecLemmas.{filter-from_retain}
use Rattle.ia_meaning.specs.Loads.{is_apart}
use Rattle.ia_meaning.proofs.AlatLists.{untouched_is_filter}
use Rattle.nat_alat.proofs.alat.Alat.stored.Goals as goal

pub returns : goal.returns
returns c =
    rw (← c.self.view_is)
    (filter-from_retain _ (λ e. is_apart e c.args.address c.args.size) _ (λ x b f' y called. search rules) _ _ c.retain.ensures.filtered
    ∙ sym (untouched_is_filter _ c.args.address c.args.size))
