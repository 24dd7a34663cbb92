use Rattle.first_fault.proofs.Laws.{one_fault}
use Rattle.image_form.specs.Faults.{image_stages}
use Rattle.image_form.proofs.Stages.{image_sound}
use Rattle.image_form.proofs.laws.one_fault.Goals as goal

pub returns : goal.returns
returns c =
    λ bytes f g a b. one_fault (image_stages bytes) (image_sound c.one_bundle.ensures c.one_fault.ensures c.no_fault_where_spelled.ensures
    bytes) f g a b
