use Rattle.ia_program.specs.Programs.{Program}
use Rattle.image_form.specs.Images.{Spells}
use Rattle.image_form.specs.Faults.{HasImageFault}
use Rattle.image_form.proofs.Answered.{only_program, only_fault}
use Rattle.image_form.proofs.reading.read_image.Goals as goal

pub returns-clause-only : goal.returns-clause-only
returns-clause-only c =
    only_program (λ (p : Program). Spells p c.args.bytes.now) (HasImageFault c.args.bytes.now) (c.one_program.ensures c.args.bytes.now)
    (λ p fault. c.no_fault_where_spelled.ensures p c.args.bytes.now fault) c.read.result c.read.ensures.found c.read.ensures.fault

pub returns-clause-only_fault : goal.returns-clause-only_fault
returns-clause-only_fault c =
    only_fault (λ (p : Program). Spells p c.args.bytes.now) (HasImageFault c.args.bytes.now) (c.one_fault.ensures c.args.bytes.now)
    (λ p fault. c.no_fault_where_spelled.ensures p c.args.bytes.now fault) c.read.result c.read.ensures.found c.read.ensures.fault
