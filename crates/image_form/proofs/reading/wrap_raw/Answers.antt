use Rattle.ia_program.specs.Programs.{Program}
use Rattle.image_form.specs.Images.{RawSpells}
use Rattle.image_form.specs.Faults.{HasRawFault}
use Rattle.image_form.proofs.Answered.{only_program, only_fault}
use Rattle.image_form.proofs.reading.wrap_raw.Goals as goal

pub returns-clause-only : goal.returns-clause-only
returns-clause-only c =
    only_program (λ (p : Program). RawSpells p c.args.bytes.now) (HasRawFault c.args.bytes.now) (c.one_raw_program.ensures c.args.bytes.now)
    (λ p fault. c.no_fault_where_raw.ensures p c.args.bytes.now fault) c.wrap.result c.wrap.ensures.found c.wrap.ensures.fault

pub returns-clause-only_fault : goal.returns-clause-only_fault
returns-clause-only_fault c =
    only_fault (λ (p : Program). RawSpells p c.args.bytes.now) (HasRawFault c.args.bytes.now) (c.one_raw_fault.ensures c.args.bytes.now)
    (λ p fault. c.no_fault_where_raw.ensures p c.args.bytes.now fault) c.wrap.result c.wrap.ensures.found c.wrap.ensures.fault
