use Rattle.std.proofs.Common.{rules, ◌≡◌, ◌∙◌, length, ap}
use Rattle.std.proofs.lemmas.Result.{err_from_is_err_and}
use Rattle.ia_insn.specs.declared.choices.Unit.TheVariants.{M}
use Rattle.ia_program.specs.Templates.{IsTemplate, units_of}
use Rattle.insn_codec.proofs.Slots.{three_items}
use Rattle.insn_codec.proofs.Faults.{slot_fault}
use Rattle.insn_codec.proofs.bundle.read_bundle.Goals as goal

pub returns-in_err-slots-clause-fault : goal.returns-in_err-slots-clause-fault
returns-in_err-slots-clause-fault c =
    let raw = c.split-raw.result in
    let n : length c.units.result ≡ 3 = search rules in
    let t : c.in_ok-template.template ≡ raw.template = search rules in
    let is : IsTemplate raw.template = search rules in
    let p = err_from_is_err_and c.from_residual-in_err-slots.result c.from_residual-in_err-slots.ensures.1 in
    rw (p.1, p.2) (slot_fault c.args.bytes.now raw c.in_err-slots.field-0.0 _
    (record { widths = c.split-raw.ensures.parts; number = c.split-raw.ensures.number }) is
    (three_items M c.units.result n ∙ c.units.ensures ∙ ap units_of t) c.in_err-slots.ensures.fault)
