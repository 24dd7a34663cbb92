use Rattle.std.proofs.Common.{◌≡◌, ◌∙◌, sym, ap, rules, Some, None}
use Rattle.std.specs.Option.{option_map}
use Rattle.asm_reading.specs.Lines.{texts, completers_or_none}
use Rattle.asm_reading.specs.SlotReading.{slot_line}
use Rattle.asm_reading.proofs.SlotForms.{slot_made}
use Rattle.asm_reading.proofs.reading.slot_under.Goals as goal

pub returns-in-Some : goal.returns-in-Some
returns-in-Some c =
    let after = texts c.args.line.now c.args.lexemes.now in
    let same : c.deref.result.now ≡ completers_or_none c.in_ok-form.form c.args.name.now = search rules in
    sym (slot_made c.args.qp c.args.forms.now c.args.name.now c.args.tokens.now after c.in_ok-form.form (Some c.slot_line.new.value)
    (search rules)
    (ap (λ cs. slot_line c.args.qp c.in_ok-form.form cs c.args.tokens.now after) (sym same)
    ∙ ap (λ f. slot_line c.args.qp f c.deref.result.now c.args.tokens.now after) (sym c.row.ensures) ∙ sym c.slot_line.ensures
    ∙ ap (option_map (λ x. c.slot_line.new.value)) c.in-Some.is))

pub returns-in-None : goal.returns-in-None
returns-in-None c =
    let after = texts c.args.line.now c.args.lexemes.now in
    let same : c.deref.result.now ≡ completers_or_none c.in_ok-form.form c.args.name.now = search rules in
    sym (slot_made c.args.qp c.args.forms.now c.args.name.now c.args.tokens.now after c.in_ok-form.form None (search rules)
    (ap (λ cs. slot_line c.args.qp c.in_ok-form.form cs c.args.tokens.now after) (sym same)
    ∙ ap (λ f. slot_line c.args.qp f c.deref.result.now c.args.tokens.now after) (sym c.row.ensures) ∙ sym c.slot_line.ensures
    ∙ ap (option_map (λ x. c.slot_line.new.value)) c.in-None.is))
