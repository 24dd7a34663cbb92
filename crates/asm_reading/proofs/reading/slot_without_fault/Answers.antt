use Rattle.std.proofs.Common.{◌≡◌, ◌∙◌, sym, ap, rules}
use Rattle.std.specs.Prelude.{Ok}
use Rattle.std.specs.List.{find}
use Rattle.asm_forms.specs.Naming.{named_forms}
use Rattle.asm_forms.specs.Spelled.{is_spelled}
use Rattle.asm_reading.specs.Lines.{texts, tokens, without_stop, line_led_by_name}
use Rattle.asm_reading.specs.SlotReading.{slot_line}
use Rattle.asm_reading.proofs.SlotForms.{slot_if_read, put_there}
use Rattle.asm_reading.proofs.reading.slot_without_fault.Goals as goal

pub returns : goal.returns
returns c =
    let before = texts c.args.line.now c.args.before.now in
    let after = texts c.args.line.now c.args.after.now in
    let t : c.as_slice-tokens.result.now ≡ tokens after = c.as_slice-tokens.ensures ∙ c.tokens_into.ensures in
    let w : c.without_stop.result.now ≡ without_stop (tokens after) = c.without_stop.ensures ∙ ap without_stop t in
    let form = c.in-Some.row in
    let cs = c.find_spelled.new.list.items in
    let d : c.deref.result.now ≡ cs = search rules in
    put_there (λ v. line_led_by_name c.args.name.now before after ≡ Ok v) c.slot_line.result c.slot_line.new.value
    (slot_if_read c.args.name.now before after c.in-Ok.qp form cs _ c.requires.slot (sym c.predicate.ensures ∙ c.in-Ok.is)
    (ap (λ xs. find (is_spelled xs) (named_forms c.args.name.now)) (sym w) ∙ sym c.find_spelled.ensures.value ∙ c.in-Some.is)
    c.in-Some.ensures.read
    (c.slot_line.ensures ∙ ap (λ ds. slot_line c.in-Ok.qp form ds c.as_slice-tokens.result.now after) d
    ∙ ap (λ xs. slot_line c.in-Ok.qp form cs xs after) t))
