use Rattle.std.proofs.Common.{◌∙◌, sym, ap, arith}
use Rattle.asm_reading.specs.Lines.{texts, led_at}
use Rattle.asm_reading.proofs.LexemeLists.{led_there}
use Rattle.asm_reading.proofs.reading.line_without_label.Goals as goal

pub returns : goal.returns
returns c =
    c.line_led_by.ensures
    ∙ led_there c.args.line.now c.args.lexemes.now _ _ c.in-Some.lead _ (omega (arith, c.if-lead-lexemes.false)) c.before-2.ensures
    c.from.ensures
    ∙ ap (led_at (texts c.args.line.now c.args.lexemes.now)) (sym c.in-Some.is ∙ c.lead_at.ensures)
