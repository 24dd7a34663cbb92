use Rattle.std.proofs.Common.{◌∙◌, sym, ◌-◌, drop, length, arith, length-drop}
use Rattle.std.proofs.lemmas.List.{take_all}
use Rattle.asm_reading.proofs.LexemeLists.{label_missing, label_later, parts_later}
use Rattle.asm_reading.proofs.reading.label_name.Goals as goal

pub returns-in_default : goal.returns-in_default
returns-in_default c = label_missing c.args.line.now _ c.loop-item.left.now c.in_default.len_below ∙ c.loop-item.invariant.value

pub loop-item-preserved : goal.loop-item-preserved
loop-item-preserved c =
    let left = c.loop-item.left.now in
    let rest = take_all (length left - 1) (drop 1 left) (omega (arith, length-drop 1 left)) in
    record {
      parts = parts_later c.args.line.now left _ c.loop-item.invariant.parts rest;
      value =
          label_later c.args.line.now c.args.items.now left _ c.loop-item.item-index _ c.loop-item-test.true c.in-len1-up.len_at_least
          (sym c.is_label_item.ensures ∙ c.if-is_label_item.false) rest ∙ c.loop-item.invariant.value;
    }
