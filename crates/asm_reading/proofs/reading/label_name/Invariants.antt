use Rattle.std.proofs.Common.{◌≡◌, drop}
use Rattle.asm_reading.specs.Lines.{AreParts, texts, label_name}
use Rattle.asm_reading.proofs.reading.label_name.Given as goal

abbrev pub invariant-loop-item : goal.invariant-loop-item
invariant-loop-item l =
    record {
      parts : AreParts l.line l.left;
      value : label_name (drop l.item-index l.items) (texts l.line l.left)
          ≡ label_name l.items (texts l.line l.lexemes);
    }
