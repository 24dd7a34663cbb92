use Rattle.std.proofs.Common.{◌≡◌, drop}
use Rattle.std.specs.List.{find}
use Rattle.std.specs.Str.{bytes_eq}
use Rattle.asm_reading.specs.Lines.{template_name_text}
use Rattle.asm_reading.proofs.template_name.find_template_name.Given as goal

abbrev pub invariant-loop-name : goal.invariant-loop-name
invariant-loop-name l =
    find (λ s. bytes_eq (template_name_text s) l.text) (drop l.name-index l.names)
    ≡ find (λ s. bytes_eq (template_name_text s) l.text) l.names
