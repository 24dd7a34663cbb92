use Rattle.std.proofs.Common.{◌≡◌, drop}
use Rattle.std.specs.List.{find}
use Rattle.asm_forms.specs.Completers.{text_of}
use Rattle.asm_forms.specs.Naming.{begins}
use Rattle.asm_forms.proofs.naming.find_completer.Given as goal

abbrev pub invariant-loop-completer : goal.invariant-loop-completer
invariant-loop-completer l =
    find (λ c. begins l.name (text_of c)) (drop l.completer-index l.completers) ≡ find (λ c. begins l.name (text_of c)) l.completers
