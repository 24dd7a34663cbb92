use Rattle.std.proofs.Common.{◌≡◌, ◌++◌, take}
use Rattle.std.specs.Prelude.{string_bytes, flat_map, codes, decimal}
use Rattle.ia_meaning.specs.StateText.{line}
use Rattle.ia64_top.specs.Texts.{violation_text}
use Rattle.ia64_top.proofs.text.violations.Given as goal

abbrev pub invariant-loop-violation : goal.invariant-loop-violation
invariant-loop-violation l =
    string_bytes l.text ≡ line (codes "violations " ++ decimal l.total) ++ flat_map (λ v. line (violation_text v))
    (take l.violation-index l.report.shown)
