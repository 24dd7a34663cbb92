use Rattle.std.proofs.Common.{◌++◌, ◌∙◌, sym}
use Rattle.std.specs.Prelude.{codes, decimal}
use Rattle.std.proofs.lemmas.List.{append-nil}
use Rattle.ia_meaning.specs.StateText.{line}
use Rattle.ia64_top.specs.Texts.{violation_text}
use Rattle.ia64_top.proofs.Printing.{grows}
use Rattle.ia64_top.proofs.text.violations.Goals as goal

pub loop-violation-init : goal.loop-violation-init
loop-violation-init c = c.in_ok-text.ensures.ok ∙ sym (append-nil _)

pub loop-violation-preserved : goal.loop-violation-preserved
loop-violation-preserved c =
    grows (λ v. line (violation_text v)) _ _ _ _ (line (codes "violations " ++ decimal c.total-total.result)) _ _
    c.shown-violation-items.ensures c.loop-violation-test.true c.in_ok-writeln.ensures.bytes c.loop-violation.invariant
