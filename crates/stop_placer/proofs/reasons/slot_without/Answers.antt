use Rattle.std.proofs.Common.{◌≡◌, rules, sym, subst}
use Rattle.flow_facts.specs.Graphs.{over_program}
use Rattle.group_checker.specs.Windows.{Describes}
use Rattle.slot_table.specs.declared.slot.Slot.{Slot}
use Rattle.stop_placer.specs.Placing.{without_stop}
use Rattle.stop_placer.proofs.Cuts.{describes_here, describes_other}
use Rattle.stop_placer.proofs.reasons.slot_without.Goals as goal

pub returns-then-eq-clause-describes : goal.returns-then-eq-clause-describes
returns-then-eq-clause-describes c = λ p at.
    let e : c.args.place ≡ c.args.out = search rules in
    subst (λ (s : Slot). Describes (over_program p) (without_stop p c.args.out) c.args.place s) (sym c.unstopped.ensures)
    (describes_here p c.args.place c.args.out c.args.slot.now e at)

pub returns-else-eq-clause-describes : goal.returns-else-eq-clause-describes
returns-else-eq-clause-describes c = λ p at.
    let apart : c.args.place ≡ c.args.out → ⊥ = search rules in
    describes_other p c.args.place c.args.out c.args.slot.now apart at
