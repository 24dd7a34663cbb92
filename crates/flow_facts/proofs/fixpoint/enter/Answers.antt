use Rattle.std.proofs.Common.{◌≡◌, ℕ, length, refl, arith, subst}
use Rattle.flow_facts.proofs.Entering.{HasEntered, enters, passes_by, all_entered}
use Rattle.flow_facts.proofs.fixpoint.enter.Goals as goal
use Rattle.flow_facts.proofs.fixpoint.enter.Goals.{then-is_entry, else-is_entry}

pub loop-bundle-preserved : goal.loop-bundle-preserved
loop-bundle-preserved c =
    elim c.if-is_entry.branch [
      | then-is_entry w ↦
          rw (w.table-is, w.dirty-is, w.insert.ensures) (enters c.args.program.now c.loop-bundle.table c.loop-bundle.dirty
          c.loop-bundle.bundle w.place_number-first.result w.known_first.result c.loop-bundle.invariant (w.if-is_entry.ensures.0 refl)
          w.place_number-first.ensures w.known_first.ensures)
      | else-is_entry w ↦
          rw (w.table-is, w.dirty-is) (passes_by c.args.program.now c.loop-bundle.table c.loop-bundle.dirty c.loop-bundle.bundle
          c.loop-bundle.invariant (λ entry. absurd (let bad = w.if-is_entry.ensures.1 entry in cc)))
    ]

pub returns : goal.returns
returns c =
    let done : c.loop-bundle.bundle ≡ length c.args.program.now.bundles = omega arith in
    all_entered _ _ _ (subst (λ (n : ℕ). HasEntered c.args.program.now c.loop-bundle.table c.loop-bundle.dirty n) done
    c.loop-bundle.invariant)
