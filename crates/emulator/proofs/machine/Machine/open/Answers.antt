use Rattle.std.proofs.Common.{◌≡◌, sym, subst}
use Rattle.ia_program.specs.Programs.{Program, IsProgram}
use Rattle.ia_meaning.specs.State.{zero_state}
use Rattle.ia_meaning.specs.Progress.{begun}
use Rattle.ia_meaning.specs.Runs.{IsUnderWay}
use Rattle.ia_meaning.proofs.GroupEnds.{begins_under_way}
use Rattle.emulator.specs.Progress.{progress_of}
use Rattle.emulator.proofs.machine.Machine.open.Goals as goal

pub invariant_of-result : goal.invariant_of-result
invariant_of-result c =
    let p = c.args.slots.now in
    let is = c.is_program.ensures in
    let told = c.in_ok-run.ensures in
    let e : progress_of c.in_ok-run.run' ≡ begun (zero_state p) = rw (c.data.ensures, c.program.ensures) at told in
    let same = sym c.in_ok-code.ensures in
    record {
      program = subst IsProgram same is;
      under_way =
          subst (λ (q : Program). IsUnderWay q (progress_of c.in_ok-run.run')) same (subst (IsUnderWay p) (sym e) (begins_under_way p is));
    }
