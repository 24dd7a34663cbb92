use Rattle.std.proofs.Common.{rules, ◌≡◌, Some, sym}
use Rattle.std.specs.Prelude.{◌≢◌, None}
use Rattle.ia_meaning.specs.Names.{spot}
use Rattle.ia_meaning.specs.Frames.{with_sizes}
use Rattle.frame_shapes.specs.Faults.{alloc_fault}
use Rattle.slot_effects.proofs.NewFrames.{inside_new, allocated_fails}
use Rattle.slot_effects.proofs.frames.allocate.Goals as goal

pub returns-in-Some-clause-value : goal.returns-in-Some-clause-value
returns-in-Some-clause-value g c =
    let a = c.args in
    let r = g.S.StateView.registers a.seen.now in
    let new = with_sizes r.frame a.sof a.sol a.sor in
    let fault : alloc_fault r.frame new ≡ Some c.in-Some.kind = search rules in
    let some : spot new a.r1 ≢ None = search (rules, inside_new) in
    rw c.faults-in-Some.ensures (sym (allocated_fails r.frame new a.r1 r.pfs (g.S.StateView.memory a.seen.now) c.in-Some.kind some fault))
