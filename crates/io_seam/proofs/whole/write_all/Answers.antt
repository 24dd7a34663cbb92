use Rattle.std.proofs.Common.{rules, ◌∙◌}
use Rattle.io_seam.proofs.Pieces.{Appends-next}
use Rattle.io_seam.proofs.whole.write_all.Goals as goal

pub loop-given-preserved : goal.loop-given-preserved
loop-given-preserved g c =
    let given = g.K.Sink.given in
    let before = c.loop-given.invariant in
    let now = c.in-Ok.ensures in
    record {
      within = search rules;
      so_far =
          Appends-next (given c.args.sink.now) (given c.loop-given.sink)
          (given c.give.new.self) c.args.bytes.now c.loop-given.given c.in-Ok.count (search rules) before.so_far now.appended;
      told = (λ h. now.told.0 (before.told.0 h), λ h. before.told.1 (now.told.1 h));
      unchanged_faults = now.unchanged_faults ∙ before.unchanged_faults;
    }
