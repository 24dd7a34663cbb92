use Rattle.std.proofs.Common.{◌≡◌, ◌-◌}
use Rattle.ia_meaning.specs.Frames.{marked_frame}
use Rattle.frame_shapes.proofs.Returns.{rebased, free_frame}
use Rattle.frame_shapes.proofs.marker.returned_frame.Goals as goal

pub returns-clause-value : goal.returns-clause-value
returns-clause-value c =
    let below : c.from.result ≡ (marked_frame c.args.base c.args.pfs).sol = cc in
    rw (c.marked_frame-marked.ensures, below) (rebased c.args.base (c.args.base - (marked_frame c.args.base c.args.pfs).sol) c.args.pfs)

pub returns-clause-free : goal.returns-clause-free
returns-clause-free c limit free = free_frame limit c.args.base c.args.pfs _ (returns-clause-value c) free
