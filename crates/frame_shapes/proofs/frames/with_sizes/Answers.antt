use Rattle.frame_shapes.proofs.FrameEnds.{sized_frame}
use Rattle.frame_shapes.proofs.frames.with_sizes.Goals as goal

pub returns-clause-free : goal.returns-clause-free
returns-clause-free c limit free =
    sized_frame limit c.args.frame.now c.args.sof c.args.sol c.args.sor c.requires.frame c.requires.size c.requires.locals
    c.requires.rotating free
