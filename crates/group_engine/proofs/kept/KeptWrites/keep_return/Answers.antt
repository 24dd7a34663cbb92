use Rattle.std.proofs.Common.{◌≡◌, ℕ, None, refl}
use Rattle.ia_meaning.specs.declared.limits.TheConstants.{STACK_LIMIT}
use Rattle.ia_meaning.specs.Frames.{marked_frame, return_fault}
use Rattle.frame_shapes.specs.Faults.{return_fault_within}
use Rattle.frame_shapes.proofs.Returns.{return_free, may_return}
use Rattle.group_engine.proofs.kept.KeptWrites.keep_return.Goals as goal

-- The return has no fault in the largest stack.
free : (base pfs : ℕ) → return_fault base (marked_frame base pfs) ≡ None
    → return_fault_within STACK_LIMIT base (marked_frame base pfs) ≡ None
free base pfs may = return_free STACK_LIMIT base (marked_frame base pfs) refl may

pub returned_frame-frame-requires : goal.returned_frame-frame-requires
returned_frame-frame-requires c =
    (may_return STACK_LIMIT c.args.base (marked_frame c.args.base c.args.pfs) (free c.args.base c.args.pfs c.requires.may)).above

pub keep-requires-clause-write : goal.keep-requires-clause-write
keep-requires-clause-write c =
    let made = c.returned_frame-frame.ensures.free STACK_LIMIT (free c.args.base c.args.pfs c.requires.may) in
    (made.0, made.1)
