-- The fault of a return.
use Rattle.std.proofs.Common.{◌≡◌, ℕ, ◌+◌, ◌-◌, ◌≤◌, Bool, true, false, not, if◌then◌else◌, nat_lt, Option, Some, None, refl, ◌∙◌, arith}
use Rattle.std.specs.Option.{option_map}
use Rattle.ia_meaning.specs.declared.limits.TheConstants.{STACK_LIMIT}
use Rattle.ia_program.specs.declared.ending.FaultKind.TheVariants as kind
use Rattle.ia_meaning.specs.declared.state.FrameShape.{FrameShape}
use Rattle.ia_meaning.specs.State.{IsFrame}
use Rattle.ia_meaning.specs.Frames.{is_frame, marked_frame, return_fault, returned_frame}
use Rattle.ia_meaning.proofs.ReturnFrames.{MayReturn, unrefused, moved_frame}
use Rattle.frame_shapes.specs.declared.fault.StackFault.{StackFault}
use Rattle.frame_shapes.specs.declared.fault.StackFault.TheVariants.{BadFrame, Underflow, StackLimit}
use Rattle.frame_shapes.specs.Faults.{kind_of, return_fault_within, ReturnFaultIsThat}

by_tests : (bad under over : Bool) → option_map kind_of (if bad then Some BadFrame else if under then Some Underflow else if over then Some
    StackLimit else None) ≡ (if bad then Some kind.BadFrame else if under then Some kind.Underflow else if over then Some
    kind.StackLimit else None)
by_tests true under over = refl
by_tests false true over = refl
by_tests false false true = refl
by_tests false false false = refl

pub return_fault_is : ReturnFaultIsThat
unfolding return_fault_within return_fault
return_fault_is base f = by_tests (not (is_frame f)) (nat_lt base f.sol) (nat_lt STACK_LIMIT (base - f.sol + f.sof))

-- A return that has no fault has none in a stack of that limit.
pub return_free : (limit base : ℕ) (f : FrameShape) → limit ≡ STACK_LIMIT → return_fault base f ≡ None
    → return_fault_within limit base f ≡ None
return_free limit base f e free = rw e (none_of (return_fault_within STACK_LIMIT base f) (return_fault_is base f ∙ free))
  where
    none_of : (o : Option StackFault) → option_map kind_of o ≡ None → o ≡ None
    none_of None h = refl
    none_of (Some k) h = absurd (cc)

pub may_return : (limit base : ℕ) (f : FrameShape) → return_fault_within limit base f ≡ None → MayReturn limit base f
unfolding return_fault_within
may_return limit base f e = unrefused BadFrame Underflow StackLimit limit base f e

-- The frame of a return is the one of the marker, at another base.
pub rebased : (base to pfs : ℕ) → record (marked_frame base pfs) { base = to } ≡ marked_frame to pfs
unfolding marked_frame
rebased base to pfs = refl

end_of : (base pfs : ℕ) → (returned_frame base pfs).base + (returned_frame base pfs).sof
    ≡ base - (marked_frame base pfs).sol + (marked_frame base pfs).sof
unfolding marked_frame
end_of base pfs = refl

base_falls : (base pfs : ℕ) → (returned_frame base pfs).base ≤ base
unfolding marked_frame
base_falls base pfs = omega arith

-- A return that has no fault enters a frame that has room.
pub free_frame : (limit base pfs : ℕ) (f : FrameShape) → f ≡ returned_frame base pfs
    → return_fault_within limit base (marked_frame base pfs) ≡ None → IsFrame f × (f.base + f.sof ≤ limit) × (f.base ≤ base)
free_frame limit base pfs f is free =
    let may = may_return limit base (marked_frame base pfs) free in
    let within = may.within in
    rw is (moved_frame base (base - (marked_frame base pfs).sol) pfs may.frame, rw (end_of base pfs) within, base_falls base pfs)
