-- The frame of a return.
use Rattle.std.proofs.Common.{◌≡◌, ℕ, ◌+◌, ◌-◌, ◌≤◌, Bool, false, not, if◌then◌else◌, nat_lt, Some, None, arith}
use Rattle.std.specs.Prelude.{IsTrue}
use Rattle.std.proofs.lemmas.Bool.Decides.{nat_tests}
use Rattle.ia_meaning.specs.declared.limits.TheConstants.{STACK_LIMIT}
use Rattle.ia_program.specs.declared.ending.FaultKind.TheVariants.{BadFrame, Underflow, StackLimit}
use Rattle.ia_meaning.specs.declared.state.FrameShape.{FrameShape}
use Rattle.ia_meaning.specs.State.{IsFrame}
use Rattle.ia_meaning.specs.Frames.{is_frame, marked_frame, return_fault}
use Rattle.ia_meaning.proofs.Starts.{frame_decides}

-- What is known where a return to a frame below a base isn't refused.
pub record MayReturn (limit base : ℕ) (f : FrameShape) : Type 0 where
  pub frame : IsFrame f
  pub above : f.sol ≤ base
  pub within : base - f.sol + f.sof ≤ limit

none_of_three : {Fault : Type 0} (a b c : Fault) (good under over : Bool)
    → (if not good then Some a else if under then Some b else if over then Some c else None) ≡ None
    → IsTrue good × (under ≡ false) × (over ≡ false)
none_of_three a b c good under over e = grind arith

-- A return that none of the three faults refuses, whatever they are.
pub unrefused : {Fault : Type 0} (a b c : Fault) (limit base : ℕ) (f : FrameShape)
    → (if not (is_frame f) then Some a else if nat_lt base f.sol then Some b else if nat_lt limit (base - f.sol + f.sof) then Some
    c else None) ≡ None
    → MayReturn limit base f
unrefused a b c limit base f e =
    let tests = none_of_three a b c (is_frame f) (nat_lt base f.sol) (nat_lt limit (base - f.sol + f.sof)) e in
    let under : nat_lt base f.sol ≡ false = tests.1 in
    let over : nat_lt limit (base - f.sol + f.sof) ≡ false = tests.2 in
    record { frame = (frame_decides f).0 tests.0; above = grind (arith, nat_tests, under); within = grind (arith, nat_tests, over) }

pub may_return : (base : ℕ) (f : FrameShape) → return_fault base f ≡ None → MayReturn STACK_LIMIT base f
unfolding return_fault
may_return base f e = unrefused BadFrame Underflow StackLimit STACK_LIMIT base f e

-- The frame of a marker has the same sizes at each base.
pub moved_frame : (base to pfs : ℕ) → IsFrame (marked_frame base pfs) → IsFrame (marked_frame to pfs)
unfolding marked_frame
moved_frame base to pfs h = assumption (h)
