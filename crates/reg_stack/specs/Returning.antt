-- What a caller finds again when its callee returns (volume 1, chapter 4, register stack, and volume 2, chapter 6,
-- register stack engine).
use Rattle.std.specs.Prelude.{◌≡◌, ℕ, ◌+◌, ◌<◌, ◌≤◌, Bool, List, [], ◌∷◌, get_or, Option, Some, None}
use Rattle.ia_meaning.specs.declared.state.Cell.{Cell}
use Rattle.ia_meaning.specs.State.{zero_cell}
use Rattle.ia_meaning.specs.Names.{spot}
use Rattle.ia_meaning.specs.Frames.{with_sizes, rotated, cleared, call_frame, frame_marker, marked_frame, returned_frame}
use Rattle.frame_shapes.specs.declared.fault.StackFault.{StackFault}
use Rattle.frame_shapes.specs.Faults.{alloc_fault_within, return_fault_within}
use Rattle.reg_stack.specs.Stacks.{StackState, IsStack, with_cell, entered}

-- The calls that change a register stack, with what they are given.
pub data StackCall : Type 0 where
  Set : ℕ → Cell → StackCall
  Alloc : ℕ → ℕ → ℕ → StackCall
  Call : StackCall
  Return : ℕ → StackCall
  Rotate : StackCall
  Clear : Bool → StackCall

-- The new stack, or the old one where the call is refused.
abbrev pub unless_refused : Option StackFault → StackState → StackState → StackState
unless_refused (Some fault) old new = old
unless_refused None old new = new

-- What a call leaves.
abbrev pub after_call : StackState → StackCall → StackState
after_call s (Set r cell) = record s { cells = with_cell s.cells (spot s.frame r) cell }
after_call s (Alloc sof sol sor) =
    unless_refused (alloc_fault_within s.limit s.frame (with_sizes s.frame sof sol sor)) s
    (entered s (with_sizes s.frame sof sol sor))
after_call s Call = entered s (call_frame s.frame)
after_call s (Return pfm) =
    unless_refused (return_fault_within s.limit s.frame.base (marked_frame s.frame.base pfm)) s
    (entered s (returned_frame s.frame.base pfm))
after_call s Rotate = record s { frame = rotated s.frame }
after_call s (Clear pred_only) = record s { frame = cleared pred_only s.frame }

-- What calls leave, in order.
abbrev pub after_calls : StackState → List StackCall → StackState
after_calls s [] = s
after_calls s (next ∷ rest) = after_calls (after_call s next) rest

-- No frame, from that of s to that after the last call, begins below cell n.
abbrev pub StaysFrom : ℕ → StackState → List StackCall → Type 0
StaysFrom n s [] = n ≤ s.frame.base
StaysFrom n s (next ∷ rest) = (n ≤ s.frame.base) × StaysFrom n (after_call s next) rest

-- A return from t to the frame of s isn't refused, and leaves that frame with all its cells in the ring. The cells
-- below the end of its locals are what they are in s, values and NaT bits: those of its local registers, and those of
-- its callers.
pub record ReturnsTo (s t : StackState) : Type 0 where
  pub unrefused : return_fault_within t.limit t.frame.base (marked_frame t.frame.base (frame_marker s.frame)) ≡ None
  pub frame : (after_call t (Return (frame_marker s.frame))).frame ≡ s.frame
  pub resident : (after_call t (Return (frame_marker s.frame))).range.low ≤ s.frame.base
  pub cells : (c : ℕ) → c < s.frame.base + s.frame.sol → get_or (after_call t (Return (frame_marker s.frame))).cells c zero_cell
      ≡ get_or s.cells c zero_cell

-- A caller finds its registers again: whatever its callee calls, however often cells are spilled and filled, as long
-- as no frame begins below the callee's, a return from a frame that begins where the callee's does goes back to it.
abbrev pub CallerFindsItsRegisters : Type 0
CallerFindsItsRegisters =
    (s : StackState) (calls : List StackCall) → IsStack s → StaysFrom (s.frame.base + s.frame.sol) (after_call s Call) calls
    → (after_calls (after_call s Call) calls).frame.base ≡ s.frame.base + s.frame.sol → ReturnsTo s (after_calls (after_call s Call) calls)
