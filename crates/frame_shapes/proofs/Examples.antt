-- Worked examples.
use Rattle.std.proofs.Common.{◌≡◌, ◌+◌, ◌*◌, ◌^◌, Some, None, refl}
use Rattle.ia_program.specs.declared.ending.FaultKind.TheVariants as kind
use Rattle.ia_meaning.specs.declared.state.FrameShape.{FrameShape}
use Rattle.ia_meaning.specs.Frames.{with_sizes, marked_frame, is_frame, has_zero_bases}
use Rattle.frame_shapes.specs.declared.fault.StackFault.TheVariants.{BadFrame, Underflow, StackLimit, ReservedField}
use Rattle.frame_shapes.specs.Faults.{alloc_fault_within, alloc_fault, return_fault_within}

-- A frame of 97 registers, which also reaches below the first cell.
bad_frame : return_fault_within 200 0 (marked_frame 0 (97 + 2 ^ 7 * 5)) ≡ Some BadFrame
unfolding return_fault_within marked_frame is_frame
bad_frame = refl

underflow : return_fault_within 200 4 (marked_frame 4 (10 + 2 ^ 7 * 5)) ≡ Some Underflow
unfolding return_fault_within marked_frame is_frame
underflow = refl

too_many : return_fault_within 200 110 (marked_frame 110 (96 + 2 ^ 7 * 5)) ≡ Some StackLimit
unfolding return_fault_within marked_frame is_frame
too_many = refl

just_enough : return_fault_within 200 109 (marked_frame 109 (96 + 2 ^ 7 * 5)) ≡ None
unfolding return_fault_within marked_frame is_frame
just_enough = refl

-- 8 rotating registers where there were none, after a rotation of the predicates.
turned : FrameShape
turned = record { base = 190; sof = 0; sol = 0; sor = 0; rrbs = record { gr = 0; fr = 0; pr = 47 } }

reserved : alloc_fault_within 200 turned (with_sizes turned 16 0 1) ≡ Some ReservedField
unfolding alloc_fault_within has_zero_bases turned
reserved = refl

same_rotation : alloc_fault_within 200 turned (with_sizes turned 16 0 0) ≡ Some StackLimit
unfolding alloc_fault_within has_zero_bases turned
same_rotation = refl

-- In a stack of the most cells there is room.
room_for_all : alloc_fault turned (with_sizes turned 16 0 0) ≡ None
unfolding alloc_fault_within has_zero_bases turned
room_for_all = refl

reserved_for_all : alloc_fault turned (with_sizes turned 16 0 1) ≡ Some kind.ReservedField
unfolding alloc_fault_within has_zero_bases turned
reserved_for_all = refl
