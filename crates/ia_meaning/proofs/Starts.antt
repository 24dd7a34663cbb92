-- The zero state, and the test of frames.
use Rattle.std.proofs.Common.{refl, inl, inr, arith, rules}
use Rattle.std.proofs.lemmas.Bool.Decides.{nat_tests}
use Rattle.std.proofs.lemmas.List.Elements.{All-replicate}
use Rattle.std.specs.Prelude.{IsTrue, ◌↔◌}
use Rattle.ia_program.specs.Programs.{Program, IsProgram, IsEntry}
use Rattle.ia_meaning.specs.declared.state.FrameShape.{FrameShape}
use Rattle.ia_meaning.specs.State.{IsWord, IsFrame, AreRegisters, IsMemory, IsStart, zero_cell, zero_frame, zero_registers, zero_state}
use Rattle.ia_meaning.specs.Frames.{is_frame}
use Rattle.ia_meaning.proofs.Arrivals.{zero_keeps}
use Rattle.ia_meaning.proofs.GroupEnds.{zero_is_place}

zero_frame_is : IsFrame zero_frame
zero_frame_is =
    record {
      size = omega arith;
      locals = omega arith;
      rotating = omega arith;
      general = inr refl;
      floating = omega arith;
      predicates = omega arith;
    }

pub zero_registers_are : AreRegisters zero_registers
zero_registers_are = record {
  static_count = refl;
  statics = All-replicate (λ c. IsWord c.value) 32 zero_cell (omega arith);
  zero = refl;
  frame = zero_frame_is;
  cell_count = refl;
  most = omega arith;
  cells = λ k d h. absurd (omega (arith, h));
  predicate_count = refl;
  one = refl;
  branch_count = refl;
  branches = All-replicate IsWord 8 0 (omega arith);
  unat = omega arith;
  pfs = omega arith;
  reserved = (refl, refl);
  lc = omega arith;
  ec = omega arith;
}

zero_memory_is : (p : Program) → IsProgram p → IsMemory p (zero_state p).memory
zero_memory_is p program = record {
  count = refl;
  bytes = program.bytes;
  most = omega arith;
  entries = λ k d h. absurd (omega (arith, h));
  apart = search rules;
}

-- A run may start from the zero state.
pub zero_is_start : (p : Program) → IsProgram p → IsStart p (zero_state p)
zero_is_start p program =
    let some = program.counts.some in
    let entry : IsEntry p 0 = record { inside = omega (arith, some); kind = inl refl } in
    record {
      state = record { registers = zero_registers_are; memory = zero_memory_is p program; place = zero_is_place p program };
      slot = refl;
      entry = entry;
      promised = zero_keeps p 0 program;
    }

-- The test of frames says whether it is one.
pub frame_decides : (f : FrameShape) → IsTrue (is_frame f) ↔ IsFrame f
unfolding is_frame
frame_decides f = (
  λ h. record {
    size = grind (arith, nat_tests);
    locals = grind (arith, nat_tests);
    rotating = grind (arith, nat_tests);
    general = grind (arith, nat_tests);
    floating = grind (arith, nat_tests);
    predicates = grind (arith, nat_tests);
  },
  λ is. grind (arith, nat_tests),
)
