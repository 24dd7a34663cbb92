-- The examples of groups in two orders, computed.
use Rattle.std.proofs.Common.{◌≡◌, true, refl, ap, inl, ◌∷◌, [], arith, rules}
use Rattle.ia_program.specs.Places.{insn_at}
use Rattle.ia_meaning.specs.declared.state.Cell.{Cell}
use Rattle.ia_meaning.specs.State.{IsStart, zero_registers}
use Rattle.ia_meaning.specs.declared.write.Write.TheVariants.{SetPredicate}
use Rattle.ia_meaning.specs.Names.{look, spot, holds, frame_index, predicate_index, predicate_spot}
use Rattle.ia_meaning.specs.Sequence.{next_of, is_stopped}
use Rattle.ia_meaning.specs.Landings.{is_entry, landing}
use Rattle.ia_meaning.specs.Loads.{access_fault, loaded, stored, untouched}
use Rattle.ia_meaning.specs.Moves.{has_reserved_zeros}
use Rattle.ia_meaning.specs.Frames.{has_zero_bases, marked_frame, is_frame, return_fault}
use Rattle.ia_meaning.specs.Steps.{Run, seq_step}
use Rattle.ia_meaning.proofs.Inside.{first_is_place}
use Rattle.ia_meaning.proofs.Starts.{zero_registers_are}
use Rattle.state_laws.proofs.InRange.{apply_keeps}
use Rattle.order_laws.specs.OrderExamples.{TwoOrders, TwoMoves, FirstAlloc, LateAlloc, BranchPredicate, BranchRegister, ReturnState, ParallelCompares, MemoryOrder, SpillsAndFills, static_of, cell, later_writes, with_p6, LaterWrites}

pub two_orders : TwoOrders
unfolding look spot holds next_of insn_at is_stopped
two_orders = (refl, refl)

pub two_moves_ordered : TwoMoves
unfolding look spot holds next_of insn_at is_stopped has_reserved_zeros
two_moves_ordered = (refl, refl, refl, refl, refl, refl, refl, refl, refl, refl)

pub first_alloc : FirstAlloc
unfolding look spot holds frame_index next_of insn_at is_stopped has_zero_bases
first_alloc = (refl, refl, refl, refl, refl, refl)

pub late_alloc : LateAlloc
unfolding look spot holds frame_index next_of insn_at is_stopped has_zero_bases seq_step
late_alloc = (refl, refl, refl)

pub branch_predicate : BranchPredicate
unfolding look spot holds predicate_index predicate_spot next_of insn_at is_stopped is_entry landing seq_step
branch_predicate = (refl, refl, refl, refl, refl, refl)

pub branch_register : BranchRegister
unfolding look spot holds predicate_index next_of insn_at is_stopped is_entry landing
branch_register = (refl, refl)

pub return_state : ReturnState
unfolding look spot holds predicate_index next_of insn_at is_stopped is_entry landing has_reserved_zeros marked_frame is_frame return_fault
return_state = (refl, refl, refl)

pub parallel_compares : ParallelCompares
unfolding look spot holds predicate_index predicate_spot next_of insn_at is_stopped
parallel_compares = (refl, refl, refl, refl)

pub memory_order : MemoryOrder
unfolding look spot holds next_of insn_at is_stopped access_fault loaded stored untouched
memory_order = (refl, refl)

pub spills_and_fills : SpillsAndFills
unfolding look spot holds next_of insn_at is_stopped access_fault loaded stored untouched
spills_and_fills = (refl, refl, refl)

-- A run may start from the zero state with p6.
with_p6_is_start : IsStart later_writes (with_p6 later_writes)
with_p6_is_start = record {
  state = record {
    registers = apply_keeps (SetPredicate 6 true ∷ []) zero_registers ((λ e. absurd (omega arith)), tt) zero_registers_are;
    memory =
        record {
          count = refl;
          bytes = λ i. omega arith;
          most = omega arith;
          entries = λ k d h. absurd (omega (arith, h));
          apart = search rules;
        };
    place = first_is_place later_writes.bundles 0 (omega arith);
  };
  slot = refl;
  entry = record { inside = omega arith; kind = inl refl };
  promised = refl;
}

pub later_writes_differ : LaterWrites
unfolding look spot holds predicate_index predicate_spot next_of insn_at is_stopped seq_step
later_writes_differ = (
  λ order_independent. of (ap (λ (r : Run). static_of 14 r.state.registers)
      (order_independent 2 ([] ∷ (1 ∷ []) ∷ []) (with_p6 later_writes) with_p6_is_start)),
  refl,
  refl,
  refl,
  refl,
  refl,
)
  where
    of : cell 1 ≡ cell 2 → ⊥
    of e = let v : 1 ≡ 2 = ap (λ (c : Cell). c.value) e in omega (arith, v)
