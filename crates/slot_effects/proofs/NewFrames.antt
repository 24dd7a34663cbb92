-- The frames of `alloc`.
use Rattle.std.proofs.Common.{ℕ, ◌≡◌, ◌+◌, ◌<◌, ◌≤◌, false, ◌∷◌, [], refl, arith}
use Rattle.std.specs.Prelude.{◌≢◌, Option, Some, None}
use Rattle.ia_program.specs.declared.ending.FaultKind.{FaultKind}
use Rattle.ia_meaning.specs.declared.state.Spot.{Spot}
use Rattle.ia_meaning.specs.declared.state.FrameShape.{FrameShape}
use Rattle.ia_meaning.specs.State.{Memory}
use Rattle.ia_meaning.specs.declared.write.Write.TheVariants.{SetFrame}
use Rattle.ia_meaning.specs.declared.write.FrameCause.TheVariants.{Resized}
use Rattle.ia_meaning.specs.Names.{spot}
use Rattle.ia_meaning.specs.Outcomes.{falls, faults}
use Rattle.ia_meaning.specs.Frames.{with_sizes, allocated}
use Rattle.frame_shapes.specs.Faults.{alloc_fault_within, alloc_fault}
use Rattle.slot_effects.specs.Changes.{set_at}

-- A register is in the new frame exactly where its number is small enough.
pub outside_new : (f : FrameShape) (sof sol sor r : ℕ) → 32 + sof ≤ r → spot (with_sizes f sof sol sor) r ≡ None
unfolding spot
outside_new f sof sol sor r h = grind arith

pub inside_new : (f : FrameShape) (sof sol sor r : ℕ) → r < 32 + sof → spot (with_sizes f sof sol sor) r ≢ None
unfolding spot
inside_new f sof sol sor r h e = grind arith

at_place : (old new : FrameShape) (d : Spot) (pfs : ℕ) (m : Memory) → alloc_fault old new ≡ None
    → allocated old new (Some d) pfs m ≡ falls (SetFrame Resized new ∷ set_at (Some d) (record { value = pfs; nat = false }) []) m
unfolding alloc_fault_within
at_place old new d pfs m fault = grind arith

not_at_place : (old new : FrameShape) (d : Spot) (pfs : ℕ) (m : Memory) (k : FaultKind) → alloc_fault old new ≡ Some k
    → allocated old new (Some d) pfs m ≡ faults k m
unfolding alloc_fault_within
not_at_place old new d pfs m k fault = grind arith

-- An `alloc` whose target is in the new frame.
pub allocated_fits : (old new : FrameShape) (r pfs : ℕ) (m : Memory) → spot new r ≢ None → alloc_fault old new ≡ None
    → allocated old new (spot new r) pfs m ≡ falls (SetFrame Resized new ∷ set_at (spot new r) (record { value = pfs; nat = false }) []) m
allocated_fits old new r pfs m some fault = by_place (spot new r) refl
  where
    by_place : (o : Option Spot) → spot new r ≡ o → allocated old new o pfs m
        ≡ falls (SetFrame Resized new ∷ set_at o (record { value = pfs; nat = false }) []) m
    by_place None e = absurd (some e)
    by_place (Some d) e = at_place old new d pfs m fault

pub allocated_fails : (old new : FrameShape) (r pfs : ℕ) (m : Memory) (k : FaultKind) → spot new r ≢ None → alloc_fault old new ≡ Some k
    → allocated old new (spot new r) pfs m ≡ faults k m
allocated_fails old new r pfs m k some fault = by_place (spot new r) refl
  where
    by_place : (o : Option Spot) → spot new r ≡ o → allocated old new o pfs m ≡ faults k m
    by_place None e = absurd (some e)
    by_place (Some d) e = not_at_place old new d pfs m k fault
