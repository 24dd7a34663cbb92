-- Frames that are renamed, and those of an `alloc` that has no fault.
use Rattle.std.proofs.Common.{ℕ, ◌+◌, ◌*◌, ◌≤◌, ◌<◌, ◌≡◌, ◌⊎◌, Bool, true, false, None, arith, refl}
use Rattle.ia_meaning.specs.declared.limits.TheConstants.{STACK_LIMIT}
use Rattle.ia_meaning.specs.declared.state.FrameShape.{FrameShape}
use Rattle.ia_meaning.specs.State.{IsFrame}
use Rattle.ia_meaning.specs.Frames.{has_zero_bases, with_sizes, rotated, cleared}
use Rattle.frame_shapes.specs.Faults.{alloc_fault_within, alloc_fault}

-- A frame that is renamed ends where it ended.
pub rotated_end : (f : FrameShape) → (rotated f).base + (rotated f).sof ≡ f.base + f.sof
unfolding rotated
rotated_end f = refl

pub cleared_end : (pred_only : Bool) (f : FrameShape) → (cleared pred_only f).base + (cleared pred_only f).sof ≡ f.base + f.sof
cleared_end true f = refl
cleared_end false f = refl

-- An `alloc` that has no fault has none in the register stack.
pub alloc_free : (limit : ℕ) (old new : FrameShape) → limit ≡ STACK_LIMIT → alloc_fault old new ≡ None
    → alloc_fault_within limit old new ≡ None
unfolding alloc_fault_within
alloc_free limit old new e h = rw e (grind arith)

-- An `alloc` without a fault in the register stack gives a frame that has room.
pub sized_frame : (limit : ℕ) (old : FrameShape) (sof sol sor : ℕ) → IsFrame old → sof ≤ 96 → sol ≤ sof → 8 * sor ≤ sof
    → alloc_fault_within limit old (with_sizes old sof sol sor) ≡ None
    → IsFrame (with_sizes old sof sol sor) × ((with_sizes old sof sol sor).base + (with_sizes old sof sol sor).sof ≤ limit)
unfolding alloc_fault_within has_zero_bases
sized_frame limit old sof sol sor frame size locals rotating free =
    let general : (old.rrbs.gr < 8 * sor) ⊎ (old.rrbs.gr ≡ 0) = grind arith in
    let within : old.base + sof ≤ limit = grind arith in (
      record {
        size = size;
        locals = locals;
        rotating = rotating;
        general = general;
        floating = frame.floating;
        predicates = frame.predicates;
      },
      within,
    )
