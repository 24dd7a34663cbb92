-- The frames that instructions write are frames within the stack.
use Rattle.std.proofs.Common.{◌≡◌, ℕ, ◌+◌, ◌-◌, ◌*◌, ◌%◌, ◌^◌, ◌<◌, ◌≤◌, ◌⊎◌, inl, inr, Bool, true, false, ◌==◌, if◌then◌else◌, None, refl, subst, arith}
use Rattle.std.proofs.lemmas.Bool.Decides.{nat_tests}
use Rattle.std.proofs.lemmas.Nat.{mod_below}
use Rattle.ia_meaning.specs.declared.state.FrameShape.{FrameShape}
use Rattle.ia_meaning.specs.State.{IsWord, HasReservedZeros, IsFrame}
use Rattle.ia_meaning.specs.declared.limits.TheConstants.{STACK_LIMIT}
use Rattle.ia_meaning.specs.Frames.{with_sizes, has_zero_bases, rotated, cleared, frame_marker, marked_frame, call_state, call_frame, return_fault, returned_frame}
use Rattle.ia_meaning.proofs.ReturnFrames.{may_return, moved_frame}

-- A frame whose cells are no more than there may be.
abbrev pub IsFrameWithin : FrameShape → Type 0
IsFrameWithin f = IsFrame f × (f.base + f.sof ≤ STACK_LIMIT)

zero_general : (f : FrameShape) → has_zero_bases f ≡ true → f.rrbs.gr ≡ 0
unfolding has_zero_bases
zero_general f h = grind (arith, nat_tests)

-- That of an `alloc`.
pub sized_frame : (f : FrameShape) (sof sol sor : ℕ) → IsFrame f → sof ≤ 96 → sol ≤ sof → 8 * sor ≤ sof
    → (f.sor ≡ sor) ⊎ (has_zero_bases f ≡ true) → IsFrame (with_sizes f sof sol sor)
sized_frame f sof sol sor h a b c same =
    record { size = a; locals = b; rotating = c; general = of same; floating = h.floating; predicates = h.predicates }
  where
    of : (f.sor ≡ sor) ⊎ (has_zero_bases f ≡ true) → (f.rrbs.gr < 8 * sor) ⊎ (f.rrbs.gr ≡ 0)
    of (inl e) = subst (λ (k : ℕ). (f.rrbs.gr < 8 * k) ⊎ (f.rrbs.gr ≡ 0)) e h.general
    of (inr z) = inr (zero_general f z)

-- That of a rotation.
rotated_base : (sor gr : ℕ) (b : Bool) → (sor == 0) ≡ b → ((if b then 0 else (gr + 8 * sor - 1) % (8 * sor)) < 8 * sor)
    ⊎ ((if b then 0 else (gr + 8 * sor - 1) % (8 * sor)) ≡ 0)
rotated_base sor gr true e = inr refl
rotated_base sor gr false e = let some : 0 < sor = grind (arith, nat_tests) in inl (mod_below (gr + 8 * sor - 1) (8 * sor) (omega arith))

pub rotated_within : (f : FrameShape) → IsFrameWithin f → IsFrameWithin (rotated f)
unfolding rotated
rotated_within f (h, within) =
    let general = rotated_base f.sor f.rrbs.gr (f.sor == 0) refl in
    let floating = mod_below (f.rrbs.fr + 95) 96 (omega arith) in
    let predicates = mod_below (f.rrbs.pr + 47) 48 (omega arith) in (
      record { size = h.size; locals = h.locals; rotating = h.rotating; general = general; floating = floating; predicates = predicates },
      within,
    )

-- That of `clrrrb`.
pub cleared_within : (pred_only : Bool) (f : FrameShape) → IsFrameWithin f → IsFrameWithin (cleared pred_only f)
cleared_within true f (h, within) = (
  record {
    size = h.size;
    locals = h.locals;
    rotating = h.rotating;
    general = h.general;
    floating = h.floating;
    predicates = omega arith;
  },
  within,
)
cleared_within false f (h, within) = (
  record {
    size = h.size;
    locals = h.locals;
    rotating = h.rotating;
    general = inr refl;
    floating = omega arith;
    predicates = omega arith;
  },
  within,
)

-- That of a call.
pub called_within : (f : FrameShape) → IsFrameWithin f → IsFrameWithin (call_frame f)
called_within f (h, within) =
    let size = h.size in
    let locals = h.locals in (
      record {
        size = omega arith;
        locals = omega arith;
        rotating = omega arith;
        general = inr refl;
        floating = omega arith;
        predicates = omega arith;
      },
      omega arith,
    )

-- That of a return.
pub returned_within : (base pfs : ℕ) → return_fault base (marked_frame base pfs) ≡ None → IsFrameWithin (returned_frame base pfs)
unfolding marked_frame
returned_within base pfs e =
    let may = may_return base (marked_frame base pfs) e in
    (moved_frame base (base - (marked_frame base pfs).sol) pfs may.frame, may.within)

-- The previous function state of a call.
marker_small : (sof sol sor gr fr pr : ℕ) → sof ≤ 96 → sol ≤ 96 → sor ≤ 12 → gr ≤ 96 → fr < 96 → pr < 48
    → sof + 2 ^ 7 * sol + 2 ^ 14 * sor + 2 ^ 18 * gr + 2 ^ 25 * fr + 2 ^ 32 * pr < 2 ^ 38
marker_small sof sol sor gr fr pr a b c d e f = omega arith

state_word : (marker ec : ℕ) → marker < 2 ^ 38 → ec < 64 → IsWord (marker + 2 ^ 52 * ec + 2 ^ 62 * 3)
state_word marker ec a b = omega arith

state_reserved : (marker ec : ℕ) → marker < 2 ^ 38 → ec < 64 → HasReservedZeros (marker + 2 ^ 52 * ec + 2 ^ 62 * 3)
state_reserved marker ec a b = (omega arith, omega arith)

frame_marker_small : (f : FrameShape) → IsFrame f → frame_marker f < 2 ^ 38
unfolding frame_marker
frame_marker_small f h =
    let a = h.size in let b = h.locals in let c = h.rotating in let d = h.general in let e = h.floating in let g = h.predicates in
    marker_small f.sof f.sol f.sor f.rrbs.gr f.rrbs.fr f.rrbs.pr (omega arith) (omega arith) (omega arith) (omega arith) e g

pub call_state_in_range : (f : FrameShape) (ec : ℕ) → IsFrame f → ec < 64 → IsWord (call_state f ec) × HasReservedZeros (call_state f ec)
unfolding call_state frame_marker
call_state_in_range f ec h k =
    let m = frame_marker_small f h in (state_word (frame_marker f) ec m k, state_reserved (frame_marker f) ec m k)
