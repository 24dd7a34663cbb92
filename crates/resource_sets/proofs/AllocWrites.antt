-- What an `alloc` writes.
use Rattle.std.proofs.Common.{◌≡◌, ℕ, ◌*◌, ◌≤◌, ◌<◌, ◌⊎◌, inl, inr, true, false, [], refl, sym, arith, true≢false}
use Rattle.std.proofs.lemmas.Bool.Decides.{nat_tests}
use Rattle.ia_program.proofs.OperandRanges.{ranges_of_listed}
use Rattle.ia_meaning.specs.declared.state.FrameShape.{FrameShape}
use Rattle.ia_meaning.specs.declared.action.Action.{Action}
use Rattle.ia_meaning.specs.declared.action.Action.TheVariants.{Allocate}
use Rattle.ia_meaning.specs.State.{Registers, Memory, IsFrame}
use Rattle.ia_meaning.specs.Outcomes.{Outcome}
use Rattle.ia_meaning.specs.Actions.{action_of, is_alloc}
use Rattle.ia_meaning.specs.ActionRanges.{HasActionRanges}
use Rattle.ia_meaning.specs.Frames.{with_sizes, has_zero_bases}
use Rattle.ia_meaning.specs.Effects.{Site}
use Rattle.ia_meaning.proofs.ActionRanges.{action_ranges}
use Rattle.ia_meaning.proofs.Inversions.{ActCases, SkipCases, guarded_cases}
use Rattle.resource_sets.specs.AccessLaws.{naming_frame, IsAllocated, AllocWritesItsFrameFirst, AllocatedFramesAreFrames}

-- Of each action that is an `alloc`.
act_allocated : (s : Site) (action : Action) (v : Registers) (m : Memory) (x : ℕ) → is_alloc action ≡ true
    → ActCases (IsAllocated (naming_frame action v.frame)) s action v m x
act_allocated s (Allocate r1 sof sol sor) v m x e = (
  λ kind. record { spills = refl; ways = inl refl },
  λ d at bases limit. record {
    spills = refl;
    ways = inr (record { target = d; cell = record { value = v.pfs; nat = false }; writes = refl; falls = refl; limit = limit });
  },
)
act_allocated s action v m x e = absurd (true≢false (sym e))

skip_allocated : (s : Site) (action : Action) (v : Registers) (m : Memory) → is_alloc action ≡ true
    → SkipCases (IsAllocated (naming_frame action v.frame)) s action v m
skip_allocated s (Allocate r1 sof sol sor) v m e = record { spills = refl; ways = inl refl }
skip_allocated s action v m e = absurd (true≢false (sym e))

-- An `alloc` writes its frame first.
pub frame_first : AllocWritesItsFrameFirst
frame_first s insn v m x e =
    let action : Action = action_of insn.op in
    guarded_cases (IsAllocated (naming_frame action v.frame)) s insn.qp action v m x (λ _. act_allocated s action v m x e)
    (λ _. skip_allocated s action v m e)

-- The rename base of general registers stays below a rotating part that changes only where it is 0.
base_below : (f : FrameShape) (sor : ℕ) → IsFrame f → (f.sor ≡ sor) ⊎ (has_zero_bases f ≡ true)
    → (f.rrbs.gr < 8 * sor) ⊎ (f.rrbs.gr ≡ 0)
unfolding has_zero_bases
base_below f sor frame (inl same) = let below = frame.general in rw (← same) below
base_below f sor frame (inr zero) = inr (grind (arith, nat_tests))

-- A frame of these sizes.
resized_frame : (f : FrameShape) (sof sol sor : ℕ) → IsFrame f → (sof ≤ 96) × (sol ≤ sof) × (8 * sor ≤ sof)
    → (f.sor ≡ sor) ⊎ (has_zero_bases f ≡ true) → IsFrame (with_sizes f sof sol sor)
resized_frame f sof sol sor frame sizes bases = record {
  size = sizes.0;
  locals = sizes.1;
  rotating = sizes.2;
  general = base_below f sor frame bases;
  floating = frame.floating;
  predicates = frame.predicates;
}

-- Of each action whose sizes are such.
abbrev WritesFrame : FrameShape → Outcome → Type 0
WritesFrame new o = (o.writes ≡ []) ⊎ IsFrame new

act_frame : (s : Site) (action : Action) (v : Registers) (m : Memory) (x : ℕ) → is_alloc action ≡ true → HasActionRanges action
    → IsFrame v.frame → ActCases (WritesFrame (naming_frame action v.frame)) s action v m x
act_frame s (Allocate r1 sof sol sor) v m x e sizes frame =
    (λ kind. inl refl, λ d at bases limit. inr (resized_frame v.frame sof sol sor frame sizes bases))
act_frame s action v m x e sizes frame = absurd (true≢false (sym e))

skip_frame : (s : Site) (action : Action) (v : Registers) (m : Memory) → is_alloc action ≡ true
    → SkipCases (WritesFrame (naming_frame action v.frame)) s action v m
skip_frame s (Allocate r1 sof sol sor) v m e = inl refl
skip_frame s action v m e = absurd (true≢false (sym e))

-- The frame that a listed `alloc` writes has the sizes and bases of a frame.
pub new_frame : AllocatedFramesAreFrames
new_frame s insn v m x e listed frame =
    let action : Action = action_of insn.op in
    guarded_cases (WritesFrame (naming_frame action v.frame)) s insn.qp action v m x
    (λ _. act_frame s action v m x e (action_ranges insn.op (ranges_of_listed insn listed)) frame) (λ _. skip_frame s action v m e)
