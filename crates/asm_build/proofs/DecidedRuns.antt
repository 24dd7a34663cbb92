-- Each place of bundles is within its run, or one is the first past it.
use Rattle.std.proofs.Common.{◌⊎◌, inl, inr, ℕ, zero, suc, ◌+◌, ◌≤◌, List, [], ◌∷◌, length, Option, Some, None, slice_get, arith}
use Rattle.std.proofs.Math.Decide.{ℕ_discrete, dec_lt}
use Rattle.ia_insn.specs.declared.insn.Op.{Op}
use Rattle.ia_insn.specs.declared.insn.Op.TheVariants.{Br, BrCall, BrInd, BrRet, BrCallInd, Break}
use Rattle.ia_insn.specs.declared.choices.BranchKind.TheVariants.{Cond}
use Rattle.ia_program.specs.declared.limits.TheConstants.{RUN_LIMIT}
use Rattle.ia_program.specs.declared.place.Place.{Place}
use Rattle.ia_program.specs.declared.bundle.Slots.{Slots}
use Rattle.ia_program.specs.declared.bundle.Slots.TheVariants.{Three, Long}
use Rattle.ia_program.specs.Bundles.{Bundle, IsStopAfter, last_slot}
use Rattle.ia_program.specs.Places.{insn_at, IsPlaceOf, EachPlace, IsFirstBad}
use Rattle.ia_program.specs.Runs.{IsLeaving, EndsRun, IsWithinRun}
use Rattle.ia_program.specs.Templates.{stops_of}
use Rattle.ia_program.proofs.InOrder.{slot_small, bundle_small, lies_in, next_slot, next_bundle, no_next}
use Rattle.ia_program.proofs.Reaching.{HasReached, HasRun, Follows, first_reached, first_run, first_bad, goes_on, fewer_left, slots_left, within_run, past_run, run_ends, run_goes_on}
use Rattle.insn_rows.proofs.Decided.{either, both, some_and, contains}

leaving : (x : Op) → Dec (IsLeaving x)
leaving (Br Cond wh many clr disp) = yes tt
leaving (BrCall b1 wh many clr disp) = yes tt
leaving (BrInd b2 wh many clr) = yes tt
leaving (BrRet b2 wh many clr) = yes tt
leaving (BrCallInd b1 b2 wh many clr) = yes tt
leaving (Break unit imm) = yes tt
leaving x = no (λ h. h)

stop_after : (template : ℕ) (slots : Slots) (slot : ℕ) → Dec (IsStopAfter template slots slot)
stop_after template (Three a b c) slot = contains (stops_of template) slot
stop_after template (Long first long) slot = both (ℕ_discrete slot 1) (contains (stops_of template) 2)

ends_run : (bundles : List Bundle) (place : Place) → Dec (EndsRun bundles place)
ends_run bundles place =
    either
    (some_and (slice_get bundles place.bundle) (λ b. stop_after b.template b.slots place.slot))
    (some_and (insn_at bundles place) (λ i. both (ℕ_discrete i.qp 0) (leaving i.op)))

-- What comes after a place.
next : (bundles : List Bundle) (place : Place) → IsPlaceOf bundles place → (after : Option Place) × Follows bundles place after
next bundles place is =
    let l = lies_in bundles place is in
    elim (dec_lt place.slot (last_slot l.bundle.slots)) [
      | yes less ↦ (Some (record { bundle = place.bundle; slot = place.slot + 1 }), next_slot bundles place l.bundle l.is less)
      | no last ↦ elim (dec_lt (place.bundle + 1) (length bundles)) [
        | yes inside ↦ (Some (record { bundle = place.bundle + 1; slot = 0 }), next_bundle bundles place l.bundle l.is (omega arith) inside)
        | no end ↦ (None, no_next bundles place l.bundle l.is (omega arith) (omega arith))
      ]
    ]

-- A place is the first past its run, or all are within theirs.
abbrev pub HasLongRunOrNone : List Bundle → Type 0
HasLongRunOrNone bundles = ((place : Place) × IsFirstBad bundles (IsWithinRun bundles) place) ⊎ EachPlace bundles (IsWithinRun bundles)

from_place : (bundles : List Bundle) (left : ℕ) (reached : Option Place) (run : ℕ) → slots_left (length bundles) reached ≤ left
    → HasReached bundles (IsWithinRun bundles) reached → HasRun bundles reached run → run ≤ RUN_LIMIT → HasLongRunOrNone bundles
from_place bundles left None run few each has most = inr each
from_place bundles zero (Some place) run few r has most =
    let s = slot_small bundles place r.is in
    absurd (omega arith)
from_place bundles (suc left) (Some place) run few r has most =
    let n = next bundles place r.is in
    let fewer = fewer_left bundles place n.0 r.is n.1 in
    elim (dec_lt run RUN_LIMIT) [
      | no past ↦ inl (place, first_bad bundles (IsWithinRun bundles) place r (past_run bundles place run has (omega arith)))
      | yes small ↦
          let reached = goes_on bundles (IsWithinRun bundles) place n.0 r (within_run bundles place run has small) n.1 in
          elim (ends_run bundles place) [
            | yes ends ↦ from_place bundles left n.0 0 (omega arith) reached (run_ends bundles place n.0 r.is ends n.1) (omega arith)
            | no on ↦ from_place bundles left n.0 (run + 1) (omega arith) reached (run_goes_on bundles place n.0 run r.is on has n.1)
                (omega arith)
          ]
    ]

pub long_run_or_none : (bundles : List Bundle) → HasLongRunOrNone bundles
long_run_or_none [] = inr (λ place is. absurd (let s = bundle_small [] place is in omega arith))
long_run_or_none (b ∷ bs) =
    from_place (b ∷ bs) (slots_left (length (b ∷ bs)) (Some (record { bundle = 0; slot = 0 })))
    (Some (record { bundle = 0; slot = 0 })) 0 (omega arith)
    (first_reached (b ∷ bs) (IsWithinRun (b ∷ bs)) (omega arith)) (first_run (b ∷ bs)) (omega arith)
