-- A step of the machine at a place of its program.
use Rattle.std.proofs.Common.{◌≡◌, ◌∙◌, ℕ, refl, sym, subst, ap, arith}
use Rattle.std.proofs.lemmas.Bool.Decides.{nat_tests}
use Rattle.ia_program.specs.declared.ending.End.TheVariants.{Fault}
use Rattle.ia_program.specs.declared.ending.FaultKind.TheVariants.{FellOff}
use Rattle.std.specs.Prelude.{Option, Some, None, IsSome, ◌≢◌, option_map}
use Rattle.ia_insn.specs.declared.insn.Insn.{Insn}
use Rattle.ia_program.specs.declared.place.Place.{Place}
use Rattle.ia_program.specs.Places.{place_at, insn_at, IsPlaceOf}
use Rattle.ia_program.specs.Programs.{Program, IsProgram}
use Rattle.ia_program.proofs.InOrder.{bundle_small}
use Rattle.ia_meaning.specs.State.{State}
use Rattle.ia_meaning.specs.declared.next.Next.TheVariants.{Falls, Goes}
use Rattle.ia_meaning.specs.Sequence.{first_of, next_of, is_stopped}
use Rattle.ia_meaning.specs.Steps.{how_falling}
use Rattle.ia_meaning.specs.Progress.{slots_after, stepped}
use Rattle.ia_meaning.specs.Actions.{insn_action}
use Rattle.ia_meaning.specs.ActionRanges.{HasActionRanges}
use Rattle.ia_meaning.proofs.StepHere.{step_here as step_at, insn_here}
use Rattle.slot_effects.specs.declared.slot_effect.SlotEffect.{SlotEffect}
use Rattle.machine_state.specs.Contents.{Contents}
use Rattle.machine_state.specs.Changes.{outcome_with}
use Rattle.slot_table.specs.declared.slot.Slot.{Slot}
use Rattle.slot_table.specs.Slots.{slot_of, slot_at}
use Rattle.slot_table.proofs.SlotLaws.{in_range}
use Rattle.emulator.specs.declared.code.CodeSlot.{CodeSlot}
use Rattle.emulator.specs.declared.run.Run.{Run}
use Rattle.emulator.specs.Works.{action_of}
use Rattle.emulator.specs.declared.code.TheConstants.{NO_PLACE}
use Rattle.emulator.specs.Codes.{numbered, IsCodeSlotOf, IsCodeSlot}
use Rattle.emulator.specs.Outcomes.{outcome_of}
use Rattle.emulator.specs.Progress.{state_at, state_of, progress_of, settled_step, arrived, IsHere}

here_of : (p : Program) (s : State) (insn : Insn) (slot : Slot) (d : CodeSlot) → IsProgram p → insn_at p.bundles s.place ≡ Some insn
    → slot_of p.bundles s.place insn ≡ slot → IsCodeSlotOf s.place.bundle slot d → IsHere p s d
here_of p s insn slot d program at e is =
    let i = in_range p s.place insn program at in
    let few = bundle_small p.bundles s.place (subst IsSome (sym at) refl) in
    let action : action_of d.work ≡ insn_action insn = is.action ∙ ap (λ (x : Slot). x.action) (sym e) in
    let qp : d.qp ≡ insn.qp = is.qp ∙ ap (λ (x : Slot). x.qp) (sym e) in
    record {
      bundle = omega (arith, few, program.counts.bundles);
      ranges = subst HasActionRanges (sym action) i.ranges;
      target = is.target;
      next = is.next ∙ ap (λ (x : Slot). x.next) (sym e);
      stop = is.stop ∙ ap (λ (x : Slot). x.stop) (sym e);
      step = rw (action, qp) (step_at p s insn at);
    }

-- At a place of the program stands what its number gives.
pub slot_here : (p : Program) (c : Contents) (n : ℕ) (d : CodeSlot) → IsProgram p → IsPlaceOf p.bundles (place_at n)
    → IsCodeSlot p.bundles n d → IsHere p (state_at c (place_at n)) d
unfolding slot_at
slot_here p c n d program is each =
    let i = insn_here p (state_at c (place_at n)) is in
    let slot = slot_of p.bundles (place_at n) i.0 in
    here_of p (state_at c (place_at n)) i.0 slot d program i.1 refl (each slot (ap (option_map (slot_of p.bundles (place_at n))) i.1))

-- Where there is no next place, a run that falls through ends.
pub falls_off : (r : Run) (p : Program) (o : SlotEffect) (n : ℕ) → r.end ≡ None → o.next ≡ Falls → n ≡ NO_PLACE
    → numbered n ≡ next_of p.bundles (place_at r.number)
    → stepped (progress_of r) (settled_step p (state_of r) (next_of p.bundles (place_at r.number)) (outcome_of r.state o))
    ≡ progress_of (record r { end = Some (Fault FellOff (place_at r.number)); slots = 0 })
falls_off r p o n running falls none e = rw falls (rw (← e, none) (cc))

-- Else it goes on to that, or to a bundle, with a change.
pub falls_on : (r : Run) (p : Program) (o : SlotEffect) (n : ℕ) → r.end ≡ None → o.next ≡ Falls → n ≢ NO_PLACE
    → numbered n ≡ next_of p.bundles (place_at r.number)
    → stepped (progress_of r) (settled_step p (state_of r) (next_of p.bundles (place_at r.number)) (outcome_of r.state o))
    ≡ arrived (progress_of r) (outcome_with r.state o.change Falls) (place_at n)
    (slots_after r.slots (how_falling (is_stopped p.bundles (place_at r.number))))
falls_on r p o n running falls some e =
    let there : numbered n ≡ Some (place_at n) = grind (arith, nat_tests) in
    let next : Some (place_at n) ≡ next_of p.bundles (place_at r.number) = sym there ∙ e in
    rw falls (rw (← next) (cc))

pub goes_on : (r : Run) (p : Program) (o : SlotEffect) (next : Option Place) (bundle : ℕ) → r.end ≡ None → o.next ≡ Goes bundle
    → stepped (progress_of r) (settled_step p (state_of r) next (outcome_of r.state o)) ≡ arrived (progress_of r)
    (outcome_with r.state o.change Falls) (first_of bundle) 0
goes_on r p o None bundle running goes = rw goes (cc)
goes_on r p o (Some next) bundle running goes = rw goes (cc)
