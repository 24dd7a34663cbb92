-- One slot of a group, by its entry in the table of slots.
use Rattle.std.proofs.Common.{◌≡◌, ◌+◌, ◌≤◌, ℕ, suc, Bool, true, false, ◌&&◌, length, Some, None, sym, ap, ◌∙◌, subst, arith}
use Rattle.ia_insn.specs.declared.insn.Insn.{Insn}
use Rattle.ia_program.specs.declared.ending.End.{End}
use Rattle.ia_program.specs.declared.ending.End.TheVariants.{Break, Fault}
use Rattle.ia_program.specs.declared.ending.FaultKind.{FaultKind}
use Rattle.ia_program.specs.declared.ending.FaultKind.TheVariants.{FellOff}
use Rattle.ia_program.specs.declared.place.Place.{Place}
use Rattle.ia_program.specs.Places.{insn_at, IsPlaceOf}
use Rattle.ia_program.specs.Programs.{Program, IsProgram}
use Rattle.ia_meaning.specs.declared.next.Next.TheVariants.{Falls, Goes, Breaks, Faults}
use Rattle.ia_meaning.specs.Actions.{insn_action, is_alloc}
use Rattle.ia_meaning.specs.Outcomes.{Outcome}
use Rattle.ia_meaning.specs.Sequence.{first_of}
use Rattle.ia_meaning.specs.Views.{view}
use Rattle.ia_meaning.specs.ParallelGroups.{Gathered, now_of, gathers}
use Rattle.ia_meaning.proofs.Follows.{next_is}
use Rattle.ia_meaning.proofs.Inside.{goes_inside}
use Rattle.slot_effects.specs.declared.slot_effect.SlotEffect.{SlotEffect}
use Rattle.slot_effects.specs.Changes.{outcome_making}
use Rattle.slot_effects.specs.Outcomes.{outcome_of_effect}
use Rattle.slot_table.specs.declared.slot.Slot.{Slot}
use Rattle.slot_table.proofs.SlotLaws.{IsSlotOf, slot_is}
use Rattle.group_engine.specs.declared.gathering.Gathering.{Gathering}
use Rattle.group_engine.specs.declared.limits.TheConstants.{SLOT_WRITE_LIMIT}
use Rattle.group_engine.specs.Kept.{branch_inputs_of}
use Rattle.group_engine.specs.Groups.{memory_of, gathered_of, rest_of, ComesNext, IsEffectOf, HasGathered, HasRestOf, MayGather, IsGathered}
use Rattle.group_engine.proofs.TakingIn.{gathers_falling}
use Rattle.group_engine.proofs.Slots.{fell, stops, goes_on, goes, breaks_off, faulted}

-- This is the slot of an instruction, and it does this with a previous function state.
pub record Does (p : Program) (g : Gathered) (slot : Slot) (e : SlotEffect) (pfs : ℕ) : Type 0 where
  pub of : IsSlotOf p.bundles g.place slot
  pub does : IsEffectOf p g of.insn e pfs

pub does_next : (p : Program) (g : Gathered) (slot : Slot) (e : SlotEffect) (pfs : ℕ) → ComesNext p g slot
    → ((insn : Insn) → insn_at p.bundles g.place ≡ Some insn → IsEffectOf p g insn e pfs) → Does p g slot e pfs
does_next p g slot e pfs next does =
    let i = slot_is p.bundles g.place slot next.at in record { of = i; does = does i.insn i.here }

-- The places to which it goes on are the program's.
pub falls_inside : (p : Program) (g : Gathered) (slot : Slot) (next : Place) → ComesNext p g slot → slot.next ≡ Some next
    → IsPlaceOf p.bundles next
falls_inside p g slot next h to =
    let i = slot_is p.bundles g.place slot h.at in
    let n = next_is p.bundles g.place next (ap (λ (s : Slot). s.next) i.is ∙ to) in
    n.is

pub branches_inside : (p : Program) (g : Gathered) (slot : Slot) (e : SlotEffect) (pfs bundle : ℕ) → Does p g slot e pfs → IsProgram p
    → IsPlaceOf p.bundles g.place → e.next ≡ Goes bundle → IsPlaceOf p.bundles (first_of bundle)
branches_inside p g slot e pfs bundle h program is taken =
    goes_inside p g.place h.of.insn (view h.of.insn (now_of g) g.base) g.memory g.unat bundle program is h.of.here
    (ap (λ (o : Outcome). o.next) (sym h.does.value) ∙ taken)

module _ (p : Program) (begins first : Bool) (g next : Gathered) (slot : Slot) (e : SlotEffect) (pfs : ℕ) (h : Does p g slot e pfs)
    (flag : first ≡ (begins && is_alloc slot.action)) where
  abbrev does : Outcome
  does = outcome_of_effect (record g.base { pfs = pfs }) g.memory e

  abbrev Takes : Place → Type 0
  Takes place = next ≡ gathers first g (outcome_making (record g.base { pfs = pfs }) g.memory e.change Falls) place

  same_flag : first ≡ (begins && is_alloc (insn_action h.of.insn))
  same_flag = flag ∙ ap (λ (s : Slot). begins && is_alloc s.action) (sym h.of.is)

  takes_in : (place : Place) → Takes place → gathers (begins && is_alloc (insn_action h.of.insn)) g does place ≡ next
  takes_in place took = rw (← same_flag) (gathers_falling first g (record g.base { pfs = pfs }) e place ∙ sym took)

  -- A slot that falls where there is no place ends the run with a fault.
  pub fell_off : e.next ≡ Falls → slot.next ≡ None → (most : ℕ) → HasGathered (rest_of (suc most) p begins g) g
      (Some (Fault FellOff g.place))
  fell_off falls none most =
      fell p begins g h.of.insn does h.of.here (sym h.does.value) most falls (ap (λ (s : Slot). s.next) h.of.is ∙ none)

  -- A slot that falls through to a stop ends the group.
  pub ends_group : (place : Place) → Takes place → e.next ≡ Falls → slot.next ≡ Some place → slot.stop ≡ true → (most : ℕ)
      → HasGathered (rest_of (suc most) p begins g) next None
  ends_group place took falls to stop most =
      subst (λ all. HasGathered (rest_of (suc most) p begins g) all None) (takes_in place took)
      (stops p begins g h.of.insn does h.of.here (sym h.does.value) most place falls (ap (λ (s : Slot). s.next) h.of.is ∙ to)
      (ap (λ (s : Slot). s.stop) h.of.is ∙ stop))

  -- A slot that falls through without a stop stays within its group.
  pub stays : (place : Place) → Takes place → e.next ≡ Falls → slot.next ≡ Some place → slot.stop ≡ false → (most : ℕ)
      → HasRestOf (rest_of (suc most) p begins g) (rest_of most p false next)
  stays place took falls to stop most =
      subst (λ all. HasRestOf (rest_of (suc most) p begins g) (rest_of most p false all)) (takes_in place took)
      (goes_on p begins g h.of.insn does h.of.here (sym h.does.value) most place falls (ap (λ (s : Slot). s.next) h.of.is ∙ to)
      (ap (λ (s : Slot). s.stop) h.of.is ∙ stop))

  -- A slot that branches ends the group.
  pub branches : (bundle : ℕ) → Takes (first_of bundle) → e.next ≡ Goes bundle → (most : ℕ)
      → HasGathered (rest_of (suc most) p begins g) next None
  branches bundle took taken most =
      subst (λ all. HasGathered (rest_of (suc most) p begins g) all None) (takes_in (first_of bundle) took)
      (goes p begins g h.of.insn does h.of.here (sym h.does.value) most bundle taken)

  -- A slot that ends the run by a `break` ends the group.
  pub ends_run : (imm : ℕ) → e.next ≡ Breaks imm → (most : ℕ) → HasGathered (rest_of (suc most) p begins g) g (Some (Break imm g.place))
  ends_run imm stop most = breaks_off p begins g h.of.insn does h.of.here (sym h.does.value) most imm stop

  pub has_fault : (kind : FaultKind) → e.next ≡ Faults kind → (most : ℕ)
      → HasGathered (rest_of (suc most) p begins g) g (Some (Fault kind g.place))
  has_fault kind fault most = faulted p begins g h.of.insn does h.of.here (sym h.does.value) most kind fault

-- Where it ends the run, nothing else changes.
pub run_over : (p : Program) (begins over : Bool) (old new : Gathering) (end : End) → MayGather p begins old → over ≡ true
    → new ≡ record old { end = Some end } → ((most : ℕ) → HasGathered (rest_of (suc most) p begins (gathered_of old)) (gathered_of old)
    (Some end)) → IsGathered p begins old new over
run_over p begins over old new end may is e h =
    rw (is, e) (record {
      ends = λ _. h;
      goes_on = λ go. absurd (cc);
      running = λ go. absurd (cc);
      place = may.place;
      latest = may.latest;
      few = omega arith;
    })

-- What a group takes in of it, and goes to a place.
pub record TakesIn (first : Bool) (old new : Gathering) (e : SlotEffect) (pfs : ℕ) (to : Place) : Type 0 where
  pub value : gathered_of new ≡ gathers first (gathered_of old) (outcome_making (record old.registers { pfs = pfs })
      (memory_of old.in_order) e.change Falls) to
  pub latest : new.kept.latest ≡ branch_inputs_of (now_of (gathered_of new))
  pub place : new.place ≡ to
  pub few : length new.kept.writes ≤ length old.kept.writes + SLOT_WRITE_LIMIT
  pub end : new.end ≡ old.end

pub falls_through : (p : Program) (begins first : Bool) (old new : Gathering) (slot : Slot) (e : SlotEffect) (pfs : ℕ) (place : Place)
    → MayGather p begins old → ComesNext p (gathered_of old) slot → Does p (gathered_of old) slot e pfs
    → first ≡ (begins && is_alloc slot.action)
    → TakesIn first old new e pfs place → e.next ≡ Falls → slot.next ≡ Some place → IsGathered p begins old new slot.stop
falls_through p begins first old new slot e pfs place may next does flag took falls to = record {
  ends =
      λ stop most. rw (took.end, may.running) (ends_group p begins first (gathered_of old)
      (gathered_of new) slot e pfs does flag place took.value falls to stop most);
  goes_on = λ stop most. stays p begins first (gathered_of old) (gathered_of new) slot e pfs does flag place took.value falls to stop most;
  running = λ _. took.end ∙ may.running;
  place = rw took.place (falls_inside p (gathered_of old) slot place next to);
  latest = took.latest;
  few = took.few;
}

pub takes_branch : (p : Program) (begins first : Bool) (old new : Gathering) (slot : Slot) (e : SlotEffect) (pfs bundle : ℕ)
    → MayGather p begins old → Does p (gathered_of old) slot e pfs → first ≡ (begins && is_alloc slot.action)
    → TakesIn first old new e pfs (first_of bundle) → e.next ≡ Goes bundle → IsGathered p begins old new true
takes_branch p begins first old new slot e pfs bundle may does flag took taken = record {
  ends =
      λ _ most. rw (took.end, may.running) (branches p begins first (gathered_of old)
      (gathered_of new) slot e pfs does flag bundle took.value taken most);
  goes_on = λ go. absurd (cc);
  running = λ go. absurd (cc);
  place = rw took.place (branches_inside p (gathered_of old) slot e pfs bundle does may.program may.place taken);
  latest = took.latest;
  few = took.few;
}
