-- What slots do by the registers of their group's start.
use Rattle.std.proofs.Common.{◌≡◌, ℕ, ◌+◌, Bool, true, false, if◌then◌else◌, ◌==◌, List, [], ◌∷◌, length, get_or, Some, refl, sym, ap, ◌∙◌, subst, arith}
use Rattle.std.proofs.lemmas.Bool.Decides.{nat_tests}
use Rattle.std.proofs.lemmas.List.{length-set}
use Rattle.std.proofs.lemmas.Option.{same_Some}
use Rattle.ia_insn.specs.declared.insn.Insn.{Insn}
use Rattle.ia_program.specs.Places.{insn_at}
use Rattle.ia_program.specs.Programs.{Program, IsProgram}
use Rattle.ia_meaning.specs.declared.action.Action.{Action}
use Rattle.ia_meaning.specs.declared.action.Action.TheVariants.{Test, Jump, JumpIndirect, Loop, Call, Return}
use Rattle.ia_meaning.specs.declared.action.CallTarget.TheVariants.{Direct, Indirect}
use Rattle.ia_meaning.specs.declared.write.Write.{Write}
use Rattle.ia_meaning.specs.declared.write.Write.TheVariants.{SetPredicate}
use Rattle.ia_meaning.specs.State.{Registers, Memory}
use Rattle.ia_meaning.specs.Names.{predicate_index, holds}
use Rattle.ia_meaning.specs.Actions.{insn_action, is_branch, is_indirect}
use Rattle.ia_meaning.specs.ActionRanges.{HasActionRanges}
use Rattle.ia_meaning.specs.Effects.{Site, site, act, skip, guarded}
use Rattle.ia_meaning.specs.ParallelGroups.{Gathered, now_of}
use Rattle.ia_meaning.specs.Views.{sees_predicate, view}
use Rattle.ia_meaning.specs.Writes.{put, apply}
use Rattle.ia_meaning.proofs.PredicateIndexes.{holds_by_place}
use Rattle.ia_meaning.proofs.Views.{seen_at, view_plain}
use Rattle.slot_effects.specs.declared.slot_effect.SlotEffect.{SlotEffect}
use Rattle.slot_effects.specs.Changes.{MayMake}
use Rattle.slot_effects.specs.Outcomes.{outcome_of_effect}
use Rattle.slot_table.specs.declared.slot.Slot.{Slot}
use Rattle.slot_table.specs.Slots.{slot_of, slot_at}
use Rattle.slot_table.proofs.SlotLaws.{slot_is, in_range}
use Rattle.group_engine.specs.Kept.{branch_inputs_of}
use Rattle.group_engine.specs.Views.{seen_by}
use Rattle.group_engine.specs.Groups.{ComesNext, IsEffectOf, is_executed, done}
use Rattle.group_engine.proofs.Views.{holds_zero_seen}

-- Of what earlier slots wrote, a branch that isn't indirect sees no more than its qualifying predicate, and what is no branch
-- sees nothing. So what it does is the same by the registers of the start.
act_same : (s : Site) (f : Action) (insn : Insn) (now base : Registers) (m : Memory) (unat : ℕ) → is_indirect f ≡ false
    → insn_action insn ≡ f → act s f (view insn now base) m unat ≡ act s f base m unat
act_same s (Jump disp) insn now base m unat h e = refl
act_same s (Loop kind disp) insn now base m unat h e = refl
act_same s (Call b1 (Direct disp)) insn now base m unat h e = refl
act_same s (Call b1 (Indirect b2)) insn now base m unat h e = absurd (cc)
act_same s (JumpIndirect b2) insn now base m unat h e = absurd (cc)
act_same s (Return b2) insn now base m unat h e = absurd (cc)
act_same s f insn now base m unat h e = ap (λ r. act s f r m unat) (view_plain insn now base (ap is_branch e))

skip_same : (s : Site) (f : Action) (insn : Insn) (now base : Registers) (m : Memory) → skip s f (view insn now base) m ≡ skip s f base m
skip_same s (Test kind p1 p2 r2 r3 c) insn now base m = refl
skip_same s (Loop kind disp) insn now base m = refl
skip_same s f insn now base m = refl

done_same : (executed : Bool) (s : Site) (f : Action) (insn : Insn) (now base : Registers) (m : Memory) (unat : ℕ)
    → (executed ≡ true → is_indirect f ≡ false) → insn_action insn ≡ f
    → done executed s f (view insn now base) m unat ≡ done executed s f base m unat
done_same true s f insn now base m unat h e = act_same s f insn now base m unat (h refl) e
done_same false s f insn now base m unat h e = skip_same s f insn now base m

length_predicates : (ws : List Write) (r : Registers) → length (apply ws r).predicates ≡ length r.predicates
length_predicates [] r = refl
length_predicates (SetPredicate n b ∷ ws) r = length_predicates ws (put (SetPredicate n b) r) ∙ length-set r.predicates n b
length_predicates (w ∷ ws) r = length_predicates ws (put w r)

-- A branch sees its qualifying predicate as earlier slots wrote it.
guard_seen : (insn : Insn) (now base : Registers) → is_branch (insn_action insn) ≡ true → length now.predicates ≡ length base.predicates
    → holds (seen_by base (branch_inputs_of now)) insn.qp ≡ holds (view insn now base) insn.qp
guard_seen insn now base branch same =
    let place = predicate_index base.frame insn.qp in
    let itself : (0 + place == place) ≡ true = grind (arith, nat_tests) in
    let sees : sees_predicate insn base.frame (0 + place) ≡ true = rw (branch, itself) refl in
    holds_by_place (seen_by base (branch_inputs_of now)) (view insn now base) insn.qp
    (λ _. sym (seen_at (sees_predicate insn base.frame) 0 place base.predicates now.predicates false same
    ∙ ap (λ (b : Bool). if b then get_or now.predicates place false else get_or base.predicates place false) sees))

-- A slot is executed exactly where its predicate is 1 in the view of its instruction.
executed_is : (insn : Insn) (g : Gathered) (slot : Slot) → insn_action insn ≡ slot.action → insn.qp ≡ slot.qp
    → is_executed slot g ≡ holds (view insn (now_of g) g.base) insn.qp
executed_is insn g slot action qp = of (is_branch slot.action) refl
  where
    of : (b : Bool) → is_branch slot.action ≡ b → holds (seen_by g.base
        (if b then branch_inputs_of (now_of g) else branch_inputs_of g.base)) slot.qp ≡ holds (view insn (now_of g) g.base) insn.qp
    of true e = rw (← qp) (guard_seen insn (now_of g) g.base (ap is_branch action ∙ e) (length_predicates g.writes g.base))
    of false e = rw (← qp, view_plain insn (now_of g) g.base (ap is_branch action ∙ e)) refl

-- Under p0 a slot is executed.
pub executed_always : (g : Gathered) (slot : Slot) → slot.qp ≡ 0 → is_executed slot g ≡ true
executed_always g slot e =
    holds_zero_seen g.base (if is_branch slot.action then branch_inputs_of (now_of g) else branch_inputs_of g.base) slot.qp e

-- The slot at the place of a group comes next.
pub comes_next : (p : Program) (g : Gathered) (slot : Slot) → IsProgram p → slot_at p.bundles g.place ≡ Some slot → ComesNext p g slot
comes_next p g slot program at =
    let i = slot_is p.bundles g.place slot at in
    let r = in_range p g.place i.insn program i.here in
    record { at = at; bundle = r.bundle; ranges = subst (λ (s : Slot). HasActionRanges s.action) i.is r.ranges }

-- The slot at the place of a group is that of the instruction there.
pub slot_of_insn : (p : Program) (g : Gathered) (slot : Slot) (insn : Insn) → ComesNext p g slot → insn_at p.bundles g.place ≡ Some insn
    → slot_of p.bundles g.place insn ≡ slot
slot_of_insn p g slot insn next at =
    let i = slot_is p.bundles g.place slot next.at in ap (slot_of p.bundles g.place) (same_Some _ _ (sym at ∙ i.here)) ∙ i.is

-- An effect that a slot has by the registers of the start is that of its instruction.
pub effect_from_start : (p : Program) (g : Gathered) (slot : Slot) (e : SlotEffect) → ComesNext p g slot
    → (is_executed slot g ≡ true → is_indirect slot.action ≡ false)
    → outcome_of_effect g.base g.memory e ≡ done (is_executed slot g) (site p g.place.bundle) slot.action g.base g.memory g.unat
    → MayMake g.base g.memory e.change
    → (insn : Insn) → insn_at p.bundles g.place ≡ Some insn → IsEffectOf p g insn e g.base.pfs
effect_from_start p g slot e next direct value may insn at =
    let is = slot_of_insn p g slot insn next at in
    let action : insn_action insn ≡ slot.action = ap (λ (s : Slot). s.action) is in
    let executed = executed_is insn g slot action (ap (λ (s : Slot). s.qp) is) in
    let seen = view insn (now_of g) g.base in
    let here = site p g.place.bundle in
    record {
      value = value
          ∙ sym (done_same (is_executed slot g) here slot.action insn (now_of g) g.base g.memory g.unat direct action)
          ∙ ap (λ b. done b here slot.action seen g.memory g.unat) executed
          ∙ ap (λ f. done (holds seen insn.qp) here f seen g.memory g.unat) (sym action);
      may = may;
    }

-- Any effect that a slot other than a branch has by the registers of the start is that of its instruction.
pub effect_of_plain : (p : Program) (g : Gathered) (slot : Slot) (e : SlotEffect) → ComesNext p g slot → is_branch slot.action ≡ false
    → outcome_of_effect g.base g.memory e ≡ guarded (site p g.place.bundle) slot.qp slot.action g.base g.memory g.unat
    → MayMake g.base g.memory e.change
    → (insn : Insn) → insn_at p.bundles g.place ≡ Some insn → IsEffectOf p g insn e g.base.pfs
effect_of_plain p g slot e next plain value may insn at =
    let is = slot_of_insn p g slot insn next at in
    let action : insn_action insn ≡ slot.action = ap (λ (s : Slot). s.action) is in
    let here = site p g.place.bundle in
    record {
      value = value
          ∙ ap (λ r. guarded here slot.qp slot.action r g.memory g.unat)
          (sym (view_plain insn (now_of g) g.base (ap is_branch action ∙ plain)))
          ∙ ap (λ (s : Slot). guarded here s.qp s.action (view insn (now_of g) g.base) g.memory g.unat) (sym is);
      may = may;
    }
