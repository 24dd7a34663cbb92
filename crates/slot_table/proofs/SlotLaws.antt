-- What the slot of a place says of the place.
use Rattle.std.proofs.Common.{◌≡◌, ℕ, ◌*◌, ◌<◌, ◌≤◌, ◌^◌, ◌⊎◌, Option, None, Some, option_map, List, length, get_or, refl, sym, subst, ap, ◌∙◌, arith, inl, inr}
use Rattle.std.specs.Prelude.{MatchOption, IsSome}
use Rattle.std.proofs.lemmas.Bool.{cases_lt}
use Rattle.std.proofs.lemmas.Option.{same_Some}
use Rattle.std.proofs.lemmas.List.{get_or_past}
use Rattle.ia_insn.specs.declared.insn.Insn.{Insn}
use Rattle.ia_program.specs.declared.place.Place.{Place}
use Rattle.ia_program.specs.Bundles.{Bundle}
use Rattle.ia_program.specs.Places.{place_at, insn_at, IsPlaceOf}
use Rattle.ia_program.specs.Programs.{Program, IsProgram}
use Rattle.ia_program.proofs.InOrder.{bundle_small, slot_small}
use Rattle.ia_program.proofs.OperandRanges.{ranges_of_listed}
use Rattle.ia_program.proofs.ListedSlots.{listed_at}
use Rattle.ia_meaning.specs.Actions.{insn_action}
use Rattle.ia_meaning.specs.ActionRanges.{HasActionRanges}
use Rattle.ia_meaning.proofs.ActionRanges.{action_ranges}
use Rattle.predicate_rel.specs.declared.edge.Edge.{Edge}
use Rattle.predicate_rel.specs.declared.edge.Edge.TheVariants.{Falls, Taken}
use Rattle.predicate_rel.specs.Pairs.{Pairs}
use Rattle.predicate_rel.specs.Rules.{action_rule, pairs_by, rule_of, pairs_after}
use Rattle.predicate_rel.specs.Edges.{edge_of, HasEdge, pairs_past, pairs_past_insn}
use Rattle.predicate_rel.proofs.EdgeEnds.{is_edge_end}
use Rattle.slot_table.specs.declared.slot.Slot.{Slot}
use Rattle.slot_table.specs.Slots.{slot_of, slot_at, edge_from}

-- The slot is that of an instruction, which stands at the place.
pub record IsSlotOf (bundles : List Bundle) (place : Place) (slot : Slot) : Type 0 where
  pub insn : Insn
  pub here : insn_at bundles place ≡ Some insn
  pub is : slot_of bundles place insn ≡ slot

-- The numbers of an instruction at a place are in their ranges.
pub record IsInRange (place : Place) (insn : Insn) : Type 0 where
  pub bundle : place.bundle < 2 ^ 31
  pub ranges : HasActionRanges (insn_action insn)

pub in_range : (p : Program) (place : Place) (insn : Insn) → IsProgram p → insn_at p.bundles place ≡ Some insn → IsInRange place insn
in_range p place insn program here =
    let inside = bundle_small p.bundles place (subst IsSome (sym here) refl) in
    let most = program.counts.bundles in
    record {
      bundle = omega (arith, inside, most);
      ranges = action_ranges insn.op
          (ranges_of_listed insn (listed_at p place insn program here));
    }

-- A slot at a place is that of the instruction there.
pub slot_is : (bundles : List Bundle) (place : Place) (slot : Slot) → slot_at bundles place ≡ Some slot → IsSlotOf bundles place slot
unfolding slot_at
slot_is bundles place slot at = of (insn_at bundles place) refl at
  where
    of : (o : Option Insn) → insn_at bundles place ≡ o → option_map (slot_of bundles place) o ≡ Some slot → IsSlotOf bundles place slot
    of None here e = absurd cc
    of (Some insn) here e = record { insn = insn; here = here; is = same_Some _ _ e }

-- Where there is no slot there is no place.
pub not_place : (bundles : List Bundle) (place : Place) → slot_at bundles place ≡ None → IsPlaceOf bundles place → ⊥
unfolding slot_at
not_place bundles place none is = of (insn_at bundles place) refl none
  where
    of : (o : Option Insn) → insn_at bundles place ≡ o → option_map (slot_of bundles place) o ≡ None → ⊥
    of None here n = let there = rw here at is in cc
    of (Some insn) here n = cc

-- Where there is no place there is no slot.
pub no_slot : (bundles : List Bundle) (place : Place) → (IsPlaceOf bundles place → ⊥) → slot_at bundles place ≡ None
unfolding slot_at
no_slot bundles place none = of (insn_at bundles place) refl
  where
    of : (o : Option Insn) → insn_at bundles place ≡ o → option_map (slot_of bundles place) o ≡ None
    of None here = refl
    of (Some insn) here = absurd (none (rw here refl))

edge_of-slot : (bundles : List Bundle) (place : Place) (insn : Insn) (e : Edge)
    → edge_from (slot_of bundles place insn) e ≡ edge_of bundles place (Some insn) e
edge_of-slot bundles place insn Falls = refl
edge_of-slot bundles place insn Taken = refl

-- The edges of a slot are those of the program.
pub slot_edges : (p : Program) (from : Place) (slot : Slot) (e : Edge) (r : Option Place) → IsProgram p → slot_at p.bundles from ≡ Some slot
    → r ≡ edge_from slot e → MatchOption r ((to : Place) → HasEdge p from e to → ⊥) (λ to. HasEdge p from e to)
slot_edges p from slot e r program at leads =
    let s = slot_is p.bundles from slot at in
    is_edge_end p from s.insn e r program s.here (leads ∙ ap (λ (q : Slot). edge_from q e) (sym s.is)
    ∙ edge_of-slot p.bundles from s.insn e)

-- What is known past a slot is what is known past its place.
pub pairs_by-slot : (p : Program) (from : Place) (slot : Slot) (e : Edge) (f : Pairs) → slot_at p.bundles from ≡ Some slot
    → pairs_by f (action_rule slot.action e slot.qp) ≡ pairs_past p from e f
unfolding pairs_past pairs_after rule_of
pairs_by-slot p from slot e f at =
    let s = slot_is p.bundles from slot at in
    ap (λ (q : Slot). pairs_by f (action_rule q.action e q.qp)) (sym s.is) ∙ ap (λ (o : Option Insn). pairs_past_insn o e f) (sym s.here)

-- A slot above 2 is at no place.
pub no_slot_above : (bundles : List Bundle) (place : Place) → 2 < place.slot → None ≡ slot_at bundles place
no_slot_above bundles place above = sym (no_slot bundles place (λ is. let small = slot_small bundles place is in omega arith))

-- A list of the slots of all places, in order, has the slot of each.
pub filled : (bundles : List Bundle) (slots : List (Option Slot)) → length slots ≡ 3 * length bundles
    → ((n : ℕ) → n < length slots → get_or slots n None ≡ slot_at bundles (place_at n)) → (n : ℕ)
    → get_or slots n None ≡ slot_at bundles (place_at n)
filled bundles slots size each n = by_end (cases_lt n (length slots))
  where
    by_end : (n < length slots) ⊎ (length slots ≤ n) → get_or slots n None ≡ slot_at bundles (place_at n)
    by_end (inl inside) = each n inside
    by_end (inr beyond) =
        get_or_past slots n None beyond
        ∙ sym (no_slot bundles (place_at n) (λ is. let small = bundle_small bundles (place_at n) is in omega (arith, size)))
