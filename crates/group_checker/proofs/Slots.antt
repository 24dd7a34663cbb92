-- What a slot says of the place that it describes.
use Rattle.std.proofs.Common.{◌≡◌, Bool, true, false, not, ◌&&◌, Some, List, refl, sym, ap, ◌∙◌, subst}
use Rattle.std.specs.Prelude.{IsSome}
use Rattle.std.proofs.lemmas.Bool.{and_parts, not-true, true≢false}
use Rattle.ia_insn.specs.declared.insn.Insn.{Insn}
use Rattle.ia_program.specs.declared.place.Place.{Place}
use Rattle.ia_program.specs.Programs.{Program}
use Rattle.ia_meaning.specs.declared.action.Action.{Action}
use Rattle.ia_meaning.specs.Actions.{is_alloc, allocates}
use Rattle.ia_meaning.specs.Sequence.{next_of, is_stopped}
use Rattle.resource_sets.specs.declared.access.Access.{Access}
use Rattle.resource_sets.specs.Accesses.{accesses_of}
use Rattle.predicate_rel.specs.declared.edge.Edge.TheVariants.{Falls}
use Rattle.predicate_rel.specs.Pairs.{Pairs}
use Rattle.predicate_rel.specs.Rules.{action_rule, pairs_by, rule_of, pairs_after}
use Rattle.predicate_rel.specs.Edges.{may_fall, pairs_past_insn}
use Rattle.slot_table.specs.declared.slot.Slot.{Slot}
use Rattle.slot_table.specs.Slots.{slot_at}
use Rattle.slot_table.proofs.SlotLaws.{slot_is}
use Rattle.flow_facts.specs.Graphs.{Graph, over_program, next_in, IsPlaceIn, IsEdgeIn, pairs_past_in}
use Rattle.group_checker.specs.declared.window.EarlierSlot.{EarlierSlot}
use Rattle.order_laws.specs.Excuses.{accesses_in, accesses_at}
use Rattle.order_laws.specs.Violations.{clears, clears_in, allocates_at, clears_at}
use Rattle.group_checker.specs.Windows.{IsWindow, Describes, HasWindow, goes_on_in_group}
use Rattle.order_laws.proofs.Falling.{past_is, fall_is, fall_edge}
use Rattle.group_checker.proofs.Windowing.{Joins}

module _ (g : Graph) (has_stop : Place → Bool) (j : Place) (s : Slot) (d : Describes g has_stop j s) where
  pub slot_accesses : accesses_at g j ≡ accesses_of s.qp s.action
  unfolding accesses_at
  slot_accesses = ap accesses_in d.here ∙ (λ i. accesses_of (sym d.qp i) (sym d.action i))

  pub slot_allocates : allocates_at g j ≡ is_alloc s.action
  unfolding allocates_at
  slot_allocates = ap allocates d.here ∙ ap (λ (action : Action). is_alloc action) (sym d.action)

  pub slot_clears : clears_at g j ≡ clears s.action
  unfolding clears_at
  slot_clears = ap clears_in d.here ∙ ap (λ (action : Action). clears action) (sym d.action)

  pub slot_place : IsPlaceIn g j
  slot_place = subst IsSome (sym d.here) refl

  -- What is known past the slot is what is known past its place.
  pub slot_past : (f : Pairs) → pairs_by f (action_rule s.action Falls s.qp) ≡ pairs_past_in g j Falls f
  unfolding pairs_after rule_of
  slot_past f =
      (λ i. pairs_by f (action_rule (d.action i) Falls (d.qp i)))
      ∙ ap (λ o. pairs_past_insn o Falls f) (sym d.here)
      ∙ sym (past_is g j Falls f)

  -- Control falls from a slot that joins the next one within a group.
  pub slot_joins : (next : Place) → goes_on_in_group s ≡ true → next_in g j ≡ Some next → Joins g has_stop j next
  slot_joins next joined follows =
      let (falls, goes) = and_parts s.falls (not s.stop) joined in
      record {
        is = slot_place;
        edge = fall_edge g j next d.insn d.here (sym d.falls ∙ falls) follows;
        unstopped = sym d.stop ∙ not-true s.stop goes;
      }

  -- Where control falls from a slot that doesn't join the next one, a stop follows.
  pub slot_parts : (next : Place) → goes_on_in_group s ≡ false → IsEdgeIn g j Falls next → has_stop j ≡ true
  slot_parts next parted edge =
      let fall = fall_is g j next edge in
      let same : Some fall.insn ≡ Some d.insn = sym fall.here ∙ d.here in
      let insn : fall.insn ≡ d.insn = cc in
      sym d.stop ∙ of s.falls s.stop parted (d.falls ∙ ap (λ (i : Insn). may_fall i) (sym insn) ∙ fall.may)
    where
      of : (falls stop : Bool) → (falls && not stop) ≡ false → falls ≡ true → stop ≡ true
      of true true h e = refl
      of true false h e = absurd (true≢false h)
      of false stop h e = absurd (true≢false (sym e))

module _ (p : Program) (j : Place) (s : Slot) (at : slot_at p.bundles j ≡ Some s) where
  -- The slot of a place of a program describes it.
  pub slot_describes : Describes (over_program p) (is_stopped p.bundles) j s
  slot_describes =
      let i = slot_is p.bundles j s at in
      record {
        insn = i.insn;
        here = i.here;
        action = ap (λ (q : Slot). q.action) (sym i.is);
        qp = ap (λ (q : Slot). q.qp) (sym i.is);
        falls = ap (λ (q : Slot). q.falls) (sym i.is);
        stop = ap (λ (q : Slot). q.stop) (sym i.is);
      }

  pub slot_next : s.next ≡ next_of p.bundles j
  slot_next = let i = slot_is p.bundles j s at in ap (λ (q : Slot). q.next) (sym i.is)

  -- The slot is under way with its accesses.
  pub under_way : (es : List EarlierSlot) (seconds : List Access) → seconds ≡ accesses_of s.qp s.action
      → IsWindow (over_program p) (is_stopped p.bundles) es j → HasWindow (over_program p) (is_stopped p.bundles) es j s seconds
  under_way es seconds is win = record {
    slot = slot_describes;
    accesses = is ∙ sym (slot_accesses (over_program p) (is_stopped p.bundles) j s slot_describes);
    window = win;
  }
