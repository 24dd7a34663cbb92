-- A program without one of its stops: what stands at its places, and the first violation that it has.
use Rattle.std.proofs.Common.{◌≡◌, ◌⊎◌, ◌==◌, ◌&&◌, not, eq-eqb, Bool, true, false, [], None, Some, refl, sym, ap, ◌∙◌, subst, inl, inr}
use Rattle.ia_program.specs.declared.place.Place.{Place}
use Rattle.ia_program.specs.Places.{IsPlaceOf, IsBefore}
use Rattle.ia_program.specs.Programs.{Program, IsProgram}
use Rattle.ia_meaning.specs.Sequence.{first_of, next_of, is_stopped}
use Rattle.ia_meaning.proofs.Follows.{next_is}
use Rattle.ia_meaning.proofs.Sequences.{next_fits}
use Rattle.slot_table.specs.declared.slot.Slot.{Slot}
use Rattle.slot_table.specs.Slots.{slot_at}
use Rattle.flow_facts.specs.Graphs.{Graph, over_program}
use Rattle.order_laws.specs.declared.violation.Violation.{Violation}
use Rattle.order_laws.specs.Violations.{ViolatesIn}
use Rattle.group_checker.specs.Firsts.{IsViolatedAt, IsFirstAt, IsFirst}
use Rattle.group_checker.specs.Order.{Precedes}
use Rattle.group_checker.specs.Windows.{IsWindow, Describes}
use Rattle.order_laws.proofs.Falling.{before_trans, place_cases, comes_from}
use Rattle.group_checker.proofs.Rising.{precedes_by_second}
use Rattle.group_checker.proofs.Slots.{slot_describes}
use Rattle.group_checker.proofs.Windowing.{first_window, parted_window}
use Rattle.stop_placer.specs.Placing.{without_stop}
use Rattle.stop_placer.specs.Caused.{unstopped, IsCut}
use Rattle.stop_placer.proofs.PackFree.{violated_behind, without_elsewhere}

-- Where a place's own stop is left out, none follows the place.
without_here : (p : Program) (out : Place) → without_stop p out out ≡ false
without_here p out =
    of (is_stopped p.bundles out) (out.bundle == out.bundle) (out.slot == out.slot) (eq-eqb out.bundle out.bundle refl)
    (eq-eqb out.slot out.slot refl)
  where
    of : (b x y : Bool) → x ≡ true → y ≡ true → (b && not (x && y)) ≡ false
    of true true true e f = refl
    of false x y e f = refl
    of true false y e f = cc
    of true true false e f = cc

with_stop : (g : Graph) (has_stop other : Place → Bool) (j : Place) (s : Slot) → other j ≡ has_stop j → Describes g has_stop j s
    → Describes g other j s
with_stop g has_stop other j s e d =
    record { insn = d.insn; here = d.here; action = d.action; qp = d.qp; falls = d.falls; stop = d.stop ∙ sym e }

-- The slot of a place describes it with its stop left out there.
pub describes_here : (p : Program) (j out : Place) (s : Slot) → j ≡ out → slot_at p.bundles j ≡ Some s
    → Describes (over_program p) (without_stop p out) j (unstopped s)
describes_here p j out s e at =
    let d = slot_describes p j s at in
    record {
      insn = d.insn;
      here = d.here;
      action = d.action;
      qp = d.qp;
      falls = d.falls;
      stop = sym (ap (without_stop p out) e ∙ without_here p out);
    }

pub describes_other : (p : Program) (j out : Place) (s : Slot) → (j ≡ out → ⊥) → slot_at p.bundles j ≡ Some s
    → Describes (over_program p) (without_stop p out) j s
describes_other p j out s apart at =
    with_stop (over_program p) (is_stopped p.bundles) (without_stop p out) j s (without_elsewhere p out j apart) (slot_describes p j s at)

-- The second slot of a violation stands at a place.
second_place : (p : Program) (has_stop : Place → Bool) (v : Violation) → ViolatesIn (over_program p) has_stop v
    → IsPlaceOf p.bundles v.second
second_place p has_stop v x =
    let from = comes_from (over_program p) has_stop x.walk v.first x.there.walks x.inside in
    subst (IsPlaceOf p.bundles) x.there.ends from.edge.lands

-- No violation has its second slot before the place.
abbrev pub HasNoneBefore : Program → Place → Place → Type 0
HasNoneBefore p out place = (w : Violation) → ViolatesIn (over_program p) (without_stop p out) w → ¬ IsBefore w.second place

-- None has before the place behind the stop before.
pub cut_none : (p : Program) (behind out : Place) → IsProgram p → IsCut p behind out → HasNoneBefore p out behind
cut_none p behind out program cut w x low = cut.low (before_trans out w.second behind (violated_behind p out w program cut.free x) low)

-- Where the window is empty.
pub cut_window : (p : Program) (behind out : Place) → IsCut p behind out → IsWindow (over_program p) (without_stop p out) [] behind
cut_window p behind out cut = of cut.parted
  where
    of : (behind ≡ first_of 0) ⊎ ((before : Place) × IsPlaceOf p.bundles before × (is_stopped p.bundles before ≡ true)
        × (next_of p.bundles before ≡ Some behind)) → IsWindow (over_program p) (without_stop p out) [] behind
    of (inl e) = subst (IsWindow (over_program p) (without_stop p out) []) (sym e) (first_window (over_program p) (without_stop p out))
    of (inr (before, is, stopped, follows)) =
        let n = next_is p.bundles before behind follows in
        let apart : before ≡ out → ⊥ = λ e. cut.low (subst (λ (q : Place). IsBefore q behind) e n.after) in
        parted_window (over_program p) (without_stop p out) before behind is follows
        (λ edge. without_elsewhere p out before apart ∙ stopped)

-- None before the next place, where none is at this one.
pub none_next : (p : Program) (out place next : Place) → HasNoneBefore p out place
    → ¬ IsViolatedAt (over_program p) (without_stop p out) place → next_of p.bundles place ≡ Some next → HasNoneBefore p out next
none_next p out place next none here follows w x low = of (place_cases w.second place)
  where
    of : IsBefore w.second place ⊎ ((w.second ≡ place) ⊎ IsBefore place w.second) → ⊥
    of (inl h) = none w x h
    of (inr (inl e)) = here (w, x, e)
    of (inr (inr h)) = let n = next_is p.bundles place next follows in n.first w.second (second_place p (without_stop p out) w x) h low

-- The last place can't be passed.
pub some_left : (p : Program) (out place : Place) (v : Violation) → ViolatesIn (over_program p) (without_stop p out) v
    → HasNoneBefore p out place → ¬ IsViolatedAt (over_program p) (without_stop p out) place → next_of p.bundles place ≡ None → ⊥
some_left p out place v x none here last = of (place_cases v.second place)
  where
    of : IsBefore v.second place ⊎ ((v.second ≡ place) ⊎ IsBefore place v.second) → ⊥
    of (inl h) = none v x h
    of (inr (inl e)) = here (v, x, e)
    of (inr (inr h)) = rw last at (next_fits p.bundles place) v.second (second_place p (without_stop p out) v x) h

-- The first violation at the first place that has one is the first of all.
pub first_of_all : (p : Program) (out place : Place) (v : Violation) → HasNoneBefore p out place
    → IsFirstAt (over_program p) (without_stop p out) place v → IsFirst (over_program p) (without_stop p out) v
first_of_all p out place v none at = record { violates = at.violates; first = λ w x. of w x (place_cases w.second place) }
  where
    of : (w : Violation) → ViolatesIn (over_program p) (without_stop p out) w
        → IsBefore w.second place ⊎ ((w.second ≡ place) ⊎ IsBefore place w.second) → (v ≡ w) ⊎ Precedes v w
    of w x (inl h) = absurd (none w x h)
    of w x (inr (inl e)) = at.first w x e
    of w x (inr (inr h)) = inr (precedes_by_second v w (subst (λ (q : Place). IsBefore q w.second) (sym at.second) h))
