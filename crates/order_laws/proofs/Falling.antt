-- Control falls to the next place of a program or a sequence, which comes later, and to each place from one at most.
use Rattle.std.proofs.Common.{◌≡◌, ℕ, ◌+◌, ◌<◌, ◌≤◌, ◌⊎◌, Bool, true, false, cond, List, [], ◌∷◌, length, nat_lt, ◌==◌, Option, None, Some, refl, sym, ap, ◌∙◌, subst, arith, inl, inr}
use Rattle.std.specs.Prelude.{Contains, IsSome, slice_get}
use Rattle.std.proofs.lemmas.Bool.{cases_lt, cases_eq}
use Rattle.std.proofs.lemmas.Bool.Decides.{nat_tests}
use Rattle.std.proofs.lemmas.Option.{same_Some, slice_get_cases}
use Rattle.ia_insn.specs.declared.insn.Insn.{Insn}
use Rattle.ia_program.specs.declared.place.Place.{Place}
use Rattle.ia_program.specs.Bundles.{Bundle}
use Rattle.ia_program.specs.Places.{place_number, insn_at, IsBefore, IsNext, IsPlaceOf}
use Rattle.ia_program.specs.Programs.{Program}
use Rattle.ia_program.proofs.InOrder.{slot_small}
use Rattle.ia_program.proofs.Reaching.{same_place}
use Rattle.ia_meaning.specs.Sequence.{first_of, next_of}
use Rattle.ia_meaning.proofs.Follows.{next_is}
use Rattle.resource_sets.proofs.Members.{not_in_none, cases_in}
use Rattle.predicate_rel.specs.declared.edge.Edge.{Edge}
use Rattle.predicate_rel.specs.declared.edge.Edge.TheVariants.{Falls, Taken}
use Rattle.predicate_rel.specs.Pairs.{Pairs}
use Rattle.predicate_rel.specs.Edges.{HasEdge, edge_of, edge_end, may_fall, pairs_past, pairs_past_insn}
use Rattle.flow_facts.specs.Graphs.{Graph, over_program, over_sequence, InsnSequence, HasSequenceEdge, sequence_insn, sequence_next, sequence_end_of, sequence_past, insn_in, next_in, IsPlaceIn, IsEdgeIn, pairs_past_in}
use Rattle.flow_facts.specs.Walks.{Walk, begins, goes_on, IsWalkIn, end_of, facts_in, group_since}

-- The order of places goes on.
pub before_trans : (a b c : Place) → IsBefore a b → IsBefore b c → IsBefore a c
before_trans a b c (inl h) (inl k) = inl (omega arith)
before_trans a b c (inl h) (inr k) = inl (omega (arith, k.0))
before_trans a b c (inr h) (inl k) = inl (omega (arith, h.0))
before_trans a b c (inr h) (inr k) = inr (h.0 ∙ k.0, omega (arith, h.1, k.1))

-- No place comes before itself.
pub not_before_itself : (a : Place) → IsBefore a a → ⊥
not_before_itself a (inl h) = omega arith
not_before_itself a (inr h) = omega (arith, h.1)

-- No place comes before the first.
pub none_before_first : (a : Place) → IsBefore a (first_of 0) → ⊥
none_before_first a (inl h) = omega arith
none_before_first a (inr h) = omega (arith, h.1)

-- Of two places one comes before the other, or they are one.
pub place_cases : (a b : Place) → IsBefore a b ⊎ ((a ≡ b) ⊎ IsBefore b a)
place_cases a b = of (cases_lt a.bundle b.bundle) (cases_eq a.bundle b.bundle) (cases_lt a.slot b.slot) (cases_eq a.slot b.slot)
  where
    of : (a.bundle < b.bundle) ⊎ (b.bundle ≤ a.bundle) → (a.bundle ≡ b.bundle) ⊎ (a.bundle ≡ b.bundle → ⊥)
        → (a.slot < b.slot) ⊎ (b.slot ≤ a.slot) → (a.slot ≡ b.slot) ⊎ (a.slot ≡ b.slot → ⊥) → IsBefore a b ⊎ ((a ≡ b) ⊎ IsBefore b a)
    of (inl less) same low equal = inl (inl less)
    of (inr more) (inr apart) low equal = inr (inr (inl (omega arith)))
    of (inr more) (inl same) (inl low) equal = inl (inr (same, low))
    of (inr more) (inl same) (inr high) (inl equal) = inr (inl (same_place a b same equal))
    of (inr more) (inl same) (inr high) (inr apart) = inr (inr (inr (sym same, omega arith)))

-- A later place has a higher number.
pub number_rises : (a b : Place) → a.slot < 3 → IsBefore a b → place_number a < place_number b
number_rises a b small (inl h) = omega arith
number_rises a b small (inr h) = omega (arith, h.0, h.1)

-- What is known past a place is what is known past the instruction there.
pub past_is : (g : Graph) (place : Place) (e : Edge) (f : Pairs) → pairs_past_in g place e f ≡ pairs_past_insn (insn_in g place) e f
unfolding pairs_past sequence_past
past_is (over_program p) place e f = refl
past_is (over_sequence sequence) place e f = refl

-- An edge begins at a place.
pub edge_inside : (g : Graph) (i : Place) (e : Edge) (j : Place) → IsEdgeIn g i e j → IsPlaceIn g i
edge_inside (over_program p) i e j edge = edge.inside
edge_inside (over_sequence sequence) i e j edge = edge.inside

-- The place holds an instruction past which control may fall, and there is a next place.
pub record IsFall (g : Graph) (i j : Place) : Type 0 where
  pub insn : Insn
  pub here : insn_in g i ≡ Some insn
  pub may : may_fall insn ≡ true
  pub next : next_in g i ≡ Some j

chosen : (b : Bool) (next : Option Place) (j : Place) → cond b next None ≡ Some j → (b ≡ true) × (next ≡ Some j)
chosen true next j h = (refl, h)
chosen false next j h = absurd cc

program_fall : (p : Program) (i j : Place) → HasEdge p i Falls j → IsFall (over_program p) i j
unfolding edge_end
program_fall p i j e = of (insn_at p.bundles i) refl e.leads
  where
    of : (o : Option Insn) → insn_at p.bundles i ≡ o → edge_of p.bundles i o Falls ≡ Some j → IsFall (over_program p) i j
    of None here h = absurd cc
    of (Some insn) here h =
        let c = chosen (may_fall insn) (next_of p.bundles i) j h in record { insn = insn; here = here; may = c.0; next = c.1 }

row_fall : (sequence : InsnSequence) (i j : Place) → HasSequenceEdge sequence i Falls j → IsFall (over_sequence sequence) i j
row_fall sequence i j e = of (sequence_insn sequence.insns i) refl e.leads
  where
    of : (o : Option Insn) → sequence_insn sequence.insns i ≡ o → sequence_end_of sequence.insns i o Falls ≡ Some j
        → IsFall (over_sequence sequence) i j
    of None here h = absurd cc
    of (Some insn) here h =
        let c = chosen (may_fall insn) (sequence_next sequence.insns i) j h in record { insn = insn; here = here; may = c.0; next = c.1 }

-- What a fall says of where it begins.
pub fall_is : (g : Graph) (i j : Place) → IsEdgeIn g i Falls j → IsFall g i j
fall_is (over_program p) i j e = program_fall p i j e
fall_is (over_sequence sequence) i j e = row_fall sequence i j e

-- The place of the next instruction of a sequence.
sequence_next_is : (insns : List Insn) (i j : Place) → sequence_next insns i ≡ Some j
    → (i.bundle + 1 < length insns) × (first_of (i.bundle + 1) ≡ j)
unfolding sequence_next
sequence_next_is insns i j e = of (nat_lt (i.bundle + 1) (length insns)) refl e
  where
    of : (b : Bool) → nat_lt (i.bundle + 1) (length insns) ≡ b → cond b (Some (first_of (i.bundle + 1))) None ≡ Some j
        → (i.bundle + 1 < length insns) × (first_of (i.bundle + 1) ≡ j)
    of true t h = (grind (arith, nat_tests), same_Some _ _ h)
    of false t h = absurd cc

-- An instruction of a sequence stands at slot 0.
row_slot : (insns : List Insn) (i : Place) → IsSome (sequence_insn insns i) → i.slot ≡ 0
unfolding sequence_insn
row_slot insns i is = of (i.slot == 0) refl is
  where
    of : (b : Bool) → (i.slot == 0) ≡ b → IsSome (cond b (slice_get insns i.bundle) None) → i.slot ≡ 0
    of true t h = grind (arith, nat_tests)
    of false t h = absurd cc

-- Each instruction below the length of a sequence stands at slot 0 of its number.
pub sequence_place : (insns : List Insn) (n : ℕ) → n < length insns → IsSome (sequence_insn insns (first_of n))
unfolding sequence_insn
sequence_place insns n l = elim (slice_get_cases insns n).1 [
  | inl (x, short, is, at) ↦ subst IsSome (sym is) refl
  | inr (beyond, is) ↦ absurd (omega arith)
]

-- The next place is a place.
pub next_place : (g : Graph) (i j : Place) → next_in g i ≡ Some j → IsPlaceIn g j
next_place (over_program p) i j e = let n = next_is p.bundles i j e in n.is
next_place (over_sequence sequence) i j e =
    let n = sequence_next_is sequence.insns i j e in
    subst (λ (k : Place). IsSome (sequence_insn sequence.insns k)) n.1 (sequence_place sequence.insns (i.bundle + 1) n.0)

-- The next place comes later.
pub next_after : (g : Graph) (i j : Place) → next_in g i ≡ Some j → IsBefore i j
next_after (over_program p) i j e = let n = next_is p.bundles i j e in n.after
next_after (over_sequence sequence) i j e = let n = sequence_next_is sequence.insns i j e in subst (IsBefore i) n.1 (inl (omega arith))

-- The slot of a place is 0 to 2.
pub slot_below : (g : Graph) (i : Place) → IsPlaceIn g i → i.slot < 3
slot_below (over_program p) i is = slot_small p.bundles i is
slot_below (over_sequence sequence) i is = let zero = row_slot sequence.insns i is in omega (arith, zero)

program_before : (bundles : List Bundle) (a b next : Place) → IsPlaceOf bundles a → IsPlaceOf bundles b → next_of bundles a ≡ Some next
    → next_of bundles b ≡ Some next → a ≡ b
program_before bundles a b next is_a is_b e f = of (place_cases a b)
  where
    of_a : IsNext bundles a next
    of_a = next_is bundles a next e

    of_b : IsNext bundles b next
    of_b = next_is bundles b next f

    of : IsBefore a b ⊎ ((a ≡ b) ⊎ IsBefore b a) → a ≡ b
    of (inl h) = absurd (of_a.first b is_b h of_b.after)
    of (inr (inl h)) = h
    of (inr (inr h)) = absurd (of_b.first a is_a h of_a.after)

-- Two places that have one next place are one.
pub same_before : (g : Graph) (a b next : Place) → IsPlaceIn g a → IsPlaceIn g b → next_in g a ≡ Some next → next_in g b ≡ Some next → a ≡ b
same_before (over_program p) a b next is_a is_b e f = program_before p.bundles a b next is_a is_b e f
same_before (over_sequence sequence) a b next is_a is_b e f =
    let m = sequence_next_is sequence.insns a next e in
    let n = sequence_next_is sequence.insns b next f in
    let bundle : a.bundle + 1 ≡ b.bundle + 1 = ap (λ (k : Place). k.bundle) (m.1 ∙ sym n.1) in
    same_place a b (omega (arith, bundle)) (row_slot sequence.insns a is_a ∙ sym (row_slot sequence.insns b is_b))

-- Control falls from a place where it may to the next one.
pub fall_edge : (g : Graph) (i j : Place) (insn : Insn) → insn_in g i ≡ Some insn → may_fall insn ≡ true → next_in g i ≡ Some j
    → IsEdgeIn g i Falls j
unfolding edge_end
fall_edge (over_program p) i j insn here may next = record {
  inside = subst IsSome (sym here) refl;
  leads = ap (λ (o : Option Insn). edge_of p.bundles i o Falls) here ∙ ap (λ (b : Bool). cond b (next_of p.bundles i) None) may ∙ next;
  lands = next_place (over_program p) i j next;
}
fall_edge (over_sequence sequence) i j insn here may next = record {
  inside = subst IsSome (sym here) refl;
  leads =
      ap (λ (o : Option Insn). sequence_end_of sequence.insns i o Falls) here
      ∙ ap (λ (b : Bool). cond b (sequence_next sequence.insns i) None) may ∙ next;
  lands = next_place (over_sequence sequence) i j next;
}

-- A fall leads to the next place.
pub falls_next : (g : Graph) (i j : Place) → IsEdgeIn g i Falls j → next_in g i ≡ Some j
falls_next g i j e = let f = fall_is g i j e in f.next

-- Control falls to a place from one place at most.
pub one_before : (g : Graph) (a b next : Place) → IsEdgeIn g a Falls next → IsEdgeIn g b Falls next → a ≡ b
one_before g a b next e f =
    same_before g a b next (edge_inside g a Falls next e) (edge_inside g b Falls next f) (falls_next g a next e) (falls_next g b next f)

-- Control falls to a later place.
pub falls_up : (g : Graph) (i j : Place) → IsEdgeIn g i Falls j → IsBefore i j
falls_up g i j e = next_after g i j (falls_next g i j e)

-- A walk on which some slot is earlier in the group of its last place came from the place before.
pub record ComesFrom (g : Graph) (has_stop : Place → Bool) (w : Walk) : Type 0 where
  pub before : Walk
  pub walks : IsWalkIn g before
  pub edge : IsEdgeIn g (end_of before) Falls (end_of w)
  pub unstopped : has_stop (end_of before) ≡ false
  pub facts : facts_in g w ≡ pairs_past_in g (end_of before) Falls (facts_in g before)
  pub group : group_since has_stop w ≡ end_of before ∷ group_since has_stop before

-- The last step of such a walk was a fall within the group.
pub comes_from : (g : Graph) (has_stop : Place → Bool) (w : Walk) (i : Place) → IsWalkIn g w → Contains (group_since has_stop w) i
    → ComesFrom g has_stop w
comes_from g has_stop (begins bundle) i is c = absurd (not_in_none i c)
comes_from g has_stop (goes_on w Taken place) i is c = absurd (not_in_none i c)
comes_from g has_stop (goes_on w Falls place) i is c = by_stop (has_stop (end_of w)) refl c
  where
    by_stop : (s : Bool) → has_stop (end_of w) ≡ s → Contains (cond s [] (end_of w ∷ group_since has_stop w)) i
        → ComesFrom g has_stop (goes_on w Falls place)
    by_stop true e d = absurd (not_in_none i d)
    by_stop false e d = record { before = w; walks = is.0; edge = is.1; unstopped = e; facts = refl; group = rw e refl }

-- A walk goes on by a fall within its group.
pub falls_group : (has_stop : Place → Bool) (w : Walk) (place : Place) → has_stop (end_of w) ≡ false
    → group_since has_stop (goes_on w Falls place) ≡ end_of w ∷ group_since has_stop w
falls_group has_stop w place e = rw e refl

-- The earlier places of a walk's group come before its last one.
pub group_before : (g : Graph) (has_stop : Place → Bool) (w : Walk) (i : Place) → IsWalkIn g w → Contains (group_since has_stop w) i
    → IsBefore i (end_of w)
group_before g has_stop (begins bundle) i is c = absurd (not_in_none i c)
group_before g has_stop (goes_on w Taken place) i is c = absurd (not_in_none i c)
group_before g has_stop (goes_on w Falls place) i is c = by_stop (has_stop (end_of w)) c (λ d. group_before g has_stop w i is.0 d)
  where
    by_stop : (s : Bool) → Contains (cond s [] (end_of w ∷ group_since has_stop w)) i
        → (Contains (group_since has_stop w) i → IsBefore i (end_of w)) → IsBefore i place
    by_stop true d again = absurd (not_in_none i d)
    by_stop false d again = of (cases_in (end_of w) i (group_since has_stop w) d)
      where
        up : IsBefore (end_of w) place
        up = falls_up g (end_of w) place is.1

        of : (end_of w ≡ i) ⊎ Contains (group_since has_stop w) i → IsBefore i place
        of (inl e) = subst (λ q. IsBefore q place) e up
        of (inr k) = before_trans i (end_of w) place (again k) up
