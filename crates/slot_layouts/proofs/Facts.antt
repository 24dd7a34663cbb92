-- What is computed of the layouts of all lists.
use Rattle.std.proofs.Common.{◌≡◌, ℕ, zero, suc, ◌+◌, ◌==◌, nat_le, nat_lt, refl, subst, ap, ◌∙◌, Bool, true, false, not, ◌&&◌, ◌||◌, List, [], ◌∷◌, ◌++◌, length, Option, Some, None, is_some, IsSome}
use Rattle.std.specs.Prelude.{option_map}
use Rattle.std.proofs.lemmas.Bool.{eqb-true}
use Rattle.ia_insn.specs.declared.choices.Unit.{Unit as ExecutionUnit}
use Rattle.ia_insn.specs.declared.choices.Unit.TheVariants as units
use Rattle.ia_program.specs.Templates.{units_of}
use Rattle.ia_program.specs.Bundles.{Bundle, last_slot}
use Rattle.ia_program.proofs.Tests.{all_below, left, right}
use Rattle.slot_layouts.specs.declared.classes.SlotClass.{SlotClass}
use Rattle.slot_layouts.specs.declared.classes.SlotClass.TheVariants.{A, M, B}
use Rattle.slot_layouts.specs.declared.layout.Wanted.{Wanted}
use Rattle.slot_layouts.specs.Layouts.{are_rising, first_below, laid_out}
use Rattle.slot_layouts.specs.Filled.{filled}
use Rattle.slot_layouts.specs.Laws.{has_stop}
use Rattle.slot_layouts.proofs.Tables.{wanted, each_class, at_class, entailed, each_bool, at_bool, HoldsUpToThree, for_every, any_below}
use Rattle.slot_layouts.proofs.FirstLayouts.{too_long}

abbrev pub is_m : SlotClass → Bool
is_m M = true
is_m class = false

abbrev pub is_m_or_a : SlotClass → Bool
is_m_or_a M = true
is_m_or_a A = true
is_m_or_a class = false

abbrev pub is_b : SlotClass → Bool
is_b B = true
is_b class = false

-- The template's bundle of nops: where stops and places are concerned, each bundle of the template is as this.
abbrev pub blank : ℕ → Bundle
blank code = filled code [] []

abbrev pub last_place : ℕ → ℕ
last_place code = last_slot (blank code).slots

-- Three units, of which the second is L or none is.
abbrev pub is_narrow : ExecutionUnit → Bool
is_narrow units.L = false
is_narrow units.X = false
is_narrow unit = true

abbrev pub is_shape : List ExecutionUnit → Bool
is_shape (u ∷ units.L ∷ x ∷ []) = is_narrow u
is_shape (u ∷ v ∷ w ∷ []) = is_narrow u && (is_narrow v && is_narrow w)
is_shape us = false

-- The tests of stops.
abbrev pub is_no_stop : ℕ → ℕ → ℕ → Bool
is_no_stop code from slot = not (nat_le from slot && has_stop (blank code) slot)

abbrev pub no_stop_in : ℕ → ℕ → ℕ → Bool
no_stop_in code from before = all_below (is_no_stop code from) before

abbrev pub is_only_stop : ℕ → ℕ → ℕ → ℕ → Bool
is_only_stop code from before slot =
    (nat_le from slot && nat_lt slot before)
    && (has_stop (blank code) slot && all_below (λ other. not (nat_le from other && has_stop (blank code) other) || (other == slot)) before)

abbrev pub one_stop_in : ℕ → ℕ → ℕ → Bool
one_stop_in code from before = any_below (is_only_stop code from before) before

abbrev pub stop_in_where : Bool → ℕ → ℕ → ℕ → Bool
stop_in_where true code from before = one_stop_in code from before
stop_in_where false code from before = no_stop_in code from before

abbrev pub stop_right_before : ℕ → ℕ → Bool
stop_right_before code zero = false
stop_right_before code (suc slot) = has_stop (blank code) slot

abbrev pub is_as : Bool → Bool → Bool
is_as true b = b
is_as false b = not b

-- A test of each two neighbours and their slots, of the last one and its slot, of the first one, and of each slot.
abbrev pub each_pair : (Wanted → Wanted → ℕ → ℕ → Bool) → List Wanted → List ℕ → Bool
each_pair p (w ∷ x ∷ ws) (k ∷ l ∷ ks) = p w x k l && each_pair p (x ∷ ws) (l ∷ ks)
each_pair p ws ks = true

abbrev pub at_last : (Wanted → ℕ → Bool) → List Wanted → List ℕ → Bool
at_last p (w ∷ []) (k ∷ []) = p w k
at_last p (w ∷ x ∷ ws) (k ∷ l ∷ ks) = at_last p (x ∷ ws) (l ∷ ks)
at_last p ws ks = true

abbrev pub at_first : (Wanted → ℕ → Bool) → List Wanted → List ℕ → Bool
at_first p (w ∷ ws) (k ∷ ks) = p w k
at_first p ws ks = true

abbrev pub each_slot : (ℕ → Bool) → List ℕ → Bool
each_slot p [] = true
each_slot p (k ∷ ks) = p k && each_slot p ks

-- What holds of them.
abbrev pub pair_holds : ℕ → Wanted → Wanted → ℕ → ℕ → Bool
pair_holds code w x k l =
    stop_in_where x.gap code k l
    && ((not (is_m x.class && x.gap) || stop_right_before code l) && (not (is_b w.class) || ((l == k + 1) && not x.gap)))

abbrev pub last_holds : ℕ → Wanted → ℕ → Bool
last_holds code w k = no_stop_in code k (last_place code) && (not (is_b w.class) || (k == last_place code))

abbrev pub first_holds : ℕ → Wanted → ℕ → Bool
first_holds code w k = no_stop_in code 0 k && (not (is_m_or_a w.class) || (k == 0))

abbrev same_length : List Wanted → List ℕ → Bool
same_length ws ks = length ks == length ws

abbrev facts : List Wanted → Bool → ℕ → List ℕ → Bool
facts ws end code ks =
    (is_shape (units_of code) && (same_length ws ks && (are_rising ks && each_slot (λ k. nat_le k (last_place code)) ks)))
    && ((each_pair (pair_holds code) ws ks && at_last (last_holds code) ws ks)
    && (at_first (first_holds code) ws ks && is_as end (has_stop (blank code) (last_place code))))

-- What holds of the layout of a list.
pub record AreFacts (ws : List Wanted) (end : Bool) (code : ℕ) (ks : List ℕ) : Type 0 where
  pub shape : is_shape (units_of code) ≡ true
  pub count : (length ks == length ws) ≡ true
  pub rising : are_rising ks ≡ true
  pub inside : each_slot (λ k. nat_le k (last_place code)) ks ≡ true
  pub pairs : each_pair (pair_holds code) ws ks ≡ true
  pub last : at_last (last_holds code) ws ks ≡ true
  pub first : at_first (first_holds code) ws ks ≡ true
  pub stop : is_as end (has_stop (blank code) (last_place code)) ≡ true

facts_of : (ws : List Wanted) (end : Bool) (code : ℕ) (ks : List ℕ) → facts ws end code ks ≡ true → AreFacts ws end code ks
facts_of ws end code ks h =
    let a = left _ _ h in let b = right _ _ h in
    let c = right _ _ a in let d = right _ _ c in
    let e = left _ _ b in let f = right _ _ b in
    record {
      shape = left _ _ a;
      count = left _ _ c;
      rising = left _ _ d;
      inside = right _ _ d;
      pairs = left _ _ e;
      last = right _ _ e;
      first = left _ _ f;
      stop = right _ _ f;
    }

abbrev hold_if_some : List Wanted → Bool → Option (ℕ × List ℕ) → Bool
hold_if_some ws end None = true
hold_if_some ws end (Some layout) = facts ws end layout.0 layout.1

abbrev facts_hold : List Wanted → Bool
facts_hold ws = each_bool (λ end. hold_if_some ws end (laid_out ws end))

-- The front of a list, all but its last one, has a layout where the whole has one.
abbrev front_of : List Wanted → List Wanted
front_of [] = []
front_of (w ∷ []) = []
front_of (w ∷ x ∷ ws) = w ∷ front_of (x ∷ ws)

abbrev is_laid_out_if : Option (ℕ × List ℕ) → List Wanted → Bool
is_laid_out_if whole [] = true
is_laid_out_if whole (w ∷ ws) = not (is_some whole) || is_some (laid_out (w ∷ ws) false)

abbrev front_holds : List Wanted → Bool
front_holds ws = each_bool (λ end. is_laid_out_if (laid_out ws end) (front_of ws))

-- With a stop at the end: the same slots, and the next code.
abbrev same_slots : List ℕ → List ℕ → Bool
same_slots [] [] = true
same_slots (k ∷ ks) (l ∷ ls) = (k == l) && same_slots ks ls
same_slots ks ls = false

abbrev same_layout : Option (ℕ × List ℕ) → Option (ℕ × List ℕ) → Bool
same_layout None None = true
same_layout (Some a) (Some b) = (a.0 == b.0) && same_slots a.1 b.1
same_layout a b = false

abbrev with_next_code : Option (ℕ × List ℕ) → Option (ℕ × List ℕ)
with_next_code o = option_map (λ layout. (layout.0 + 1, layout.1)) o

abbrev end_takes_next : List Wanted → Bool
end_takes_next ws = same_layout (laid_out ws true) (with_next_code (laid_out ws false))

-- The facts hold of each list of up to three instructions: a computation.
abbrev holds_all : List Wanted → Bool
holds_all ws = facts_hold ws && (front_holds ws && end_takes_next ws)

all_up_to_three : HoldsUpToThree holds_all
unfolding laid_out first_below
all_up_to_three = record { none = refl; one = λ g. refl; two = λ g. refl; three = λ g. refl }

-- The facts hold of each list, as a longer one has no layout.
all_hold : (ws : List Wanted) → (facts_hold ws ≡ true) × ((front_holds ws ≡ true) × (end_takes_next ws ≡ true))
all_hold ws =
    let all = for_every holds_all all_up_to_three (λ w x y z ws. rw (too_long w x y z ws true, too_long w x y z ws false) refl) ws in
    let others = right (facts_hold ws) (front_holds ws && end_takes_next ws) all in (
      left (facts_hold ws) (front_holds ws && end_takes_next ws) all,
      (left (front_holds ws) (end_takes_next ws) others, right (front_holds ws) (end_takes_next ws) others),
    )

pub facts_at : (ws : List Wanted) (end : Bool) (code : ℕ) (ks : List ℕ) → laid_out ws end ≡ Some (code, ks) → AreFacts ws end code ks
facts_at ws end code ks is =
    let here : hold_if_some ws end (laid_out ws end) ≡ true = at_bool (λ end. hold_if_some ws end (laid_out ws end)) (all_hold ws).0 end in
    facts_of ws end code ks (subst (λ l. hold_if_some ws end l ≡ true) is here)

-- Each single instruction has a layout.
singles : (g : Bool) → each_class (λ a. each_bool (λ end. is_some (laid_out (wanted a g ∷ []) end))) ≡ true
unfolding laid_out first_below
singles g = refl

pub one_is_laid_out : (w : Wanted) (end : Bool) → IsSome (laid_out (w ∷ []) end)
one_is_laid_out w end =
    at_bool (λ end. is_some (laid_out (w ∷ []) end))
    (at_class (λ a. each_bool (λ end. is_some (laid_out (wanted a w.gap ∷ []) end))) (singles w.gap) w.class)
    end

front_of-append : (ws : List Wanted) (x : Wanted) → front_of (ws ++ x ∷ []) ≡ ws
front_of-append [] x = refl
front_of-append (w ∷ []) x = refl
front_of-append (w ∷ y ∷ ws) x = ap (λ (l : List Wanted). w ∷ l) (front_of-append (y ∷ ws) x)

-- A list without its last one has a layout where the whole has one.
pub front_is_laid_out : (w : Wanted) (ws : List Wanted) (x : Wanted) (end : Bool) → IsSome (laid_out (w ∷ ws ++ x ∷ []) end)
    → IsSome (laid_out (w ∷ ws) false)
front_is_laid_out w ws x end whole =
    let list = w ∷ ws ++ x ∷ [] in
    let here : is_laid_out_if (laid_out list end) (front_of list) ≡ true =
    at_bool (λ end. is_laid_out_if (laid_out list end) (front_of list)) (all_hold list).1.0 end in
    let there : is_laid_out_if (laid_out list end) (w ∷ ws) ≡ true =
    subst (λ front. is_laid_out_if (laid_out list end) front ≡ true) (front_of-append (w ∷ ws) x) here in
    entailed (is_some (laid_out list end)) (is_some (laid_out (w ∷ ws) false)) there whole

same_slots-true : (ks ls : List ℕ) → same_slots ks ls ≡ true → ks ≡ ls
same_slots-true [] [] h = refl
same_slots-true [] (l ∷ ls) h = absurd (cc)
same_slots-true (k ∷ ks) [] h = absurd (cc)
same_slots-true (k ∷ ks) (l ∷ ls) h =
    let e : k ≡ l = eqb-true k l (left (k == l) (same_slots ks ls) h) in
    let f : ks ≡ ls = same_slots-true ks ls (right (k == l) (same_slots ks ls) h) in
    cc

same_layout-true : (a b : Option (ℕ × List ℕ)) → same_layout a b ≡ true → a ≡ b
same_layout-true None None h = refl
same_layout-true None (Some b) h = absurd (cc)
same_layout-true (Some a) None h = absurd (cc)
same_layout-true (Some a) (Some b) h =
    let e : a.0 ≡ b.0 = eqb-true a.0 b.0 (left (a.0 == b.0) (same_slots a.1 b.1) h) in
    let f : a.1 ≡ b.1 = same_slots-true a.1 b.1 (right (a.0 == b.0) (same_slots a.1 b.1) h) in
    ap (λ (code : ℕ). Some (code, a.1)) e ∙ ap (λ (ks : List ℕ). Some (b.0, ks)) f

-- With a stop at the end a list takes the same slots and the next code.
pub end_takes_next_code : (ws : List Wanted) → laid_out ws true ≡ option_map (λ layout. (layout.0 + 1, layout.1)) (laid_out ws false)
end_takes_next_code ws =
    same_layout-true (laid_out ws true) (with_next_code (laid_out ws false)) (all_hold ws).1.1
