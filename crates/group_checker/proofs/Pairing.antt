-- What is found of a slot of the window and the slot under way is what they break on some walk.
use Rattle.std.proofs.Common.{◌≡◌, ℕ, ◌+◌, ◌-◌, ◌<◌, ◌⊎◌, Bool, true, false, cond, ◌&&◌, None, Some, List, length, get_or, refl, sym, ap, ◌∙◌, subst, arith, inl, inr}
use Rattle.std.specs.Prelude.{Contains}
use Rattle.std.proofs.lemmas.Bool.{cases_lt, cases_Bool, and_cases, true≢false}
use Rattle.ia_program.specs.declared.place.Place.{Place}
use Rattle.ia_program.specs.Places.{IsBefore}
use Rattle.ia_meaning.specs.Actions.{is_alloc}
use Rattle.resource_sets.specs.declared.access.Access.{Access}
use Rattle.resource_sets.specs.InsnAccesses.{may_clash}
use Rattle.resource_sets.specs.declared.access.Resource.{Resource}
use Rattle.resource_sets.specs.declared.access.Resource.TheVariants.{Cfm}
use Rattle.resource_sets.specs.declared.clashes.Rule.{Rule}
use Rattle.resource_sets.specs.declared.clashes.Rule.TheVariants.{Raw, Waw, War63, AllocFirst, ClearLast}
use Rattle.resource_sets.specs.Clashes.{clash, clash_of, is_resource, is_raw, is_waw, is_war63}
use Rattle.slot_table.specs.declared.slot.Slot.{Slot}
use Rattle.flow_facts.specs.Graphs.{Graph, IsEdgeIn}
use Rattle.flow_facts.specs.Walks.{Walk, end_of, group_since}
use Rattle.predicate_rel.specs.declared.edge.Edge.TheVariants.{Falls}
use Rattle.order_laws.specs.declared.violation.Violation.{Violation}
use Rattle.group_checker.specs.declared.window.EarlierSlot.{EarlierSlot}
use Rattle.order_laws.specs.Excuses.{accesses_at, IsExcused, IsLatest}
use Rattle.order_laws.specs.Violations.{Clashes, Breaks, ViolatesIn, allocates_at}
use Rattle.group_checker.specs.declared.broken.Broken.{Broken}
use Rattle.group_checker.specs.Broken.{is_broken, Gains}
use Rattle.group_checker.specs.Windows.{IsThrough, IsAt, IsWindow, Describes, HasWindow}
use Rattle.group_checker.specs.Findings.{may_be_excused, excused_by, Finds, AreBroken, IsPair, IsNthPair, IsSlotRule}
use Rattle.group_checker.proofs.Gaining.{apart_clash}
use Rattle.order_laws.proofs.Falling.{not_before_itself, one_before, comes_from}
use Rattle.group_checker.proofs.EarlierSlots.{at_once, earlier_at}
use Rattle.group_checker.proofs.Excusing.{opens, excuses}
use Rattle.group_checker.proofs.Slots.{slot_allocates}

-- A clash is by one of three rules.
of_three : (a b c d : Bool) (P : Rule → Type 0) (rule : Rule) → cond a (cond b (Some Raw) (cond c (Some Waw) (cond d (Some War63) None)))
    None ≡ Some rule → P Raw → P Waw → P War63 → P rule
of_three true true c d P rule e x y z = subst P (let q : Raw ≡ rule = cc in q) x
of_three true false true d P rule e x y z = subst P (let q : Waw ≡ rule = cc in q) y
of_three true false false true P rule e x y z = subst P (let q : War63 ≡ rule = cc in q) z
of_three true false false false P rule e x y z = absurd cc
of_three false b c d P rule e x y z = absurd cc

-- The rules by which accesses clash.
abbrev IsClashRule : Rule → Type 0
IsClashRule Raw = Unit {0}
IsClashRule Waw = Unit {0}
IsClashRule War63 = Unit {0}
IsClashRule AllocFirst = ⊥
IsClashRule ClearLast = ⊥

-- Accesses clash by one of these.
clash_rule : (a b : Access) (rule : Rule) → clash a b ≡ Some rule → IsClashRule rule
unfolding clash_of
clash_rule a b rule e =
    of_three (is_resource a.resource b.resource) (is_raw a.kind b.kind) (is_waw a.kind b.kind)
    (is_war63 a.kind b.kind) IsClashRule rule e tt tt tt

-- Accesses that clash break the rule, if they are not excused where they could be.
breaks_by_clash : (g : Graph) (has_stop : Place → Bool) (w : Walk) (i : Place) (rule : Rule) (q : Resource)
    (c : Clashes g i (end_of w) rule q) → (may_be_excused rule ≡ true → ¬ IsExcused g has_stop w i c.first.guard c.second.guard)
    → Breaks g has_stop w i rule q
breaks_by_clash g has_stop w i Raw q c open_on = record { clashes = c; stays = open_on refl }
breaks_by_clash g has_stop w i Waw q c open_on = record { clashes = c; stays = open_on refl }
breaks_by_clash g has_stop w i War63 q c open_on = c
breaks_by_clash g has_stop w i AllocFirst q c open_on = absurd (clash_rule c.first c.second AllocFirst c.clash)
breaks_by_clash g has_stop w i ClearLast q c open_on = absurd (clash_rule c.first c.second ClearLast c.clash)

-- What is broken on a walk through the first slot is a violation.
violates_by : (g : Graph) (has_stop : Place → Bool) (i j : Place) (v : Violation) (w : Walk) → IsPair i j v → IsThrough g has_stop i j w
    → Breaks g has_stop w i v.rule v.resource → ViolatesIn g has_stop v
violates_by g has_stop i j v w is through breaks = record {
  walk = w;
  there = record { walks = through.there.walks; ends = through.there.ends ∙ sym is.1 };
  inside = subst (Contains (group_since has_stop w)) (sym is.0) through.inside;
  breaks = subst (λ (k : Place). Breaks g has_stop w k v.rule v.resource) (sym is.0) breaks;
}

-- A violation is broken on some walk through the first slot.
record BrokenOn (g : Graph) (has_stop : Place → Bool) (i j : Place) (v : Violation) : Type 0 where
  walk : Walk
  through : IsThrough g has_stop i j walk
  breaks : Breaks g has_stop walk i v.rule v.resource

-- Of a pair of slots it is broken on a walk through the first.
broken_on : (g : Graph) (has_stop : Place → Bool) (i j : Place) (v : Violation) → IsPair i j v → ViolatesIn g has_stop v
    → BrokenOn g has_stop i j v
broken_on g has_stop i j v is x = record {
  walk = x.walk;
  through =
      record {
        there = record { walks = x.there.walks; ends = x.there.ends ∙ is.1 };
        inside = subst (Contains (group_since has_stop x.walk)) is.0 x.inside;
      };
  breaks = subst (λ (k : Place). Breaks g has_stop x.walk k v.rule v.resource) is.0 x.breaks;
}

-- Some walk leaves what is found unexcused.
record Unexcused (g : Graph) (has_stop : Place → Bool) (i j : Place) (rule : Rule) (guard other : ℕ) : Type 0 where
  walk : Walk
  through : IsThrough g has_stop i j walk
  stays : may_be_excused rule ≡ true → ¬ IsExcused g has_stop walk i guard other

unexcused : (g : Graph) (has_stop : Place → Bool) (es : List EarlierSlot) (j : Place) (n : ℕ) (e : EarlierSlot) (rule : Rule)
    (guard other : ℕ) → IsWindow g has_stop es j → IsAt es n e → (may_be_excused rule && excused_by e guard other) ≡ false
    → Unexcused g has_stop e.place j rule guard other
unexcused g has_stop es j n e rule guard other win at fails = elim (and_cases (may_be_excused rule) (excused_by e guard other) fails) [
  | inl never ↦ (let is = win.carried n e at in let (w, through) = is.known.reached in
      record { walk = w; through = through; stays = λ may. absurd (true≢false (sym may ∙ never)) })
  | inr q ↦ (let o = opens g has_stop es j n e guard other win at q in
      record { walk = o.walk; through = o.through; stays = λ may. o.stays })
]

-- What is found of an earlier slot and the one at a place.
abbrev FindsAt : Graph → Place → EarlierSlot → Violation → Type 0
FindsAt g j e v = Finds e (Contains e.masks) (Contains (accesses_at g j)) v

-- What is found is broken on a walk.
pub found_violates : (g : Graph) (has_stop : Place → Bool) (es : List EarlierSlot) (j : Place) (n : ℕ) (e : EarlierSlot) (v : Violation)
    → IsWindow g has_stop es j → IsAt es n e → IsPair e.place j v → FindsAt g j e v → ViolatesIn g has_stop v
found_violates g has_stop es j n e v win at is c =
    let o = unexcused g has_stop es j n e v.rule c.first.guard c.second.guard win at c.stays in
    let carried = win.carried n e at in
    violates_by g has_stop e.place j v o.walk is o.through (breaks_by_clash g has_stop o.walk e.place v.rule v.resource (record {
      first = c.first;
      second = c.second;
      of_first = subst (λ (l : List Access). Contains l c.first) carried.accesses c.of_first;
      of_second = subst (λ (k : Place). Contains (accesses_at g k) c.second) (sym o.through.there.ends) c.of_second;
      first_on = c.first_on;
      second_on = c.second_on;
      clash = c.clash;
    }) o.stays)

-- Accesses of one that may not clash are never found.
apart_finds : (g : Graph) (j : Place) (e : EarlierSlot) (v : Violation) → may_clash e.masks (accesses_at g j) ≡ false → FindsAt g j e v → ⊥
apart_finds g j e v apart c = apart_clash e.masks (accesses_at g j) c.first c.second v.rule apart c.of_first c.of_second c.clash

-- The last slot of the window is the latest of the group on each walk through it.
latest : (g : Graph) (has_stop : Place → Bool) (es : List EarlierSlot) (j : Place) (n : ℕ) (e : EarlierSlot) (w : Walk)
    → IsWindow g has_stop es j → IsAt es n e → n + 1 ≡ length es → IsThrough g has_stop e.place j w
    → IsLatest (group_since has_stop w) e.place
latest g has_stop es j n e w win at end through =
    let from = comes_from g has_stop w e.place through.there.walks through.inside in
    let edge = subst (IsEdgeIn g (end_of from.before) Falls) through.there.ends from.edge in
    let same : end_of from.before ≡ e.place = one_before g (end_of from.before) e.place j edge (win.last n e at end) in
    subst (λ (l : List Place). IsLatest l e.place) (sym from.group) same

-- No slot but the last one of the window is the latest of the group on a walk through it.
is_last : (g : Graph) (has_stop : Place → Bool) (es : List EarlierSlot) (j : Place) (n : ℕ) (e : EarlierSlot) (w : Walk)
    → IsWindow g has_stop es j → IsAt es n e → IsThrough g has_stop e.place j w → IsLatest (group_since has_stop w) e.place
    → n + 1 ≡ length es
is_last g has_stop es j n e w win at through is = elim (cases_lt (n + 1) (length es)) [
  | inl l ↦ absurd (not_before_itself e.place (later l))
  | inr l ↦ omega (arith, at.short)
]
  where
    later : n + 1 < length es → IsBefore e.place e.place
    later l =
        let m : ℕ = length es - 1 in
        let b : EarlierSlot = get_or es m e in
        let there = earlier_at es m e (omega arith) in
        let from = comes_from g has_stop w e.place through.there.walks through.inside in
        let same : end_of from.before ≡ e.place = subst (λ (l : List Place). IsLatest l e.place) from.group is in
        let edge : IsEdgeIn g e.place Falls j =
        subst (λ (k : Place). IsEdgeIn g k Falls j) same (subst (IsEdgeIn g (end_of from.before) Falls) through.there.ends from.edge) in
        let one : b.place ≡ e.place = one_before g b.place e.place j (win.last m b there (omega arith)) edge in
        subst (IsBefore e.place) one (win.rises n m e b at there (omega arith))

-- The rules on slots break on each walk through the first.
pub slot_violates : (g : Graph) (has_stop : Place → Bool) (es : List EarlierSlot) (j : Place) (s : Slot) (n : ℕ) (e : EarlierSlot)
    (v : Violation) → IsWindow g has_stop es j → Describes g has_stop j s → IsAt es n e → n + 1 ≡ length es → IsPair e.place j v
    → IsSlotRule e s v → ViolatesIn g has_stop v
slot_violates g has_stop es j s n e v win here_at at end is rule =
    let carried = win.carried n e at in
    let (w, through) = carried.known.reached in
    let here = latest g has_stop es j n e w win at end through in
    violates_by g has_stop e.place j v w is through (broken w through here rule)
  where
    of : (w : Walk) (rule : Rule) → v.rule ≡ rule → v.resource ≡ Cfm → Breaks g has_stop w e.place rule Cfm
        → Breaks g has_stop w e.place v.rule v.resource
    of w rule a b breaks = let P : Rule → Resource → Type 0 = λ r q. Breaks g has_stop w e.place r q in
        subst (λ (r : Rule). P r v.resource) (sym a) (subst (λ (q : Resource). P rule q) (sym b) breaks)

    broken : (w : Walk) → IsThrough g has_stop e.place j w → IsLatest (group_since has_stop w) e.place → IsSlotRule e s v
        → Breaks g has_stop w e.place v.rule v.resource
    broken w through here (inl r) =
        of w AllocFirst r.rule r.resource (
          subst (λ (k : Place). allocates_at g k ≡ true) (sym through.there.ends)
              (slot_allocates g has_stop j s here_at ∙ r.allocates),
          here,
          refl,
        )
    broken w through here (inr r) = of w ClearLast r.rule r.resource (sym (win.carried n e at).clears ∙ r.clears, here, refl)

-- A clash on a walk is found.
finds_clash : (g : Graph) (has_stop : Place → Bool) (es : List EarlierSlot) (j : Place) (n : ℕ) (e : EarlierSlot) (v : Violation) (w : Walk)
    → IsWindow g has_stop es j → IsAt es n e → IsThrough g has_stop e.place j w → (c : Clashes g e.place (end_of w) v.rule v.resource)
    → (may_be_excused v.rule && excused_by e c.first.guard c.second.guard) ≡ false → FindsAt g j e v
finds_clash g has_stop es j n e v w win at through c stays =
    let carried = win.carried n e at in
    record {
      first = c.first;
      second = c.second;
      of_first = subst (λ (l : List Access). Contains l c.first) (sym carried.accesses) c.of_first;
      of_second = subst (λ (k : Place). Contains (accesses_at g k) c.second) through.there.ends c.of_second;
      first_on = c.first_on;
      second_on = c.second_on;
      clash = c.clash;
      stays = stays;
    }

-- What is broken on a walk is found.
pub violation_found : (g : Graph) (has_stop : Place → Bool) (es : List EarlierSlot) (j : Place) (s : Slot) (n : ℕ) (e : EarlierSlot)
    (v : Violation) → IsWindow g has_stop es j → Describes g has_stop j s → IsAt es n e → IsPair e.place j v → ViolatesIn g has_stop v
    → FindsAt g j e v ⊎ ((n + 1 ≡ length es) × IsSlotRule e s v)
violation_found g has_stop es j s n e v win here_at at is x =
    let b = broken_on g has_stop e.place j v is x in by_rule b.walk b.through v.rule refl b.breaks
  where
    unexcused_stays : (w : Walk) → IsThrough g has_stop e.place j w → (may : Bool) (guard other : ℕ)
        → ¬ IsExcused g has_stop w e.place guard other → (may && excused_by e guard other) ≡ false
    unexcused_stays w through false guard other stays = refl
    unexcused_stays w through true guard other stays = elim (cases_Bool (excused_by e guard other)) [
      | inl t ↦ absurd (stays (excuses g has_stop es j n e guard other w win at t through))
      | inr f ↦ f
    ]

    by_clash : (w : Walk) (rule : Rule) → v.rule ≡ rule → IsThrough g has_stop e.place j w
        → (c : Clashes g e.place (end_of w) rule v.resource) → (may_be_excused rule && excused_by e c.first.guard c.second.guard) ≡ false
        → FindsAt g j e v
    by_clash w rule same through c stays =
        finds_clash g has_stop es j n e v w win at through
        (record {
          first = c.first;
          second = c.second;
          of_first = c.of_first;
          of_second = c.of_second;
          first_on = c.first_on;
          second_on = c.second_on;
          clash = c.clash ∙ ap Some (sym same);
        })
        (ap (λ (r : Rule). may_be_excused r && excused_by e c.first.guard c.second.guard) same ∙ stays)

    by_rule : (w : Walk) → IsThrough g has_stop e.place j w → (rule : Rule) → v.rule ≡ rule → Breaks g has_stop w e.place rule v.resource
        → FindsAt g j e v ⊎ ((n + 1 ≡ length es) × IsSlotRule e s v)
    by_rule w through Raw same b =
        inl (by_clash w Raw same through b.clashes (unexcused_stays w through true b.clashes.first.guard b.clashes.second.guard b.stays))
    by_rule w through Waw same b =
        inl (by_clash w Waw same through b.clashes (unexcused_stays w through true b.clashes.first.guard b.clashes.second.guard b.stays))
    by_rule w through War63 same b = inl (by_clash w War63 same through b refl)
    by_rule w through AllocFirst same b =
        inr (
          is_last g has_stop es j n e w win at through b.1,
          inl (record {
            rule = same;
            allocates = sym (slot_allocates g has_stop j s here_at) ∙ subst (λ (k : Place). allocates_at g k ≡ true) through.there.ends
                b.0;
            resource = b.2;
          }),
        )
    by_rule w through ClearLast same b =
        inr (
          is_last g has_stop es j n e w win at through b.1,
          inr (record {
            rule = same;
            clears = (win.carried n e at).clears ∙ b.0;
            resource = b.2;
          }),
        )

-- No rule on slots is broken where the second is no `alloc` and the first no `clrrrb`.
pub no_slot_rule : (e : EarlierSlot) (s : Slot) (v : Violation) → e.clears ≡ false → is_alloc s.action ≡ false → ¬ IsSlotRule e s v
no_slot_rule e s v clears allocates (inl r) = true≢false (sym r.allocates ∙ allocates)
no_slot_rule e s v clears allocates (inr r) = true≢false (sym r.clears ∙ clears)

-- A pair of slots whose accesses may not clash breaks the rules on slots or none.
pub apart_pair : (g : Graph) (has_stop : Place → Bool) (es : List EarlierSlot) (j : Place) (s : Slot) (seconds : List Access) (n : ℕ)
    (e : EarlierSlot) (v : Violation) → HasWindow g has_stop es j s seconds → IsAt es n e
    → may_clash e.masks seconds ≡ false → (n + 1 ≡ length es → ¬ IsSlotRule e s v) → IsNthPair es n j v → ¬ ViolatesIn g has_stop v
apart_pair g has_stop es j s seconds n e v u at apart no_rule nth x =
    let pair = subst (λ (q : EarlierSlot). IsPair q.place j v) (at_once es n nth.slot e nth.at at) nth.pair in
    elim (violation_found g has_stop es j s n e v u.window u.slot at pair x) [
      | inl found ↦ apart_finds g j e v (ap (may_clash e.masks) (sym u.accesses) ∙ apart) found
      | inr slots ↦ no_rule slots.0 slots.1
    ]

-- What a pair of slots breaks is what its accesses find, and if the slots follow each other, what the rules on slots say.
pub pair_all : (g : Graph) (has_stop : Place → Bool) (es : List EarlierSlot) (j : Place) (s : Slot) (seconds : List Access) (n : ℕ)
    (e : EarlierSlot) (none some all : Broken) → HasWindow g has_stop es j s seconds → IsAt es n e
    → ((v : Violation) → is_broken none v ≡ false) → Gains none some (Finds e (Contains e.masks) (Contains seconds))
    → Gains some all (λ v. (n + 1 ≡ length es) × IsSlotRule e s v) → AreBroken g has_stop es n j all
pair_all g has_stop es j s seconds n e none some all u at nothing a b = record {
  has = λ v nth x. elim (violation_found g has_stop es j s n e v u.window u.slot at (pair v nth) x) [
    | inl found ↦ b.keeps v (a.has v (subst (λ (l : List Access). Finds e (Contains e.masks) (Contains l) v) (sym u.accesses) found))
    | inr slots ↦ b.has v slots
  ];
  only = λ v nth c. elim (b.only v c) [
    | inl d ↦ elim (a.only v d) [
      | inl before ↦ absurd (true≢false (sym before ∙ nothing v))
      | inr found ↦ found_violates g has_stop es j n e v u.window at (pair v nth)
          (subst (λ (l : List Access). Finds e (Contains e.masks) (Contains l) v) u.accesses found)
    ]
    | inr h ↦ slot_violates g has_stop es j s n e v u.window u.slot at h.0 (pair v nth) h.1
  ];
}
  where
    pair : (v : Violation) → IsNthPair es n j v → IsPair e.place j v
    pair v nth = subst (λ (q : EarlierSlot). IsPair q.place j v) (at_once es n nth.slot e nth.at at) nth.pair
