-- The tests and functions of places say what the definitions of programs say.
use Rattle.std.proofs.Common.{◌≡◌, ℕ, zero, suc, ◌+◌, ◌-◌, ◌<◌, ◌⊎◌, Bool, true, false, ◌&&◌, ◌||◌, ◌==◌, nat_lt, nat_le, List, [], ◌∷◌, length, Option, Some, None, refl, sym, ap, arith, if◌then◌else◌}
use Rattle.std.proofs.lemmas.Bool.Decides.{nat_tests, same_from_decides, Decides-eqb, Decides-ltb, Decides-and, Decides-or}
use Rattle.std.specs.Prelude.{Decides, IsTrue, ◌↔◌, slice_get, Contains, IsSomeAnd, MatchOption}
use Rattle.ia_insn.specs.declared.insn.Op.{Op}
use Rattle.ia_insn.specs.declared.insn.Op.TheVariants.{BrCall, BrCallInd}
use Rattle.ia_program.specs.declared.place.Place.{Place}
use Rattle.ia_program.specs.declared.bundle.Slots.{Slots}
use Rattle.ia_program.specs.declared.bundle.Slots.TheVariants.{Three, Long}
use Rattle.ia_program.specs.Templates.{stops_of}
use Rattle.ia_program.specs.Bundles.{Bundle, last_slot, IsStopAfter}
use Rattle.ia_program.specs.Places.{IsPlaceOf, IsBefore, IsNext, IsStopped}
use Rattle.ia_program.specs.Programs.{Program, IsEntry, IsCall, HasCall, IsAfterCall}
use Rattle.ia_program.proofs.InOrder.{next_slot, next_bundle, no_next, none_beyond}
use Rattle.ia_program.proofs.Reaching.{same_place}
use Rattle.ia_meaning.specs.Landings.{is_one_of, is_call, has_call, holds_call, is_entry}
use Rattle.ia_meaning.specs.Sequence.{first_of, next_in, next_of, stops_after, stopped_in, is_stopped}

later : (n k : ℕ) (ks : List ℕ) → Contains ks n → Contains (k ∷ ks) n
later n k ks h = (suc h.0, omega (arith, h.1), h.2)

-- One number more is tested.
one_more : (n k : ℕ) (ks : List ℕ) → Decides (is_one_of n ks) (Contains ks n) → Decides (is_one_of n (k ∷ ks)) (Contains (k ∷ ks) n)
one_more n k ks rest = (forward (n == k) refl, backward)
  where
    forward : (b : Bool) → (n == k) ≡ b → (b || is_one_of n ks) ≡ true → Contains (k ∷ ks) n
    forward true e h = (0, omega arith, sym ((Decides-eqb n k).0 e))
    forward false e h = later n k ks (rest.0 h)

    or_true : (b c : Bool) → c ≡ true → (b || c) ≡ true
    or_true true c h = refl
    or_true false c h = h

    backward : Contains (k ∷ ks) n → is_one_of n (k ∷ ks) ≡ true
    backward (zero, inside, is) = simp ((Decides-eqb n k).1 (sym is))
    backward (suc j, inside, is) = or_true (n == k) (is_one_of n ks) (rest.1 (j, omega arith, is))

-- The test of the numbers of a list.
one_of_decides : (n : ℕ) (ks : List ℕ) → Decides (is_one_of n ks) (Contains ks n)
one_of_decides n [] = ((λ h. absurd (cc)), (λ h. absurd (omega (arith, h.1))))
one_of_decides n (k ∷ ks) = one_more n k ks (one_of_decides n ks)

call_decides : (op : Op) → Decides (is_call op) (IsCall op)
call_decides (BrCall b1 wh many clr disp) = ((λ _. tt), (λ _. refl))
call_decides (BrCallInd b1 b2 wh many clr) = ((λ _. tt), (λ _. refl))
call_decides _ = ((λ h. absurd (cc)), (λ h. absurd h))

slots_decide : (slots : Slots) → Decides (has_call slots) (HasCall slots)
slots_decide (Three a b c) =
    Decides-or (is_call a.op) (is_call b.op || is_call c.op) (call_decides a.op)
    (Decides-or (is_call b.op) (is_call c.op) (call_decides b.op) (call_decides c.op))
slots_decide (Long first long) = Decides-or (is_call first.op) (is_call long.op) (call_decides first.op) (call_decides long.op)

bundle_decides : (o : Option Bundle) → Decides (holds_call o) (IsSomeAnd o (λ b. HasCall b.slots))
bundle_decides None = ((λ h. absurd (cc)), (λ h. absurd h))
bundle_decides (Some b) = slots_decide b.slots

after_call_decides : (bundles : List Bundle) (n : ℕ) → Decides (nat_le 1 n && holds_call (slice_get bundles (n - 1)))
    (IsAfterCall bundles n)
after_call_decides bundles n =
    Decides-and (nat_le 1 n) (holds_call (slice_get bundles (n - 1))) (Decides-ltb 0 n) (bundle_decides (slice_get bundles (n - 1)))

-- The test of entries.
pub entry_decides : (p : Program) (n : ℕ) → IsTrue (is_entry p n) ↔ IsEntry p n
unfolding is_entry
entry_decides p n = ((λ h. let e = both.0 h in record { inside = e.0; kind = e.1 }), (λ e. both.1 (e.inside, e.kind)))
  where
    kinds : Decides ((n == 0) || (is_one_of n p.entries || (nat_le 1 n && holds_call (slice_get p.bundles (n - 1)))))
        ((n ≡ 0) ⊎ (Contains p.entries n ⊎ IsAfterCall p.bundles n))
    kinds =
        Decides-or (n == 0) (is_one_of n p.entries || (nat_le 1 n && holds_call (slice_get p.bundles (n - 1)))) (Decides-eqb n 0)
        (Decides-or (is_one_of n p.entries) (nat_le 1 n && holds_call (slice_get p.bundles (n - 1))) (one_of_decides n p.entries)
        (after_call_decides p.bundles n))

    both : Decides (nat_lt n (length p.bundles) && ((n == 0) || (is_one_of n p.entries
        || (nat_le 1 n && holds_call (slice_get p.bundles (n - 1))))))
        ((n < length p.bundles) × ((n ≡ 0) ⊎ (Contains p.entries n ⊎ IsAfterCall p.bundles n)))
    both =
        Decides-and (nat_lt n (length p.bundles)) ((n == 0) || (is_one_of n p.entries
        || (nat_le 1 n && holds_call (slice_get p.bundles (n - 1))))) (Decides-ltb n (length p.bundles)) kinds

-- A test that says whether a bundle is an entry is that of entries.
pub entry_same : (p : Program) (n : ℕ) (b : Bool) → IsTrue b ↔ IsEntry p n → b ≡ is_entry p n
entry_same p n b h = same_from_decides b (is_entry p n) h (entry_decides p n)

stop_after_decides : (template : ℕ) (slots : Slots) (slot : ℕ) → Decides (stops_after template slots slot) (IsStopAfter template slots slot)
stop_after_decides template (Three a b c) slot = one_of_decides slot (stops_of template)
stop_after_decides template (Long first long) slot =
    Decides-and (slot == 1) (is_one_of 2 (stops_of template)) (Decides-eqb slot 1) (one_of_decides 2 (stops_of template))

-- The test of stops.
pub stop_decides : (bundles : List Bundle) (place : Place) → IsTrue (is_stopped bundles place) ↔ IsStopped bundles place
unfolding is_stopped
stop_decides bundles place = of (slice_get bundles place.bundle)
  where
    of : (o : Option Bundle) → Decides (stopped_in o place.slot) (IsSomeAnd o (λ b. IsStopAfter b.template b.slots place.slot))
    of None = ((λ h. absurd (cc)), (λ h. absurd h))
    of (Some b) = stop_after_decides b.template b.slots place.slot

-- A test that says whether a stop follows a place is that of stops.
pub stop_same : (bundles : List Bundle) (place : Place) (b : Bool) → IsTrue b ↔ IsStopped bundles place → b ≡ is_stopped bundles place
stop_same bundles place b h = same_from_decides b (is_stopped bundles place) h (stop_decides bundles place)

-- This is the next place, or there is none.
abbrev pub FitsNext : List Bundle → Place → Option Place → Type 0
FitsNext bundles place o = MatchOption o ((q : Place) → IsPlaceOf bundles q → IsBefore place q → ⊥) (λ next. IsNext bundles place next)

next_in_bundle : (bundles : List Bundle) (place : Place) (b : Bundle) → slice_get bundles place.bundle ≡ Some b
    → FitsNext bundles place (next_in (Some b) (length bundles) place)
next_in_bundle bundles place b is = of (nat_lt place.slot (last_slot b.slots)) (nat_lt (place.bundle + 1) (length bundles)) refl refl
  where
    of : (inner more : Bool) → nat_lt place.slot (last_slot b.slots) ≡ inner → nat_lt (place.bundle + 1) (length bundles) ≡ more →
        FitsNext bundles place (if inner then Some (record { bundle = place.bundle; slot = place.slot + 1 }) else if more then Some
        (first_of (place.bundle + 1)) else None)
    of true more e f = next_slot bundles place b is (grind (arith, nat_tests))
    of false true e f = next_bundle bundles place b is (grind (arith, nat_tests)) (grind (arith, nat_tests))
    of false false e f = no_next bundles place b is (grind (arith, nat_tests)) (grind (arith, nat_tests))

-- The function of next places.
pub next_fits : (bundles : List Bundle) (place : Place) → FitsNext bundles place (next_of bundles place)
unfolding next_of
next_fits bundles place = of (slice_get bundles place.bundle) refl
  where
    of : (o : Option Bundle) → slice_get bundles place.bundle ≡ o → FitsNext bundles place (next_in o (length bundles) place)
    of None e = none_beyond bundles place e
    of (Some b) e = next_in_bundle bundles place b e

before_or_same : (p q : Place) → (IsBefore p q → ⊥) → (IsBefore q p → ⊥) → p ≡ q
before_or_same p q h k =
    let bundle : p.bundle ≡ q.bundle = grind arith in
    let slot : p.slot ≡ q.slot = grind arith in
    same_place p q bundle slot

-- A next place is unique.
pub next_once : (bundles : List Bundle) (place p q : Place) → IsNext bundles place p → IsNext bundles place q → p ≡ q
next_once bundles place p q h k = before_or_same p q (k.first p h.is h.after) (h.first q k.is k.after)

both_fit : (bundles : List Bundle) (place : Place) (r s : Option Place) → FitsNext bundles place r → FitsNext bundles place s → r ≡ s
both_fit bundles place None None h k = refl
both_fit bundles place (Some p) (Some q) h k = ap Some (next_once bundles place p q h k)
both_fit bundles place None (Some q) h k = absurd (h q k.is k.after)
both_fit bundles place (Some p) None h k = absurd (k p h.is h.after)

-- What is the next place, or tells that there is none, is what the function gives.
pub next_same : (bundles : List Bundle) (place : Place) (r : Option Place)
    → MatchOption r ((q : Place) → IsPlaceOf bundles q → IsBefore place q → ⊥) (λ next. IsNext bundles place next)
    → r ≡ next_of bundles place
next_same bundles place r h = both_fit bundles place r (next_of bundles place) h (next_fits bundles place)
