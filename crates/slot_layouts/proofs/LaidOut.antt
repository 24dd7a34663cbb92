-- The laws of the lists that are laid out, from what is computed of all lists.
use Rattle.std.proofs.Common.{arith, ◌≡◌, ℕ, zero, suc, ◌+◌, ◌<◌, ◌≤◌, ◌⊎◌, inl, inr, refl, sym, ◌∙◌, ap, subst, add-one, Bool, true, false, not, ◌&&◌, ◌||◌, ◌==◌, nat_le, nat_lt, List, [], ◌∷◌, length, Some, IsSome, slice_get}
use Rattle.std.specs.Prelude.{◌≢◌, option_map}
use Rattle.std.specs.Cmp.Derive.{both_true}
use Rattle.std.proofs.lemmas.Bool.{eqb-true, leb-true, le-leb, ltb-true, not-true}
use Rattle.std.proofs.lemmas.Option.{same_Some}
use Rattle.ia_insn.specs.declared.insn.Insn.{Insn}
use Rattle.ia_program.specs.Templates.{units_of}
use Rattle.ia_program.specs.Bundles.{slot_insn, last_slot}
use Rattle.ia_program.proofs.InOrder.{slot_within}
use Rattle.ia_program.proofs.Tests.{left, right, below}
use Rattle.slot_layouts.specs.declared.classes.SlotClass.TheVariants.{A, M, B}
use Rattle.slot_layouts.specs.declared.layout.Wanted.{Wanted}
use Rattle.slot_layouts.specs.Layouts.{are_rising, laid_out}
use Rattle.slot_layouts.specs.Filled.{nop_of, filled}
use Rattle.slot_layouts.specs.Laws.{HoldsInOrder, has_stop, HasNoStop, HasOneStop, HasStopWhere, HasStopsAsWanted}
use Rattle.slot_layouts.proofs.Tables.{some_below, entailed}
use Rattle.slot_layouts.proofs.Facts.{is_m, is_m_or_a, is_b, blank, last_place, is_no_stop, no_stop_in, is_only_stop, one_stop_in, stop_in_where, stop_right_before, is_as, each_pair, at_last, at_first, each_slot, pair_holds, last_holds, first_holds, AreFacts, facts_at}
use Rattle.slot_layouts.proofs.Fillings.{has_stop-filled, last_slot-filled, IsPut, put_at, rising_pair, rest_rises, content-listed, content-other}

-- A test holds of the neighbours at n and n + 1.
pub record IsPairAt (p : Wanted → Wanted → ℕ → ℕ → Bool) (ws : List Wanted) (ks : List ℕ) (n : ℕ) (x : Wanted) (l : ℕ) : Type 0 where
  pub w : Wanted
  pub k : ℕ
  pub wanted : slice_get ws n ≡ Some w
  pub slot : slice_get ks n ≡ Some k
  pub holds : p w x k l ≡ true

pair_at : (p : Wanted → Wanted → ℕ → ℕ → Bool) (ws : List Wanted) (ks : List ℕ) (n : ℕ) (x : Wanted) (l : ℕ) → each_pair p ws ks ≡ true
    → slice_get ws (suc n) ≡ Some x → slice_get ks (suc n) ≡ Some l → IsPairAt p ws ks n x l
pair_at p [] ks n x l all at there = absurd (cc)
pair_at p (w ∷ []) ks n x l all at there = absurd (cc)
pair_at p (w ∷ y ∷ ws) [] n x l all at there = absurd (cc)
pair_at p (w ∷ y ∷ ws) (k ∷ []) n x l all at there = absurd (cc)
pair_at p (w ∷ y ∷ ws) (k ∷ m ∷ ks) zero x l all at there =
    let e : y ≡ x = same_Some y x at in
    let f : m ≡ l = same_Some m l there in
    record {
      w = w;
      k = k;
      wanted = refl;
      slot = refl;
      holds = subst (λ m. p w x k m ≡ true) f (subst (λ y. p w y k m ≡ true) e (left (p w y k m) _ all));
    }
pair_at p (w ∷ y ∷ ws) (k ∷ m ∷ ks) (suc n) x l all at there =
    let rest = pair_at p (y ∷ ws) (m ∷ ks) n x l (right (p w y k m) _ all) at there in
    record { w = rest.w; k = rest.k; wanted = rest.wanted; slot = rest.slot; holds = rest.holds }

-- A test holds of an instruction and its slot.
pub record IsOneAt (p : Wanted → ℕ → Bool) (ws : List Wanted) (n k : ℕ) : Type 0 where
  pub w : Wanted
  pub wanted : slice_get ws n ≡ Some w
  pub holds : p w k ≡ true

last_at : (p : Wanted → ℕ → Bool) (ws : List Wanted) (ks : List ℕ) (n k : ℕ) → at_last p ws ks ≡ true → length ks ≡ length ws
    → slice_get ks n ≡ Some k → n + 1 ≡ length ks → IsOneAt p ws n k
last_at p ws [] n k all count at end = absurd (cc)
last_at p [] (l ∷ ks) n k all count at end = absurd (omega arith)
last_at p (w ∷ []) (l ∷ []) zero k all count at end =
    record { w = w; wanted = refl; holds = subst (λ k. p w k ≡ true) (same_Some l k at) all }
last_at p (w ∷ []) (l ∷ []) (suc n) k all count at end = absurd (omega arith)
last_at p (w ∷ []) (l ∷ m ∷ ks) n k all count at end = absurd (omega arith)
last_at p (w ∷ x ∷ ws) (l ∷ []) n k all count at end = absurd (omega arith)
last_at p (w ∷ x ∷ ws) (l ∷ m ∷ ks) zero k all count at end = absurd (omega arith)
last_at p (w ∷ x ∷ ws) (l ∷ m ∷ ks) (suc n) k all count at end =
    let rest = last_at p (x ∷ ws) (m ∷ ks) n k all (omega arith) at (omega arith) in
    record { w = rest.w; wanted = rest.wanted; holds = rest.holds }

first_at : (p : Wanted → ℕ → Bool) (ws : List Wanted) (ks : List ℕ) (k : ℕ) → at_first p ws ks ≡ true → length ks ≡ length ws
    → slice_get ks 0 ≡ Some k → IsOneAt p ws 0 k
first_at p ws [] k all count at = absurd (cc)
first_at p [] (l ∷ ks) k all count at = absurd (omega arith)
first_at p (w ∷ ws) (l ∷ ks) k all count at =
    record { w = w; wanted = refl; holds = subst (λ k. p w k ≡ true) (same_Some l k at) all }

slot_at : (p : ℕ → Bool) (ks : List ℕ) (n k : ℕ) → each_slot p ks ≡ true → slice_get ks n ≡ Some k → p k ≡ true
slot_at p [] n k all at = absurd (cc)
slot_at p (l ∷ ks) zero k all at = subst (λ k. p k ≡ true) (same_Some l k at) (left (p l) _ all)
slot_at p (l ∷ ks) (suc n) k all at = slot_at p ks n k (right (p l) _ all) at

rising_at : (ks : List ℕ) (n k l : ℕ) → are_rising ks ≡ true → slice_get ks n ≡ Some k → slice_get ks (suc n) ≡ Some l → k < l
rising_at [] n k l rising at there = absurd (cc)
rising_at (j ∷ []) n k l rising at there = absurd (cc)
rising_at (j ∷ m ∷ ks) zero k l rising at there =
    let less = (rising_pair j m ks rising).0 in
    let e : j ≡ k = same_Some j k at in
    let f : m ≡ l = same_Some m l there in
    omega arith
rising_at (j ∷ m ∷ ks) (suc n) k l rising at there = rising_at (m ∷ ks) n k l (rest_rises j (m ∷ ks) rising) at there

after : {T : Type 0} (xs : List T) (n : ℕ) (x : T) → slice_get xs (n + 1) ≡ Some x → slice_get xs (suc n) ≡ Some x
after xs n x h = subst (λ m. slice_get xs m ≡ Some x) (add-one n) h

-- The bundle holds the instructions in their order.
inside_at : (code : ℕ) (ks : List ℕ) (is : List Insn) (n k : ℕ) → each_slot (λ k. nat_le k (last_place code)) ks ≡ true
    → slice_get ks n ≡ Some k → k ≤ last_place code
inside_at code ks is n k all at = leb-true k (last_place code) (slot_at (λ k. nat_le k (last_place code)) ks n k all at)

pub holds_in_order : (ws : List Wanted) (end : Bool) (code : ℕ) (ks : List ℕ) (is : List Insn) → laid_out ws end ≡ Some (code, ks)
    → HoldsInOrder ws code ks is
holds_in_order ws end code ks is laid = record {
  count = eqb-true (length ks) (length ws) known.count;
  rising = λ n k l at there. rising_at ks n k l known.rising at (after ks n l there);
  places = λ n k at. let put = put_in n k at in rw put.here refl;
  holds =
      λ n k i at there. let put = put_in n k at in put.here ∙ ap (λ (i : Insn). Some i)
      (content-listed put.unit n k i ks is known.rising at there);
  nops = nop_at;
}
  where
    known : AreFacts ws end code ks
    known = facts_at ws end code ks laid

    put_in : (n k : ℕ) → slice_get ks n ≡ Some k → IsPut (units_of code) ks is k
    put_in n k at = put_at (units_of code) ks is k known.shape (inside_at code ks is n k known.inside at)

    nop_at : (slot : ℕ) (i : Insn) → slot_insn (filled code ks is).slots slot ≡ Some i → ((n : ℕ) → slice_get ks n ≢ Some slot)
        → option_map nop_of (slice_get (units_of code) slot) ≡ Some i
    nop_at slot i at none =
        let inside : slot ≤ last_slot (filled code ks is).slots = slot_within (filled code ks is).slots slot (subst IsSome (sym at) refl) in
        let last : last_slot (filled code ks is).slots ≡ last_place code = last_slot-filled code ks is in
        let put : IsPut (units_of code) ks is slot = put_at (units_of code) ks is slot known.shape (subst (λ m. slot ≤ m) last inside) in
        ap (option_map nop_of) put.at ∙ ap (λ (i : Insn). Some i) (sym (content-other put.unit slot ks is none)) ∙ sym put.here ∙ at

-- The stops are those that are wanted.
not_both : (a b : Bool) → not (a && b) ≡ true → a ≡ true → b ≡ false
not_both true true h is = absurd (cc)
not_both true false h is = refl
not_both false b h is = absurd (cc)

no_stop : (code from before : ℕ) (ks : List ℕ) (is : List Insn) → no_stop_in code from before ≡ true
    → HasNoStop (filled code ks is) from before
no_stop code from before ks is none slot above less =
    has_stop-filled code slot ks is
    ∙ not_both (nat_le from slot) (has_stop (blank code) slot) (below (is_no_stop code from) before slot none less) (le-leb from slot above)

one_stop : (code from before : ℕ) (ks : List ℕ) (is : List Insn) → one_stop_in code from before ≡ true
    → HasOneStop (filled code ks is) from before
one_stop code from before ks is one =
    let found = some_below (is_only_stop code from before) before one in
    let slot = found.0 in
    let within = left (nat_le from slot && nat_lt slot before) _ found.1 in
    let here = right (nat_le from slot && nat_lt slot before) _ found.1 in
    record {
      slot = slot;
      above = leb-true from slot (left (nat_le from slot) _ within);
      below = ltb-true slot before (right (nat_le from slot) _ within);
      here = has_stop-filled code slot ks is ∙ left (has_stop (blank code) slot) _ here;
      only = λ other above less stop. eqb-true other slot
          (entailed (nat_le from other && has_stop (blank code) other) (other == slot)
          (below (λ other. not (nat_le from other && has_stop (blank code) other) || (other == slot)) before other
          (right (has_stop (blank code) slot) _ here) less)
          (both_true (le-leb from other above) (sym (has_stop-filled code other ks is) ∙ stop)));
    }

stop_where : (gap : Bool) (code from before : ℕ) (ks : List ℕ) (is : List Insn) → stop_in_where gap code from before ≡ true
    → HasStopWhere gap (filled code ks is) from before
stop_where true code from before ks is h = one_stop code from before ks is h
stop_where false code from before ks is h = no_stop code from before ks is h

as_wanted : (wanted b : Bool) → is_as wanted b ≡ true → b ≡ wanted
as_wanted true b h = h
as_wanted false true h = absurd (cc)
as_wanted false false h = refl

pub has_stops_as_wanted : (ws : List Wanted) (end : Bool) (code : ℕ) (ks : List ℕ) (is : List Insn) → laid_out ws end ≡ Some (code, ks)
    → HasStopsAsWanted ws end ks (filled code ks is)
has_stops_as_wanted ws end code ks is laid = record {
  between = between;
  before = λ k at. no_stop code 0 k ks is (left _ _ (first_at (first_holds code) ws ks k known.first count at).holds);
  behind = behind;
  last =
      ap (has_stop (filled code ks is)) (last_slot-filled code ks is) ∙ has_stop-filled code (last_place code) ks is
      ∙ as_wanted end (has_stop (blank code) (last_place code)) known.stop;
}
  where
    known : AreFacts ws end code ks
    known = facts_at ws end code ks laid

    count : length ks ≡ length ws
    count = eqb-true (length ks) (length ws) known.count

    between : (n k l : ℕ) (x : Wanted) → slice_get ks n ≡ Some k → slice_get ks (n + 1) ≡ Some l → slice_get ws (n + 1) ≡ Some x
        → HasStopWhere x.gap (filled code ks is) k l
    between n k l x at next wanted =
        let pair = pair_at (pair_holds code) ws ks n x l known.pairs (after ws n x wanted) (after ks n l next) in
        let same : pair.k ≡ k = same_Some pair.k k (sym pair.slot ∙ at) in
        stop_where x.gap code k l ks is (subst (λ k. stop_in_where x.gap code k l ≡ true) same (left _ _ pair.holds))

    behind : (n k : ℕ) → slice_get ks n ≡ Some k → n + 1 ≡ length ks → HasNoStop (filled code ks is) k (last_slot (filled code ks is).slots)
    behind n k at end =
        let one = last_at (last_holds code) ws ks n k known.last count at end in
        subst (λ m. HasNoStop (filled code ks is) k m) (sym (last_slot-filled code ks is))
        (no_stop code k (last_place code) ks is (left _ _ one.holds))

-- What stands beside.
m_or_a : (w : Wanted) → (w.class ≡ M) ⊎ (w.class ≡ A) → is_m_or_a w.class ≡ true
m_or_a w (inl is) = ap is_m_or_a is
m_or_a w (inr is) = ap is_m_or_a is

pub first_in_slot_0 : (w : Wanted) (ws : List Wanted) (end : Bool) (code : ℕ) (ks : List ℕ) → laid_out (w ∷ ws) end ≡ Some (code, ks)
    → (w.class ≡ M) ⊎ (w.class ≡ A) → slice_get ks 0 ≡ Some 0
first_in_slot_0 w ws end code ks laid is = of ks known.first count
  where
    known : AreFacts (w ∷ ws) end code ks
    known = facts_at (w ∷ ws) end code ks laid

    count : length ks ≡ length (w ∷ ws)
    count = eqb-true (length ks) (length (w ∷ ws)) known.count

    of : (ks : List ℕ) → at_first (first_holds code) (w ∷ ws) ks ≡ true → length ks ≡ length (w ∷ ws) → slice_get ks 0 ≡ Some 0
    of [] first few = absurd (omega arith)
    of (k ∷ ks) first few =
        ap (λ (k : ℕ). Some k) (eqb-true k 0 (entailed (is_m_or_a w.class) (k == 0) (right (no_stop_in code 0 k) _ first) (m_or_a w is)))

right_before : (code l : ℕ) (ks : List ℕ) (is : List Insn) → stop_right_before code l ≡ true
    → (before : ℕ) × (before + 1 ≡ l) × (has_stop (filled code ks is) before ≡ true)
right_before code zero ks is h = absurd (cc)
right_before code (suc slot) ks is h = (slot, add-one slot, has_stop-filled code slot ks is ∙ h)

pub stop_right_before_m : (ws : List Wanted) (end : Bool) (code : ℕ) (ks : List ℕ) (is : List Insn) (n l : ℕ) (x : Wanted)
    → laid_out ws end ≡ Some (code, ks)
    → slice_get ws (n + 1) ≡ Some x → x.class ≡ M → x.gap ≡ true → slice_get ks (n + 1) ≡ Some l
    → (before : ℕ) × (before + 1 ≡ l) × (has_stop (filled code ks is) before ≡ true)
stop_right_before_m ws end code ks is n l x laid at m gap there =
    let known = facts_at ws end code ks laid in
    let pair = pair_at (pair_holds code) ws ks n x l known.pairs (after ws n x at) (after ks n l there) in
    let rule = left (not (is_m x.class && x.gap) || stop_right_before code l) _ (right (stop_in_where x.gap code pair.k l) _ pair.holds) in
    right_before code l ks is (entailed (is_m x.class && x.gap) (stop_right_before code l) rule (both_true (ap is_m m) gap))

pub last_b_last : (ws : List Wanted) (end : Bool) (code : ℕ) (ks : List ℕ) (is : List Insn) (n k : ℕ) (w : Wanted)
    → laid_out ws end ≡ Some (code, ks)
    → slice_get ws n ≡ Some w → w.class ≡ B → n + 1 ≡ length ws → slice_get ks n ≡ Some k → k ≡ last_slot (filled code ks is).slots
last_b_last ws end code ks is n k w laid at b last there =
    let known = facts_at ws end code ks laid in
    let count = eqb-true (length ks) (length ws) known.count in
    let one = last_at (last_holds code) ws ks n k known.last count there (last ∙ sym count) in
    let same : w ≡ one.w = same_Some w one.w (sym at ∙ one.wanted) in
    let rule = right (no_stop_in code k (last_place code)) _ one.holds in
    eqb-true k (last_place code) (entailed (is_b one.w.class) (k == last_place code) rule
    (subst (λ w. is_b w.class ≡ true) same (ap is_b b)))
    ∙ sym (last_slot-filled code ks is)

pub next_right_behind_b : (ws : List Wanted) (end : Bool) (code : ℕ) (ks : List ℕ) (n k l : ℕ) (w x : Wanted)
    → laid_out ws end ≡ Some (code, ks)
    → slice_get ws n ≡ Some w → w.class ≡ B → slice_get ws (n + 1) ≡ Some x → slice_get ks n ≡ Some k → slice_get ks (n + 1) ≡ Some l
    → (l ≡ k + 1) × (x.gap ≡ false)
next_right_behind_b ws end code ks n k l w x laid at b next there beyond =
    let known = facts_at ws end code ks laid in
    let pair = pair_at (pair_holds code) ws ks n x l known.pairs (after ws n x next) (after ks n l beyond) in
    let same : w ≡ pair.w = same_Some w pair.w (sym at ∙ pair.wanted) in
    let slot : pair.k ≡ k = same_Some pair.k k (sym pair.slot ∙ there) in
    let rule = right (not (is_m x.class && x.gap) || stop_right_before code l) _ (right (stop_in_where x.gap code pair.k l) _ pair.holds) in
    let both = entailed (is_b pair.w.class) ((l == pair.k + 1) && not x.gap) rule (subst (λ w. is_b w.class ≡ true) same (ap is_b b)) in
    (eqb-true l (pair.k + 1) (left (l == pair.k + 1) _ both) ∙ ap (λ (k : ℕ). k + 1) slot, not-true x.gap (right (l == pair.k + 1) _ both))
