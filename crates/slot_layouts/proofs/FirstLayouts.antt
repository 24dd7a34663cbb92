-- The first layout of a list is a layout, and a list of more than three instructions has none.
use Rattle.std.proofs.Common.{arith, ◌≡◌, ◌≢◌, ℕ, zero, suc, ◌+◌, ◌/◌, ◌<◌, inl, inr, ◌↔◌, ltb, refl, sym, ◌∙◌, subst, ap, add-one, Bool, true, false, IsTrue, ◌&&◌, not, cond, ◌==◌, List, [], ◌∷◌, length, take, drop, filter, find, get_or, Contains, slice_get, Option, Some, None, IsSome, option_map, unwrap_or}
use Rattle.std.specs.Bool.{beq}
use Rattle.std.specs.Option.{option_or}
use Rattle.std.proofs.lemmas.Bool.{ltb-true, and_right}
use Rattle.ia_insn.specs.declared.choices.Unit.{Unit as ExecutionUnit}
use Rattle.ia_insn.specs.declared.choices.Unit.TheVariants.{M}
use Rattle.ia_insn.specs.declared.insn.Insn.{Insn}
use Rattle.ia_insn.specs.declared.insn.Op.TheVariants.{Nop}
use Rattle.ia_program.specs.declared.bundle.Slots.TheVariants.{Three}
use Rattle.ia_program.specs.Bundles.{Bundle}
use Rattle.ia_program.specs.Templates.{IsTemplate, Shape, shape_of, no_shape, units_of, stops_of}
use Rattle.ia_program.proofs.Tests.{left, right, last_or_below}
use Rattle.ia_meaning.specs.Landings.{is_one_of}
use Rattle.ia_meaning.specs.Sequence.{is_stopped}
use Rattle.ia_meaning.proofs.Sequences.{stop_same}
use Rattle.slot_layouts.specs.declared.layout.Wanted.{Wanted}
use Rattle.slot_layouts.specs.Layouts.{fits_slot, all_fit, are_rising, has_none_before, stops_are_wanted, has_stop_where, is_layout, rising_slots, least_slots, first_below, laid_out}

-- What is found passes the test.
pub found_passes : (p : List ℕ → Bool) (lists : List (List ℕ)) (ks : List ℕ) → find p lists ≡ Some ks → p ks ≡ true
found_passes p [] ks h = absurd (cc)
found_passes p (ls ∷ lists) ks h = of (p ls) refl h (found_passes p lists ks)
  where
    of : (b : Bool) → p ls ≡ b → cond b (Some ls) (find p lists) ≡ Some ks → (find p lists ≡ Some ks → p ks ≡ true) → p ks ≡ true
    of true is h later = let same : ls ≡ ks = cc in subst (λ l. p l ≡ true) same is
    of false is h later = later h

with_code : (ws : List Wanted) (end : Bool) (code : ℕ) (o : Option (List ℕ)) (l : ℕ × List ℕ) → least_slots code ws end ≡ o
    → option_map (λ ks. (code, ks)) o ≡ Some l → is_layout l.0 ws end l.1 ≡ true
with_code ws end code None l is h = absurd (cc)
with_code ws end code (Some ks) l is h =
    let same : (code, ks) ≡ l = cc in
    subst (λ l. is_layout l.0 ws end l.1 ≡ true) same (found_passes (is_layout code ws end) rising_slots ks is)

below_is_layout : (bound : ℕ) (ws : List Wanted) (end : Bool) (l : ℕ × List ℕ) → first_below bound ws end ≡ Some l
    → is_layout l.0 ws end l.1 ≡ true
unfolding first_below
below_is_layout zero ws end l h = absurd (cc)
below_is_layout (suc code) ws end l h = of (first_below code ws end) refl h (below_is_layout code ws end l)
  where
    of : (o : Option (ℕ × List ℕ)) → first_below code ws end ≡ o → option_or o (option_map (λ ks. (code, ks)) (least_slots code ws end))
        ≡ Some l
        → (first_below code ws end ≡ Some l → is_layout l.0 ws end l.1 ≡ true) → is_layout l.0 ws end l.1 ≡ true
    of None is h earlier = with_code ws end code (least_slots code ws end) l refl h
    of (Some first) is h earlier = earlier (cc)

-- What is laid out is a layout.
pub laid_out_is_layout : (ws : List Wanted) (end : Bool) (code : ℕ) (ks : List ℕ) → laid_out ws end ≡ Some (code, ks)
    → is_layout code ws end ks ≡ true
unfolding laid_out
laid_out_is_layout ws end code ks h = below_is_layout 32 ws end (code, ks) h

-- Not as many instructions as slots.
unlike : (units : List ExecutionUnit) (ws : List Wanted) (ks : List ℕ) → length ks ≢ length ws → all_fit units ws ks ≡ false
unlike units [] [] h = absurd (h refl)
unlike units [] (k ∷ ks) h = refl
unlike units (w ∷ ws) [] h = refl
unlike units (w ∷ ws) (k ∷ ks) h =
    and_right (fits_slot (slice_get units k) w.class k) (all_fit units ws ks) (unlike units ws ks (λ e. h (ap suc e)))

pub unlike_layout : (code : ℕ) (ws : List Wanted) (end : Bool) (ks : List ℕ) → length ks ≢ length ws → is_layout code ws end ks ≡ false
unlike_layout code ws end ks h = rw (unlike (units_of code) ws ks h) refl

pub differ : (a b end : Bool) → a ≡ b → not (beq a end) ≡ true → b ≢ end
differ true b true is other = λ e. cc
differ false b false is other = λ e. cc
differ true b false is other = λ e. cc
differ false b true is other = λ e. cc

-- Where the stop at the end of the template isn't as it is wanted, no list is a layout.
not_at_end : (stops : List ℕ) (ws : List Wanted) (ks : List ℕ) (end : Bool) → is_one_of 2 stops ≢ end
    → stops_are_wanted stops ws ks end ≡ false
not_at_end stops [] ks end other = refl
not_at_end stops (w ∷ []) [] end other = refl
not_at_end stops (w ∷ x ∷ ws) [] end other = refl
not_at_end stops (w ∷ []) (k ∷ ks) end other =
    and_right (has_stop_where stops k 2 false) (has_stop_where stops 2 3 end) (of (is_one_of 2 stops) end other)
  where
    of : (b end : Bool) → b ≢ end → (length {A = ℕ} (cond b (2 ∷ []) []) == cond end 1 0) ≡ false
    of true true other = absurd (other refl)
    of true false other = refl
    of false true other = refl
    of false false other = absurd (other refl)
not_at_end stops (w ∷ x ∷ ws) (k ∷ []) end other = refl
not_at_end stops (w ∷ x ∷ ws) (k ∷ l ∷ ks) end other =
    and_right (has_stop_where stops k l x.gap) (stops_are_wanted stops (x ∷ ws) (l ∷ ks) end) (not_at_end stops (x ∷ ws) (l ∷ ks) end other)

no_list : (p : List ℕ → Bool) (lists : List (List ℕ)) → ((ks : List ℕ) → p ks ≡ false) → find p lists ≡ None
no_list p [] h = refl
no_list p (ks ∷ lists) h = rw (h ks) (no_list p lists h)

pub none_at_end : (code : ℕ) (ws : List Wanted) (end : Bool) → is_one_of 2 (stops_of code) ≢ end → least_slots code ws end ≡ None
none_at_end code ws end other =
    no_list (is_layout code ws end) rising_slots
    (λ ks. and_right (all_fit (units_of code) ws ks) _ (and_right (are_rising ks) _
    (and_right (has_none_before (stops_of code) ks) _ (not_at_end (stops_of code) ws ks end other))))

abbrev are_short : List (List ℕ) → Bool
are_short [] = true
are_short (ks ∷ lists) = ltb (length ks) 4 && are_short lists

none_found : (p : List ℕ → Bool) (lists : List (List ℕ)) → ((ks : List ℕ) → length ks < 4 → p ks ≡ false) → are_short lists ≡ true
    → find p lists ≡ None
none_found p [] h short = refl
none_found p (ks ∷ lists) h short =
    let here : p ks ≡ false = h ks (ltb-true (length ks) 4 (left (ltb (length ks) 4) (are_short lists) short)) in
    rw here (none_found p lists h (right (ltb (length ks) 4) (are_short lists) short))

none_below : (bound : ℕ) (ws : List Wanted) (end : Bool) → ((code : ℕ) → least_slots code ws end ≡ None) → first_below bound ws end ≡ None
unfolding first_below
none_below zero ws end h = refl
none_below (suc code) ws end h = rw (none_below code ws end h, h code) refl

pub too_long : (w x y z : Wanted) (ws : List Wanted) (end : Bool) → laid_out (w ∷ x ∷ y ∷ z ∷ ws) end ≡ None
unfolding laid_out
too_long w x y z ws end =
    none_below 32 (w ∷ x ∷ y ∷ z ∷ ws) end
    (λ code. none_found (is_layout code (w ∷ x ∷ y ∷ z ∷ ws) end) rising_slots
    (λ ks short. unlike_layout code (w ∷ x ∷ y ∷ z ∷ ws) end ks (λ e. omega (arith, e, short))) refl)

-- The test of the stops of a template.
pub stop_is_one_of : (code slot : ℕ) (b : Bool) → IsTrue b ↔ Contains (stops_of code) slot → b ≡ is_one_of slot (stops_of code)
unfolding is_stopped
stop_is_one_of code slot b h =
    let nop : Insn = record { qp = 0; op = Nop M 0 } in
    let bundle : Bundle = record { template = code; slots = Three nop nop nop } in
    stop_same (bundle ∷ []) (record { bundle = 0; slot = slot }) b h

-- One slot more is counted, or none.
pub one_more : (p : ℕ → Bool) (slot : ℕ) → slot < 3 → p slot ≡ true
    → length (filter p (take slot (0 ∷ 1 ∷ 2 ∷ []))) + 1 ≡ length (filter p (take (slot + 1) (0 ∷ 1 ∷ 2 ∷ [])))
one_more p zero less is = rw is refl
one_more p (suc zero) less is = rw is (of (p 0))
  where
    of : (a : Bool) → length {A = ℕ} (cond a (0 ∷ []) []) + 1 ≡ length {A = ℕ} (cond a (0 ∷ 1 ∷ []) (1 ∷ []))
    of true = refl
    of false = refl
one_more p (suc (suc zero)) less is = rw is (of (p 0) (p 1))
  where
    of : (a b : Bool) → length {A = ℕ} (cond a (0 ∷ cond b (1 ∷ []) []) (cond b (1 ∷ []) [])) + 1 ≡ length {A = ℕ}
        (cond a (0 ∷ cond b (1 ∷ 2 ∷ []) (2 ∷ [])) (cond b (1 ∷ 2 ∷ []) (2 ∷ [])))
    of true true = refl
    of true false = refl
    of false true = refl
    of false false = refl
one_more p (suc (suc (suc slot))) less is = absurd (omega arith)

pub no_more : (p : ℕ → Bool) (slot : ℕ) → slot < 3 → p slot ≡ false
    → length (filter p (take slot (0 ∷ 1 ∷ 2 ∷ []))) ≡ length (filter p (take (slot + 1) (0 ∷ 1 ∷ 2 ∷ [])))
no_more p zero less is = rw is refl
no_more p (suc zero) less is = rw is refl
no_more p (suc (suc zero)) less is = rw is refl
no_more p (suc (suc (suc slot))) less is = absurd (omega arith)

-- A list that fails the test is passed by.
passed_by : (p : List ℕ → Bool) (lists : List (List ℕ)) (n : ℕ) → false ≡ p (get_or lists n [])
    → find p (drop (suc n) lists) ≡ find p (drop n lists)
passed_by p [] zero fails = refl
passed_by p [] (suc n) fails = refl
passed_by p (l ∷ lists) zero fails = rw (sym fails) refl
passed_by p (l ∷ lists) (suc n) fails = passed_by p lists n fails

pub passed : (p : List ℕ → Bool) (n : ℕ) (ks : List ℕ) → false ≡ p ks → ks ≡ get_or rising_slots n []
    → find p (drop (n + 1) rising_slots) ≡ find p (drop n rising_slots)
passed p n ks fails is = rw (add-one n) (passed_by p rising_slots n (subst (λ l. false ≡ p l) is fails))

-- The loop over the codes.
else_found : {T : Type 0} (a b : Option T) (x : T) → a ≡ None → b ≡ Some x → option_or a b ≡ Some x
else_found None b x h k = k
else_found (Some y) b x h k = absurd (cc)

first_found : {T : Type 0} (a b : Option T) (x : T) → a ≡ Some x → option_or a b ≡ Some x
first_found None b x h = absurd (cc)
first_found (Some y) b x h = h

neither : {T : Type 0} (a b : Option T) → a ≡ None → b ≡ None → option_or a b ≡ None
neither None b h k = k
neither (Some x) b h k = h

found_below : (bound code : ℕ) (ws : List Wanted) (end : Bool) (ks : List ℕ) → code < bound → first_below code ws end ≡ None
    → least_slots code ws end ≡ Some ks → first_below bound ws end ≡ Some (code, ks)
unfolding first_below
found_below zero code ws end ks less none here = absurd (omega arith)
found_below (suc bound) code ws end ks less none here =
    elim (last_or_below code bound less) as (λ _. first_below (suc bound) ws end ≡ Some (code, ks)) [
      | inl is ↦ else_found (first_below bound ws end) _ (code, ks) (subst (λ m. first_below m ws end ≡ None) is none)
          (ap (option_map (λ ks. (bound, ks))) (subst (λ m. least_slots m ws end ≡ Some ks) is here)
          ∙ ap (λ (m : ℕ). Some (m, ks)) (sym is))
      | inr lower ↦ first_found (first_below bound ws end) _ (code, ks) (found_below bound code ws end ks lower none here)
    ]

pub found_out : (t code : ℕ) (ws : List Wanted) (end : Bool) (ks : List ℕ) → t ≡ code → code < 32 → first_below code ws end ≡ None
    → Some ks ≡ least_slots t ws end → Some (t, ks) ≡ laid_out ws end
unfolding laid_out
found_out t code ws end ks is less none here =
    ap (λ (m : ℕ). Some (m, ks)) is ∙ sym (found_below 32 code ws end ks less none
    (subst (λ m. least_slots m ws end ≡ Some ks) is (sym here)))

pub none_out : (ws : List Wanted) (end : Bool) → first_below 32 ws end ≡ None → laid_out ws end ≡ None
unfolding laid_out
none_out ws end h = h

pub none_below_0 : (ws : List Wanted) (end : Bool) → first_below 0 ws end ≡ None
unfolding first_below
none_below_0 ws end = refl

pub still_none : (code : ℕ) (ws : List Wanted) (end : Bool) → first_below code ws end ≡ None → least_slots code ws end ≡ None
    → first_below (code + 1) ws end ≡ None
unfolding first_below
still_none code ws end none here =
    rw (add-one code) (neither (first_below code ws end) _ none (ap (option_map (λ ks. (code, ks))) here))

none_fit : (stops : List ℕ) (ws : List Wanted) (ks : List ℕ) → all_fit [] ws ks ≡ true → has_none_before stops ks ≡ true → ⊥
none_fit stops [] [] fit before = absurd (cc)
none_fit stops [] (k ∷ ks) fit before = absurd (cc)
none_fit stops (w ∷ ws) [] fit before = absurd (cc)
none_fit stops (w ∷ ws) (k ∷ ks) fit before = absurd (cc)

-- A code with a layout is that of a template.
pub is_template : (code : ℕ) (ws : List Wanted) (end : Bool) (ks : List ℕ) → is_layout code ws end ks ≡ true → IsTemplate code
is_template code ws end ks layout =
    of (shape_of (code / 2)) (left _ _ layout) (left _ _ (right (are_rising ks) _ (right (all_fit (units_of code) ws ks) _ layout)))
  where
    of : (o : Option Shape) → all_fit (unwrap_or o no_shape).units ws ks ≡ true → has_none_before (stops_of code) ks ≡ true → IsSome o
    of None fit before = absurd (none_fit (stops_of code) ws ks fit before)
    of (Some shape) fit before = refl

pub none_reserved : (code : ℕ) (ws : List Wanted) (end : Bool) → (IsTemplate code → ⊥) → least_slots code ws end ≡ None
none_reserved code ws end reserved =
    none_of (least_slots code ws end) refl
  where
    none_of : (o : Option (List ℕ)) → least_slots code ws end ≡ o → o ≡ None
    none_of None is = refl
    none_of (Some ks) is = absurd (reserved (is_template code ws end ks (found_passes (is_layout code ws end) rising_slots ks is)))
