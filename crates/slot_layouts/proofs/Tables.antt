-- Tests of all lists of instructions and of all template codes, by computation.
use Rattle.std.proofs.Common.{◌≡◌, ℕ, zero, suc, inl, inr, Bool, true, false, ◌&&◌, ◌||◌, not, List, [], ◌∷◌}
use Rattle.std.proofs.lemmas.Bool.{or_cases}
use Rattle.ia_program.proofs.Tests.{left, right}
use Rattle.slot_layouts.specs.declared.classes.SlotClass.{SlotClass}
use Rattle.slot_layouts.specs.declared.classes.SlotClass.TheVariants.{A, I, M, F, B, Loop, X}
use Rattle.slot_layouts.specs.declared.layout.Wanted.{Wanted}

abbrev pub wanted : SlotClass → Bool → Wanted
wanted class gap = record { class = class; gap = gap }

-- A test of each class, and of each Bool.
abbrev pub each_class : (SlotClass → Bool) → Bool
each_class p = (((((p A && p I) && p M) && p F) && p B) && p Loop) && p X

abbrev pub each_bool : (Bool → Bool) → Bool
each_bool p = p true && p false

pub at_class : (p : SlotClass → Bool) → each_class p ≡ true → (c : SlotClass) → p c ≡ true
at_class p h c = of c
  where
    upto_loop : (((((p A && p I) && p M) && p F) && p B) && p Loop) ≡ true
    upto_loop = left (((((p A && p I) && p M) && p F) && p B) && p Loop) (p X) h

    upto_b : ((((p A && p I) && p M) && p F) && p B) ≡ true
    upto_b = left ((((p A && p I) && p M) && p F) && p B) (p Loop) upto_loop

    upto_f : (((p A && p I) && p M) && p F) ≡ true
    upto_f = left (((p A && p I) && p M) && p F) (p B) upto_b

    upto_m : ((p A && p I) && p M) ≡ true
    upto_m = left ((p A && p I) && p M) (p F) upto_f

    upto_i : (p A && p I) ≡ true
    upto_i = left (p A && p I) (p M) upto_m

    of : (c : SlotClass) → p c ≡ true
    of A = left (p A) (p I) upto_i
    of I = right (p A) (p I) upto_i
    of M = right (p A && p I) (p M) upto_m
    of F = right ((p A && p I) && p M) (p F) upto_f
    of B = right (((p A && p I) && p M) && p F) (p B) upto_b
    of Loop = right ((((p A && p I) && p M) && p F) && p B) (p Loop) upto_loop
    of X = right (((((p A && p I) && p M) && p F) && p B) && p Loop) (p X) h

pub at_bool : (p : Bool → Bool) → each_bool p ≡ true → (b : Bool) → p b ≡ true
at_bool p h true = left (p true) (p false) h
at_bool p h false = right (p true) (p false) h

-- A test of each list of one, of two and of three, whose first gap is given.
abbrev pub each_one : (List Wanted → Bool) → Bool → Bool
each_one t g = each_class (λ a. t (wanted a g ∷ []))

abbrev pub each_two : (List Wanted → Bool) → Bool → Bool
each_two t g = each_class (λ a. each_class (λ b. each_bool (λ h. t (wanted a g ∷ wanted b h ∷ []))))

abbrev pub each_three : (List Wanted → Bool) → Bool → Bool
each_three t g =
    each_class (λ a. each_class (λ b. each_bool (λ h. each_class (λ c. each_bool (λ i. t (wanted a g ∷ wanted b h ∷ wanted c i ∷ []))))))

-- A test holds of each list of up to three.
pub record HoldsUpToThree (t : List Wanted → Bool) : Type 0 where
  pub none : t [] ≡ true
  pub one : (g : Bool) → each_one t g ≡ true
  pub two : (g : Bool) → each_two t g ≡ true
  pub three : (g : Bool) → each_three t g ≡ true

-- Where it holds of the longer ones too, it holds of each list.
pub for_every : (t : List Wanted → Bool) → HoldsUpToThree t → ((w x y z : Wanted) (ws : List Wanted) → t (w ∷ x ∷ y ∷ z ∷ ws) ≡ true)
    → (ws : List Wanted) → t ws ≡ true
for_every t holds more [] = holds.none
for_every t holds more (w ∷ []) = at_class (λ a. t (wanted a w.gap ∷ [])) (holds.one w.gap) w.class
for_every t holds more (w ∷ x ∷ []) =
    let list = λ (a b : SlotClass) (h : Bool). t (wanted a w.gap ∷ wanted b h ∷ []) in
    let at_a = at_class (λ a. each_class (λ b. each_bool (list a b))) (holds.two w.gap) w.class in
    let at_b = at_class (λ b. each_bool (list w.class b)) at_a x.class in
    at_bool (list w.class x.class) at_b x.gap
for_every t holds more (w ∷ x ∷ y ∷ []) =
    let list = λ (a b : SlotClass) (h : Bool) (c : SlotClass) (i : Bool). t (wanted a w.gap ∷ wanted b h ∷ wanted c i ∷ []) in
    let at_a = at_class (λ a. each_class (λ b. each_bool (λ h. each_class (λ c. each_bool (list a b h c))))) (holds.three w.gap) w.class in
    let at_b = at_class (λ b. each_bool (λ h. each_class (λ c. each_bool (list w.class b h c)))) at_a x.class in
    let at_h = at_bool (λ h. each_class (λ c. each_bool (list w.class x.class h c))) at_b x.gap in
    let at_c = at_class (λ c. each_bool (list w.class x.class x.gap c)) at_h y.class in
    at_bool (list w.class x.class x.gap y.class) at_c y.gap
for_every t holds more (w ∷ x ∷ y ∷ z ∷ ws) = more w x y z ws

-- A test of some number below a bound.
abbrev pub any_below : (ℕ → Bool) → ℕ → Bool
any_below p zero = false
any_below p (suc n) = p n || any_below p n

pub some_below : (p : ℕ → Bool) (n : ℕ) → any_below p n ≡ true → (k : ℕ) × (p k ≡ true)
some_below p zero h = absurd (cc)
some_below p (suc n) h =
    elim (or_cases (p n) (any_below p n) h) as (λ _. (k : ℕ) × (p k ≡ true)) [
      | inl here ↦ (n, here)
      | inr less ↦ some_below p n less
    ]

-- A premise and what it entails.
pub entailed : (a b : Bool) → (not a || b) ≡ true → a ≡ true → b ≡ true
entailed true b h k = h
entailed false b h k = absurd (cc)
