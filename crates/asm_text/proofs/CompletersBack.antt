-- A completer that an instruction is printed with is of its set, and says again what is so.
use Rattle.std.proofs.Common.{◌≡◌, refl, sym, subst, ◌∙◌, ap, inl, inr, ◌⊎◌, ℕ, zero, suc, ◌^◌, ◌<◌, ◌≤◌, Bool, true, false, not, ◌&&◌, cond, eqb, List, [], ◌∷◌, map, Option, Some, None, is_some, arith}
use Rattle.std.specs.Prelude.{filter, nat_le, unwrap_or}
use Rattle.std.specs.List.{Contains, find, list_all}
use Rattle.std.proofs.lemmas.Bool.{eqb-true, le-leb, and_from, not-true}
use Rattle.ia_program.proofs.Tests.{left, right}
use Rattle.ia_insn.specs.Ranges.{IsAccessSize}
use Rattle.insn_rows.specs.declared.opcode.Opcode.{Opcode}
use Rattle.insn_rows.specs.declared.row.Coding.{Coding}
use Rattle.insn_rows.specs.declared.row.Coding.TheVariants as c
use Rattle.insn_rows.specs.declared.value.Value.{Value}
use Rattle.insn_rows.specs.declared.value.Value.TheVariants as v
use Rattle.insn_rows.specs.Codings.{Takes}
use Rattle.asm_forms.specs.declared.completer.Completer.{Completer}
use Rattle.asm_forms.specs.declared.completer.CompleterSet.{CompleterSet}
use Rattle.asm_forms.specs.declared.completer.Said.{Said}
use Rattle.asm_forms.specs.declared.completer.Said.TheVariants as said
use Rattle.asm_forms.specs.Completers.{members}
use Rattle.asm_forms.proofs.ReadChoice.{IsOneOf, one_mapped}
use Rattle.asm_instructions.specs.Instructions.{completed}
use Rattle.asm_instructions.specs.Operands.{said_value}
use Rattle.asm_reading.specs.Lines.{is_missing}
use Rattle.asm_canonical.specs.Canonical.{is_said, completer_of}
use Rattle.insn_rows.specs.WellMade.{is_of_kind}
use Rattle.asm_text.proofs.OperandsBack.{is_shaped, resting}

-- What is said is a value.
abbrev pub is_value : Said → Bool
is_value (said.Flag b) = true
is_value (said.Small n) = true
is_value (said.Mask n) = true
is_value _ = false

-- A completer that says a value says the one of which it is said.
pub said_is : (s : Said) (x : Opcode) (value : Value) → is_value s ≡ true → is_said s x value ≡ true → said_value s ≡ value
said_is (said.Flag true) x (v.Flag true) h e = refl
said_is (said.Flag false) x (v.Flag false) h e = refl
said_is (said.Flag a) x (v.Flag b) h e = cc
said_is (said.Small n) x (v.Small m) h e = ap v.Small (eqb-true n m e)
said_is (said.Mask n) x (v.Mask m) h e = ap v.Mask (eqb-true n m e)
said_is s x value h e = cc

no_value : (s : Said) → is_value s ≡ false → said_value s ≡ v.Absent
no_value (said.Flag b) h = cc
no_value (said.Small n) h = cc
no_value (said.Mask n) h = cc
no_value s h = refl

pub value_rests : (s : Said) → resting (said_value s) ≡ said_value s
value_rests (said.Flag b) = refl
value_rests (said.Small n) = refl
value_rests (said.Mask n) = refl
value_rests s = refl

-- A completer that says a value says nothing of an opcode or a unit.
value_leaves : (s : Said) (x : Opcode) → is_value s ≡ true → completed s x ≡ Some x
value_leaves (said.Flag b) x h = refl
value_leaves (said.Small n) x h = refl
value_leaves (said.Mask n) x h = refl
value_leaves s x h = cc

value_is_there : (s : Said) → is_value s ≡ true → is_missing s ≡ false
value_is_there said.NoUnit h = cc
value_is_there s h = refl

-- What is found is an element that passes.
found_passes : {A : Type 0} (p : A → Bool) (xs : List A) (x : A) → find p xs ≡ Some x → p x ≡ true
found_passes p [] x e = cc
found_passes p (y ∷ ys) x e =
    elim (p y) as (λ b. (b ≡ p y) → cond b (Some y) (find p ys) ≡ Some x → p x ≡ true) [
      | true ↦ λ q k. cc
      | false ↦ λ q k. found_passes p ys x k
    ] refl e

found_is_in : {A : Type 0} (p : A → Bool) (xs : List A) (x : A) → find p xs ≡ Some x → Contains xs x
found_is_in p [] x e = cc
found_is_in p (y ∷ ys) x e =
    elim (p y) as (λ b. cond b (Some y) (find p ys) ≡ Some x → Contains (y ∷ ys) x) [
      | true ↦ λ k. (0, omega arith, cc)
      | false ↦ λ k. let r = found_is_in p ys x k in (suc r.0, omega (arith, r.1), r.2)
    ] e

some_is : {A : Type 0} (o : Option A) (d : A) → is_some o ≡ true → o ≡ Some (unwrap_or o d)
some_is None d h = cc
some_is (Some x) d h = refl

-- The numbers below a limit.
abbrev pub below : ℕ → List ℕ
below zero = []
below (suc n) = n ∷ below n

is_below : (n k : ℕ) → n < k → IsOneOf n (below k)
is_below n zero h = absurd (omega (arith, h))
is_below n (suc k) h = elim (eqb n k) as (λ b. (b ≡ eqb n k) → (n ≡ k) ⊎ IsOneOf n (below k)) [
  | true ↦ λ e. inl (eqb-true n k (sym e))
  | false ↦ λ e. inr (is_below n k (grind (arith, h, e)))
] refl

-- The values of a coding that has few.
abbrev pub is_few : Coding → ℕ → Bool
is_few c.Flag width = true
is_few c.Small width = nat_le width 2
is_few (c.UpTo most) width = true
is_few c.LoadHint width = true
is_few c.StoreHint width = true
is_few (c.Size least most) width = true
is_few coding width = false

abbrev pub every : Coding → ℕ → List Value
every c.Flag width = v.Flag false ∷ v.Flag true ∷ []
every c.Small width = map v.Small (below (2 ^ width))
every (c.UpTo most) width = map v.Small (below (suc most))
every c.LoadHint width = map v.Small (0 ∷ 1 ∷ 3 ∷ [])
every c.StoreHint width = map v.Small (0 ∷ 3 ∷ [])
every (c.Size least most) width = map v.Small (filter (λ n. nat_le least n && nat_le n most) (1 ∷ 2 ∷ 4 ∷ 8 ∷ []))
every coding width = []

kept : (p : ℕ → Bool) (n : ℕ) (ns : List ℕ) → IsOneOf n ns → p n ≡ true → IsOneOf n (filter p ns)
kept p n [] h e = absurd h
kept p n (m ∷ ms) (inl s) e = rw (sym s, e) (inl refl)
kept p n (m ∷ ms) (inr h) e =
    elim (p m) as (λ b. IsOneOf n (cond b (m ∷ filter p ms) (filter p ms))) [ true ↦ inr (kept p n ms h e) | false ↦ kept p n ms h e ]

load_hint : (n : ℕ) → n ≤ 3 → (n ≡ 2 → ⊥) → IsOneOf n (0 ∷ 1 ∷ 3 ∷ [])
load_hint zero h d = inl refl
load_hint (suc zero) h d = inr (inl refl)
load_hint (suc (suc zero)) h d = absurd (d refl)
load_hint (suc (suc (suc zero))) h d = inr (inr (inl refl))
load_hint (suc (suc (suc (suc n)))) h d = absurd (omega (arith, h))

size_one : (n : ℕ) → IsAccessSize n → IsOneOf n (1 ∷ 2 ∷ 4 ∷ 8 ∷ [])
size_one n (inl e) = inl e
size_one n (inr (inl e)) = inr (inl e)
size_one n (inr (inr (inl e))) = inr (inr (inl e))
size_one n (inr (inr (inr e))) = inr (inr (inr (inl e)))

few_of : (coding : Coding) (width : ℕ) (value : Value) → is_few coding width ≡ true → is_of_kind coding value ≡ true
    → Takes coding width value → IsOneOf value (every coding width)
few_of c.Flag width (v.Flag false) h is t = inl refl
few_of c.Flag width (v.Flag true) h is t = inr (inl refl)
few_of c.Small width (v.Small n) h is t = one_mapped v.Small n (below (2 ^ width)) (is_below n (2 ^ width) t)
few_of (c.UpTo most) width (v.Small n) h is t = one_mapped v.Small n (below (suc most)) (is_below n (suc most) (omega (arith, t)))
few_of c.LoadHint width (v.Small n) h is t = one_mapped v.Small n (0 ∷ 1 ∷ 3 ∷ []) (load_hint n t.0 t.1)
few_of c.StoreHint width (v.Small n) h is (inl e) = inl (ap v.Small e)
few_of c.StoreHint width (v.Small n) h is (inr e) = inr (inl (ap v.Small e))
few_of (c.Size least most) width (v.Small n) h is t =
    let sizes : IsOneOf n (1 ∷ 2 ∷ 4 ∷ 8 ∷ []) = size_one n t.0 in
    one_mapped v.Small n _ (kept (λ m. nat_le least m && nat_le m most) n (1 ∷ 2 ∷ 4 ∷ 8 ∷ []) sizes
    (and_from _ _ (le-leb least n t.1) (le-leb n most t.2)))
few_of coding width value h is t = cc

pub few : (coding : Coding) (width : ℕ) (value : Value) → is_few coding width ≡ true → Takes coding width value
    → IsOneOf value (every coding width)
few coding width value h t = few_of coding width value h (is_shaped coding width value t) t

pub all_of : {A : Type 0} (p : A → Bool) (xs : List A) (x : A) → list_all p xs ≡ true → IsOneOf x xs → p x ≡ true
all_of p [] x h o = absurd o
all_of p (y ∷ ys) x h (inl e) = rw e (left _ _ h)
all_of p (y ∷ ys) x h (inr o) = all_of p ys x (right _ _ h) o

pub all_in : {A : Type 0} (p : A → Bool) (xs : List A) (x : A) → list_all p xs ≡ true → Contains xs x → p x ≡ true
all_in p [] x h k = absurd (omega (arith, k.1))
all_in p (y ∷ ys) x h (zero, l, e) = rw (sym e) (left _ _ h)
all_in p (y ∷ ys) x h (suc n, l, e) = all_in p ys x (right _ _ h) (n, omega (arith, l), e)

-- A set says the values of a coding: each of them, and nothing else.
abbrev pub says_values : CompleterSet → Opcode → Coding → ℕ → Bool
says_values s x coding width =
    is_few coding width
    && (list_all (λ value. is_some (find (λ m. is_said m.says x value) (members s))) (every coding width)
    && list_all (λ m. is_value m.says) (members s))

-- A set says what the opcode is, and no value.
abbrev pub says_opcode : CompleterSet → Opcode → Bool
says_opcode s x =
    is_some (find (λ m. is_said m.says x (v.Pr 0)) (members s))
    && (not (is_value (completer_of s x (v.Pr 0)).says) && not (is_missing (completer_of s x (v.Pr 0)).says))

-- What a completer is that says a value, and what one that doesn't.
pub record SaysValue (s : CompleterSet) (x : Opcode) (value : Value) : Type 0 where
  pub chosen : Contains (members s) (completer_of s x value)
  pub there : is_missing (completer_of s x value).says ≡ false
  pub says : said_value (completer_of s x value).says ≡ resting value
  pub leaves : (y : Opcode) → completed (completer_of s x value).says y ≡ Some y

pub record SaysOpcode (s : CompleterSet) (x : Opcode) : Type 0 where
  pub chosen : Contains (members s) (completer_of s x (v.Pr 0))
  pub there : is_missing (completer_of s x (v.Pr 0)).says ≡ false
  pub says : said_value (completer_of s x (v.Pr 0)).says ≡ v.Absent

pub says_value : (s : CompleterSet) (x : Opcode) (coding : Coding) (width : ℕ) (value : Value) → says_values s x coding width ≡ true
    → Takes coding width value → SaysValue s x value
says_value s x coding width value h t =
    let p : Completer → Bool = λ m. is_said m.says x value in
    let each = left _ _ (right (is_few coding width) _ h) in
    let some : is_some (find p (members s)) ≡ true =
    all_of (λ w. is_some (find (λ m. is_said m.says x w) (members s)))
    (every coding width) value each (few coding width value (left _ _ h) t) in
    let found : find p (members s) ≡ Some (completer_of s x value) = some_is (find p (members s)) _ some in
    let chosen = found_is_in p (members s) (completer_of s x value) found in
    let is : is_value (completer_of s x value).says ≡ true =
    all_in (λ m. is_value m.says) (members s) (completer_of s x value)
    (right (list_all (λ w. is_some (find (λ m. is_said m.says x w) (members s))) (every coding width)) _
    (right (is_few coding width) _ h)) chosen in
    let same = said_is (completer_of s x value).says x value is (found_passes p (members s) (completer_of s x value) found) in
    record {
      chosen = chosen;
      there = value_is_there (completer_of s x value).says is;
      says = same ∙ subst (λ w. w ≡ resting w) same (sym (value_rests (completer_of s x value).says));
      leaves = λ y. value_leaves (completer_of s x value).says y is;
    }

pub says_own : (s : CompleterSet) (x : Opcode) → says_opcode s x ≡ true → SaysOpcode s x
says_own s x h =
    let p : Completer → Bool = λ m. is_said m.says x (v.Pr 0) in
    let found : find p (members s) ≡ Some (completer_of s x (v.Pr 0)) = some_is (find p (members s)) _ (left _ _ h) in
    record {
      chosen = found_is_in p (members s) (completer_of s x (v.Pr 0)) found;
      there = not-true _ (right (not (is_value (completer_of s x (v.Pr 0)).says)) _ (right (is_some (find p (members s))) _ h));
      says = no_value (completer_of s x (v.Pr 0)).says (not-true _ (left _ _ (right (is_some (find p (members s))) _ h)));
    }
