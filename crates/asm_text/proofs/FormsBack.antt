-- A row of forms agrees with a row of words: what is printed by it is read as what was printed. Whether it does is a computation
-- on the two rows.
use Rattle.std.proofs.Common.{◌≡◌, refl, sym, subst, ◌∙◌, ap, ℕ, zero, suc, ◌<◌, ◌==◌, Bool, true, false, not, ◌&&◌, ◌||◌, cond, eqb, List, [], ◌∷◌, length, map, Option, Some, None}
use Rattle.std.specs.Prelude.{nat_lt, slice_set}
use Rattle.std.specs.List.{Contains, list_all, list_any}
use Rattle.std.specs.Option.{option_map, option_and_then}
use Rattle.std.proofs.lemmas.Bool.{and_from, eqb-true, eq-eqb, ltb-true}
use Rattle.std.proofs.lemmas.List.{get_or-set_same, get_or-set_other, length-set}
use Rattle.ia_program.proofs.Tests.{left, right}
use Rattle.ia_insn.specs.declared.insn.Op.{Op}
use Rattle.ia_insn.specs.declared.insn.Op.TheVariants as op
use Rattle.ia_insn.specs.declared.choices.Update.TheVariants as update
use Rattle.insn_rows.specs.declared.opcode.Opcode.{Opcode}
use Rattle.insn_rows.specs.declared.opcode.Opcode.TheVariants as o
use Rattle.insn_rows.specs.declared.row.Coding.{Coding}
use Rattle.insn_rows.specs.declared.row.Coding.TheVariants as c
use Rattle.insn_rows.specs.declared.row.Operand.{Operand}
use Rattle.insn_rows.specs.declared.value.Value.{Value}
use Rattle.insn_rows.specs.declared.value.Value.TheVariants as v
use Rattle.insn_rows.specs.Arms.{opcode_of, operands_of}
use Rattle.insn_rows.specs.ArmsBack.{op_of as op_with}
use Rattle.insn_rows.specs.Codings.{Takes}
use Rattle.insn_rows.specs.Rows.{operand_width, AllTake}
use Rattle.insn_rows.specs.Values.{at}
use Rattle.insn_rows.specs.WellMade.{coding_at}
use Rattle.asm_lexemes.specs.declared.tokens.Token.{Token}
use Rattle.asm_lexemes.specs.declared.tokens.Token.TheVariants as t
use Rattle.asm_forms.specs.declared.completer.Completer.{Completer}
use Rattle.asm_forms.specs.declared.completer.CompleterSet.{CompleterSet}
use Rattle.asm_forms.specs.declared.completer.Said.{Said}
use Rattle.asm_forms.specs.declared.items.FormItem.{FormItem}
use Rattle.asm_forms.specs.declared.items.FormItem.TheVariants.{Is, Takes as TakesKind}
use Rattle.asm_forms.specs.declared.items.Kind.{Kind}
use Rattle.asm_forms.specs.declared.items.Kind.TheVariants as k
use Rattle.asm_forms.specs.Completers.{members}
use Rattle.asm_forms.specs.Items.{operands as form_operands, prints, fits}
use Rattle.asm_forms.specs.Naming.{AreChosen}
use Rattle.asm_forms.specs.Rows.{FormRow}
use Rattle.asm_instructions.specs.Instructions.{completed, completed_by, moving, moving_by, with_fixed, with_operands, with_completers, no_values, values_by, op_by}
use Rattle.asm_instructions.specs.Operands.{said_value, operand_value}
use Rattle.asm_reading.specs.Lines.{is_missing, is_bare}
use Rattle.asm_canonical.specs.Canonical.{is_said, has_fixed, completer_of, value_token, register_of, operand_of}
use Rattle.asm_text.specs.ReadBack.{untargeted}
use Rattle.asm_text.proofs.OperandsBack.{resting, is_kind, is_shaped, operand_back}
use Rattle.asm_text.proofs.CompletersBack.{is_value, said_is, value_rests, says_values, says_opcode, says_value, says_own}

-- How many bits the code of an operand has, by its number.
abbrev pub width_at : List Operand → ℕ → ℕ
width_at [] n = 0
width_at (x ∷ xs) zero = operand_width x
width_at (x ∷ xs) (suc n) = width_at xs n

pub taken_at : (os : List Operand) (xs : List Value) (n : ℕ) → AllTake os xs → Takes (coding_at os n) (width_at os n) (at xs n)
taken_at [] [] n h = tt
taken_at (y ∷ ys) (x ∷ xs) zero h = h.0
taken_at (y ∷ ys) (x ∷ xs) (suc n) h = taken_at ys xs n h.1
taken_at os xs n h = absurd h

-- The values are the operands', but for the predicate.
abbrev pub AreTaken : List Operand → (ℕ → Value) → Type 0
AreTaken os x = (x 0 ≡ v.Pr 0) × ((n : ℕ) → Takes (coding_at os (suc n)) (width_at os (suc n)) (x (suc n)))

-- The values that are read: number 0 is that of none.
abbrev pub read_values : (ℕ → Value) → ℕ → Value
read_values x zero = v.Absent
read_values x (suc n) = resting (x (suc n))

-- Values put at their numbers.
abbrev pub puts : (ℕ → Value) → List ℕ → List Value → List Value
puts y [] vs = vs
puts y (n ∷ ns) vs = puts y ns (slice_set vs n (y n))

is_new : (y : ℕ → Value) (vs : List Value) (n m : ℕ) → n < length vs → n ≡ m → at (slice_set vs n (y n)) m ≡ y m
is_new y vs n m l e = subst (λ k. at (slice_set vs n (y n)) k ≡ y k) e (get_or-set_same vs n (y n) v.Absent l)

is_at : (y : ℕ → Value) (vs : List Value) (n m : ℕ) → n < length vs → at vs m ≡ y m → at (slice_set vs n (y n)) m ≡ y m
is_at y vs n m l e = elim (eqb m n) as (λ b. (b ≡ eqb m n) → at (slice_set vs n (y n)) m ≡ y m) [
  | true ↦ λ q. is_new y vs n m l (sym (eqb-true m n (sym q)))
  | false ↦ λ q. get_or-set_other vs n m (y n) v.Absent (λ s. let same = eq-eqb m n s in cc) ∙ e
] refl

pub put_keeps : (y : ℕ → Value) (ns : List ℕ) (vs : List Value) (m : ℕ) → list_all (λ n. nat_lt n (length vs)) ns ≡ true → at vs m ≡ y m
    → at (puts y ns vs) m ≡ y m
put_keeps y [] vs m h e = e
put_keeps y (n ∷ ns) vs m h e =
    put_keeps y ns (slice_set vs n (y n)) m (rw (length-set vs n (y n)) (right _ _ h))
    (is_at y vs n m (ltb-true n (length vs) (left _ _ h)) e)

pub put_sets : (y : ℕ → Value) (ns : List ℕ) (vs : List Value) (m : ℕ) → list_all (λ n. nat_lt n (length vs)) ns ≡ true
    → list_any (λ n. n == m) ns ≡ true → at (puts y ns vs) m ≡ y m
put_sets y [] vs m h a = cc
put_sets y (n ∷ ns) vs m h a =
    let l = ltb-true n (length vs) (left _ _ h) in
    let rest : list_all (λ k. nat_lt k (length (slice_set vs n (y n)))) ns ≡ true = rw (length-set vs n (y n)) (right _ _ h) in
    elim (eqb n m) as (λ b. (b ≡ eqb n m) → at (puts y (n ∷ ns) vs) m ≡ y m) [
      | true ↦ λ q. put_keeps y ns (slice_set vs n (y n)) m rest (is_new y vs n m l (eqb-true n m (sym q)))
      | false ↦ λ q. put_sets y ns (slice_set vs n (y n)) m rest (rw (sym q) at a)
    ] refl

-- The operands: each is of its coding's kind, or an application register, which is none of the values.
abbrev pub is_register_kind : Kind → Bool
is_register_kind k.Ar = true
is_register_kind _ = false

abbrev pub suits_operand : List Operand → Kind × ℕ → Bool
suits_operand os (kind, zero) = is_register_kind kind
suits_operand os (kind, suc n) = is_kind kind (coding_at os (suc n)) (width_at os (suc n))

register_back : (kind : Kind) (x : Opcode) (value : Value) → is_register_kind kind ≡ true
    → (prints kind (operand_of kind x value) ≡ true) × (operand_value kind (operand_of kind x value) ≡ v.Absent)
register_back k.Ar x value h = (refl, refl)
register_back kind x value h = cc

abbrev tokens_by : List (Kind × ℕ) → Opcode → (ℕ → Value) → List Token
tokens_by ks o x = map (λ s. operand_of s.0 o (x s.1)) ks

one_back : (os : List Operand) (s : Kind × ℕ) (o : Opcode) (x : ℕ → Value) → suits_operand os s ≡ true → AreTaken os x
    → (prints s.0 (operand_of s.0 o (x s.1)) ≡ true) × (operand_value s.0 (operand_of s.0 o (x s.1)) ≡ read_values x s.1)
one_back os (kind, zero) o x h t = register_back kind o (x 0) h
one_back os (kind, suc n) o x h t =
    let b = operand_back kind o (coding_at os (suc n)) (width_at os (suc n))
    (x (suc n)) h (is_shaped (coding_at os (suc n)) (width_at os (suc n)) (x (suc n)) (t.1 n)) (t.1 n) in (b.printed, b.read)

operands_put : (os : List Operand) (ks : List (Kind × ℕ)) (o : Opcode) (x : ℕ → Value) (vs : List Value)
    → list_all (suits_operand os) ks ≡ true → AreTaken os x
    → with_operands ks (tokens_by ks o x) vs ≡ puts (read_values x) (map (λ s. s.1) ks) vs
operands_put os [] o x vs h t = refl
operands_put os (s ∷ ks) o x vs h t =
    rw ((one_back os s o x (left _ _ h) t).1) (operands_put os ks o x (slice_set vs s.1 (read_values x s.1)) (right _ _ h) t)

-- Operands that the kinds of a form's print fit its items.
abbrev all_print : List (Kind × ℕ) → List Token → Bool
all_print [] [] = true
all_print (s ∷ ks) (x ∷ xs) = prints s.0 x && all_print ks xs
all_print _ _ = false

fit_all : (is : List FormItem) (xs : List Token) → all_print (form_operands is) xs ≡ true → fits is xs ≡ true
fit_all [] [] h = refl
fit_all [] (x ∷ xs) h = cc
fit_all (Is fixed ∷ is) xs h = fit_all is xs h
fit_all (TakesKind kind n ∷ is) [] h = cc
fit_all (TakesKind kind n ∷ is) (x ∷ xs) h = and_from _ _ (left _ _ h) (fit_all is xs (right _ _ h))

tokens_print : (os : List Operand) (ks : List (Kind × ℕ)) (o : Opcode) (x : ℕ → Value) → list_all (suits_operand os) ks ≡ true
    → AreTaken os x → all_print ks (tokens_by ks o x) ≡ true
tokens_print os [] o x h t = refl
tokens_print os (s ∷ ks) o x h t = and_from _ _ (one_back os s o x (left _ _ h) t).0 (tokens_print os ks o x (right _ _ h) t)

-- The opcode with the application register that is among the operands.
unfoldable pub moved : List (Kind × ℕ) → Opcode → Opcode → Opcode
moved [] o q = q
moved (s ∷ ks) o q = moved ks o (cond (is_register_kind s.0) (moving (t.Ar (register_of o)) q) q)

value_stays : (value : Value) (q : Opcode) → moving (value_token value) q ≡ q
value_stays (v.Flag true) q = refl
value_stays (v.Flag false) q = refl
value_stays value q = refl

operand_moves : (kind : Kind) (o : Opcode) (value : Value) (q : Opcode)
    → moving (operand_of kind o value) q ≡ cond (is_register_kind kind) (moving (t.Ar (register_of o)) q) q
operand_moves k.Ar o value q = refl
operand_moves kind o value q = value_stays value q

moved_is : (ks : List (Kind × ℕ)) (o : Opcode) (x : ℕ → Value) (q : Opcode) → moving_by (tokens_by ks o x) q ≡ moved ks o q
unfolding moved
moved_is [] o x q = refl
moved_is (s ∷ ks) o x q = ap (moving_by (tokens_by ks o x)) (operand_moves s.0 o (x s.1) q) ∙ moved_is ks o x _

-- The completers: each set says the values of its number, or the opcode.
abbrev pub suits_set : List Operand → Opcode → CompleterSet × ℕ → Bool
suits_set os o (set, zero) = says_opcode set o
suits_set os o (set, suc n) = says_values set o (coding_at os (suc n)) (width_at os (suc n))

abbrev completers_with : List (CompleterSet × ℕ) → Opcode → (ℕ → Value) → List Completer
completers_with ss o x = map (λ s. completer_of s.0 o (x s.1)) ss

-- What a completer is, of either.
record IsGood (s : CompleterSet × ℕ) (o : Opcode) (x : ℕ → Value) : Type 0 where
  chosen : Contains (members s.0) (completer_of s.0 o (x s.1))
  there : is_missing (completer_of s.0 o (x s.1)).says ≡ false
  says : said_value (completer_of s.0 o (x s.1)).says ≡ read_values x s.1

good : (os : List Operand) (s : CompleterSet × ℕ) (o : Opcode) (x : ℕ → Value) → suits_set os o s ≡ true → AreTaken os x → IsGood s o x
good os (set, zero) o x h t =
    let g = says_own set o h in
    let first : v.Pr 0 ≡ x 0 = sym t.0 in
    record {
      chosen = subst (λ w. Contains (members set) (completer_of set o w)) first g.chosen;
      there = subst (λ w. is_missing (completer_of set o w).says ≡ false) first g.there;
      says = subst (λ w. said_value (completer_of set o w).says ≡ v.Absent) first g.says;
    }
good os (set, suc n) o x h t =
    let g = says_value set o (coding_at os (suc n)) (width_at os (suc n)) (x (suc n)) h (t.1 n) in
    record { chosen = g.chosen; there = g.there; says = g.says }

completers_put : (os : List Operand) (ss : List (CompleterSet × ℕ)) (o : Opcode) (x : ℕ → Value) (vs : List Value)
    → list_all (suits_set os o) ss ≡ true → AreTaken os x
    → with_completers ss (completers_with ss o x) vs ≡ puts (read_values x) (map (λ s. s.1) ss) vs
completers_put os [] o x vs h t = refl
completers_put os (s ∷ ss) o x vs h t =
    rw ((good os s o x (left _ _ h) t).says) (completers_put os ss o x (slice_set vs s.1 (read_values x s.1)) (right _ _ h) t)

pub are_chosen : (os : List Operand) (ss : List (CompleterSet × ℕ)) (o : Opcode) (x : ℕ → Value) → list_all (suits_set os o) ss ≡ true
    → AreTaken os x → AreChosen ss (completers_with ss o x)
are_chosen os [] o x h t = tt
are_chosen os (s ∷ ss) o x h t = ((good os s o x (left _ _ h) t).chosen, are_chosen os ss o x (right _ _ h) t)

pub none_missing : (os : List Operand) (ss : List (CompleterSet × ℕ)) (o : Opcode) (x : ℕ → Value) → list_all (suits_set os o) ss ≡ true
    → AreTaken os x → is_bare (completers_with ss o x) ≡ false
none_missing os [] o x h t = refl
none_missing os (s ∷ ss) o x h t = rw ((good os s o x (left _ _ h) t).there) (none_missing os ss o x (right _ _ h) t)

-- The opcode with what is said of it.
unfoldable pub said_by : List (CompleterSet × ℕ) → Opcode → Opcode → Option Opcode
said_by [] o q = Some q
said_by ((set, zero) ∷ ss) o q = option_and_then (said_by ss o) (completed (completer_of set o (v.Pr 0)).says q)
said_by ((set, suc n) ∷ ss) o q = said_by ss o q

then_same : (f g : Opcode → Option Opcode) (q : Option Opcode) → ((y : Opcode) → f y ≡ g y) → option_and_then f q ≡ option_and_then g q
then_same f g None h = refl
then_same f g (Some y) h = h y

said_is_by : (os : List Operand) (ss : List (CompleterSet × ℕ)) (o : Opcode) (x : ℕ → Value) (q : Opcode)
    → list_all (suits_set os o) ss ≡ true → AreTaken os x → completed_by (completers_with ss o x) q ≡ said_by ss o q
unfolding said_by
said_is_by os [] o x q h t = refl
said_is_by os ((set, zero) ∷ ss) o x q h t =
    rw t.0 (then_same (completed_by (completers_with ss o x)) (said_by ss o) (completed (completer_of set o (v.Pr 0)).says q)
    (λ y. said_is_by os ss o x y (right _ _ h) t))
said_is_by os ((set, suc n) ∷ ss) o x q h t =
    let g = says_value set o (coding_at os (suc n)) (width_at os (suc n)) (x (suc n)) (left _ _ h) (t.1 n) in
    rw (g.leaves q) (said_is_by os ss o x q (right _ _ h) t)

-- The values of the form's own.
abbrev pub suits_fixed : Said × ℕ → Bool
suits_fixed s = is_value s.0 && not (s.1 == 0)

fixed_one : (s : Said × ℕ) (o : Opcode) (x : ℕ → Value) → suits_fixed s ≡ true → is_said s.0 o (x s.1) ≡ true
    → said_value s.0 ≡ read_values x s.1
fixed_one (says, zero) o x h e = let never : false ≡ true = right (is_value says) _ h in cc
fixed_one (says, suc n) o x h e = let same = said_is says o (x (suc n)) (left _ _ h) e in rw (sym same) (sym (value_rests says))

fixed_put : (fs : List (Said × ℕ)) (o : Opcode) (x : ℕ → Value) (vs : List Value) → list_all suits_fixed fs ≡ true → has_fixed fs o x ≡ true
    → with_fixed fs vs ≡ puts (read_values x) (map (λ s. s.1) fs) vs
fixed_put [] o x vs h e = refl
fixed_put (s ∷ fs) o x vs h e =
    rw (fixed_one s o x (left _ _ h) (left _ _ e)) (fixed_put fs o x (slice_set vs s.1 (read_values x s.1)) (right _ _ h) (right _ _ e))

-- Each number is that of a value, and each operand but the predicate has its value named.
abbrev pub are_numbers : List ℕ → Bool
are_numbers ns = list_all (λ n. nat_lt n 7) ns

abbrev pub is_absent : Coding → Bool
is_absent c.Absent = true
is_absent coding = false

abbrev pub is_named_in : List Operand → FormRow → ℕ → Bool
is_named_in os r m =
    list_any (λ n. n == m) (map (λ s. s.1) r.fixed) || (list_any (λ n. n == m) (map (λ s. s.1) (form_operands r.items))
    || (list_any (λ n. n == m) (map (λ s. s.1) r.sets) || is_absent (coding_at os m)))

-- THE TEST: the two rows agree.
abbrev pub agrees : List Operand → Opcode → FormRow → Bool
agrees os o r =
    list_all (suits_operand os) (form_operands r.items) && (list_all (suits_set os o) r.sets && (list_all suits_fixed r.fixed
    && (are_numbers (map (λ s. s.1) (form_operands r.items)) && (are_numbers (map (λ s. s.1) r.sets)
    && (are_numbers (map (λ s. s.1) r.fixed)
    && list_all (is_named_in os r) (1 ∷ 2 ∷ 3 ∷ 4 ∷ 5 ∷ 6 ∷ []))))))

pub record Agreement (os : List Operand) (o : Opcode) (r : FormRow) : Type 0 where
  pub operands : list_all (suits_operand os) (form_operands r.items) ≡ true
  pub sets : list_all (suits_set os o) r.sets ≡ true
  pub fixed : list_all suits_fixed r.fixed ≡ true
  pub operand_numbers : are_numbers (map (λ s. s.1) (form_operands r.items)) ≡ true
  pub set_numbers : are_numbers (map (λ s. s.1) r.sets) ≡ true
  pub fixed_numbers : are_numbers (map (λ s. s.1) r.fixed) ≡ true
  pub named : list_all (is_named_in os r) (1 ∷ 2 ∷ 3 ∷ 4 ∷ 5 ∷ 6 ∷ []) ≡ true

pub agreement : (os : List Operand) (o : Opcode) (r : FormRow) → agrees os o r ≡ true → Agreement os o r
agreement os o r h =
    let a = list_all (suits_operand os) (form_operands r.items) in
    let b = list_all (suits_set os o) r.sets in
    let d = list_all suits_fixed r.fixed in
    let e = are_numbers (map (λ s. s.1) (form_operands r.items)) in
    let f = are_numbers (map (λ s. s.1) r.sets) in
    let g = are_numbers (map (λ s. s.1) r.fixed) in
    let h1 = right a _ h in let h2 = right b _ h1 in let h3 = right d _ h2 in let h4 = right e _ h3 in let h5 = right f _ h4 in
    record {
      operands = left a _ h;
      sets = left b _ h1;
      fixed = left d _ h2;
      operand_numbers = left e _ h3;
      set_numbers = left f _ h4;
      fixed_numbers = left g _ h5;
      named = right g _ h5;
    }

put_length : (y : ℕ → Value) (ns : List ℕ) (vs : List Value) → length (puts y ns vs) ≡ length vs
put_length y [] vs = refl
put_length y (n ∷ ns) vs = put_length y ns (slice_set vs n (y n)) ∙ length-set vs n (y n)

absent_is : (coding : Coding) (width : ℕ) (value : Value) → is_absent coding ≡ true → Takes coding width value → value ≡ v.Absent
absent_is c.Absent width v.Absent h t = refl
absent_is c.Absent width value h t = absurd t
absent_is coding width value h t = cc

none_at : (m : ℕ) → at no_values m ≡ v.Absent
none_at zero = refl
none_at (suc zero) = refl
none_at (suc (suc zero)) = refl
none_at (suc (suc (suc zero))) = refl
none_at (suc (suc (suc (suc zero)))) = refl
none_at (suc (suc (suc (suc (suc zero))))) = refl
none_at (suc (suc (suc (suc (suc (suc zero)))))) = refl
none_at (suc (suc (suc (suc (suc (suc (suc n))))))) = refl

-- What the row reads at a number is what was printed of it.
three : (y : ℕ → Value) (fs ks ss : List ℕ) (m : ℕ) (absent : Bool) → are_numbers fs ≡ true → are_numbers ks ≡ true → are_numbers ss ≡ true
    → (list_any (λ n. n == m) fs || (list_any (λ n. n == m) ks || (list_any (λ n. n == m) ss || absent))) ≡ true
    → (absent ≡ true → y m ≡ v.Absent)
    → at (puts y ss (puts y ks (puts y fs no_values))) m ≡ y m
three y fs ks ss m absent hf hk hs any none =
    let vf = puts y fs no_values in
    let vk = puts y ks vf in
    let lf : length vf ≡ 7 = put_length y fs no_values in
    let lk : length vk ≡ 7 = put_length y ks vf ∙ lf in
    let nk : list_all (λ n. nat_lt n (length vf)) ks ≡ true = rw lf hk in
    let ns : list_all (λ n. nat_lt n (length vk)) ss ≡ true = rw lk hs in
    elim (list_any (λ n. n == m) fs) as (λ b. (b ≡ list_any (λ n. n == m) fs)
    → (b || (list_any (λ n. n == m) ks || (list_any (λ n. n == m) ss || absent))) ≡ true → at (puts y ss vk) m ≡ y m) [
      | true ↦ λ q w. put_keeps y ss vk m ns (put_keeps y ks vf m nk (put_sets y fs no_values m hf (sym q)))
      | false ↦ λ q w. elim (list_any (λ n. n == m) ks) as (λ b. (b ≡ list_any (λ n. n == m) ks)
          → (b || (list_any (λ n. n == m) ss || absent)) ≡ true → at (puts y ss vk) m ≡ y m) [
            | true ↦ λ r u. put_keeps y ss vk m ns (put_sets y ks vf m nk (sym r))
            | false ↦ λ r u. elim (list_any (λ n. n == m) ss) as (λ b. (b ≡ list_any (λ n. n == m) ss) → (b || absent) ≡ true
                → at (puts y ss vk) m ≡ y m) [
                  | true ↦ λ s z. put_sets y ss vk m ns (sym s)
                  | false ↦ λ s z. put_keeps y ss vk m ns (put_keeps y ks vf m nk (put_keeps y fs no_values m hf (none_at m ∙ sym (none z))))
                ] refl u
          ] refl w
    ] refl any

absent_value : (x : ℕ → Value) (m : ℕ) → x (suc m) ≡ v.Absent → read_values x (suc m) ≡ v.Absent
absent_value x m e = rw e refl

values_put : (os : List Operand) (o : Opcode) (r : FormRow) (x : ℕ → Value) (vs : List Value) → Agreement os o r → AreTaken os x
    → has_fixed r.fixed o x ≡ true
    → values_by r (completers_with r.sets o x) (tokens_by (form_operands r.items) o x)
    ≡ puts (read_values x) (map (λ s. s.1) r.sets) (puts (read_values x) (map (λ s. s.1) (form_operands r.items))
    (puts (read_values x) (map (λ s. s.1) r.fixed) no_values))
values_put os o r x vs a t e =
    rw (
      fixed_put r.fixed o x no_values a.fixed e,
      operands_put os (form_operands r.items) o x
          (puts (read_values x) (map (λ s. s.1) r.fixed) no_values) a.operands t,
    )
    (completers_put os r.sets o x _ a.sets t)

value_at : (os : List Operand) (o : Opcode) (r : FormRow) (x : ℕ → Value) (m : ℕ) → Agreement os o r → AreTaken os x
    → has_fixed r.fixed o x ≡ true → is_named_in os r (suc m) ≡ true
    → at (values_by r (completers_with r.sets o x) (tokens_by (form_operands r.items) o x)) (suc m) ≡ resting (x (suc m))
value_at os o r x m a t e n =
    ap (λ vs. at vs (suc m)) (values_put os o r x no_values a t e)
    ∙ three (read_values x) (map (λ s. s.1) r.fixed) (map (λ s. s.1) (form_operands r.items)) (map (λ s. s.1) r.sets) (suc m)
    (is_absent (coding_at os (suc m))) a.fixed_numbers a.operand_numbers a.set_numbers n
    (λ z. absent_value x m (absent_is (coding_at os (suc m)) (width_at os (suc m)) (x (suc m)) z (t.1 m)))

-- An operation is the same with the same six values.
same_op : (o : Opcode) (x y : ℕ → Value) → x 1 ≡ y 1 → x 2 ≡ y 2 → x 3 ≡ y 3 → x 4 ≡ y 4 → x 5 ≡ y 5 → x 6 ≡ y 6 → op_with o x ≡ op_with o y
same_op o.Mf x y a b d e f g = refl
same_op o x y a b d e f g = cc

-- With the values that are read, the operation is the one that was printed, but for its target.
rests : (x : Op) → op_with (opcode_of x) (λ n. resting (at (operands_of 0 x) n)) ≡ untargeted x
rests (op.Load size kind hint r1 r3 update.None) = refl
rests (op.Load size kind hint r1 r3 u) = refl
rests (op.Store size kind hint r3 r2 update.None) = refl
rests (op.Store size kind hint r3 r2 u) = refl
rests x = refl

-- The opcode that the row reads.
unfoldable pub begun : FormRow → Opcode → Option Opcode
begun r o = option_and_then (λ q. said_by r.sets o (moved (form_operands r.items) o q)) r.opcode

begun_is : (q : Option Opcode) (f : Opcode → Op) (cs : List Completer) (xs : List Token) (g : Opcode → Option Opcode)
    → ((y : Opcode) → completed_by cs (moving_by xs y) ≡ g y)
    → option_and_then (λ y. option_map f (completed_by cs (moving_by xs y))) q ≡ option_map f (option_and_then g q)
begun_is None f cs xs g h = refl
begun_is (Some y) f cs xs g h = ap (option_map f) (h y)

-- What is printed by a row that agrees is read as what was printed, but for its target.
pub read_by : (os : List Operand) (x : Op) (r : FormRow) → agrees os (opcode_of x) r ≡ true → begun r (opcode_of x) ≡ Some (opcode_of x)
    → AreTaken os (at (operands_of 0 x)) → has_fixed r.fixed (opcode_of x) (at (operands_of 0 x)) ≡ true
    → op_by r (map (λ s. completer_of s.0 (opcode_of x) (at (operands_of 0 x) s.1)) r.sets)
    (map (λ s. operand_of s.0 (opcode_of x) (at (operands_of 0 x) s.1)) (form_operands r.items)) ≡ Some (untargeted x)
unfolding begun
read_by os x r h b t e =
    let a = agreement os (opcode_of x) r h in
    let z = at (operands_of 0 x) in
    let o = opcode_of x in
    let cs = completers_with r.sets o z in
    let xs = tokens_by (form_operands r.items) o z in
    let w = values_by r cs xs in
    let n = a.named in
    let each : (m : ℕ) → is_named_in os r (suc m) ≡ true → at w (suc m) ≡ resting (z (suc m)) = λ m k. value_at os o r z m a t e k in
    let n1 = left _ _ n in let t1 = right (is_named_in os r 1) _ n in
    let n2 = left _ _ t1 in let t2 = right (is_named_in os r 2) _ t1 in
    let n3 = left _ _ t2 in let t3 = right (is_named_in os r 3) _ t2 in
    let n4 = left _ _ t3 in let t4 = right (is_named_in os r 4) _ t3 in
    let n5 = left _ _ t4 in let t5 = right (is_named_in os r 5) _ t4 in
    let n6 = left _ _ t5 in
    begun_is r.opcode (λ y. op_with y (at w)) cs xs (λ q. said_by r.sets o (moved (form_operands r.items) o q))
    (λ y. said_is_by os r.sets o z (moving_by xs y) a.sets t ∙ ap (said_by r.sets o) (moved_is (form_operands r.items) o z y))
    ∙ ap (option_map (λ y. op_with y (at w))) b
    ∙ ap Some (same_op o (at w) (λ m. resting (z m)) (each 0 n1) (each 1 n2) (each 2 n3) (each 3 n4) (each 4 n5) (each 5 n6) ∙ rests x)

-- The operands of what is printed by a row that agrees fit the items.
pub fit_by : (os : List Operand) (o : Opcode) (r : FormRow) (x : ℕ → Value) → agrees os o r ≡ true → AreTaken os x
    → fits r.items (map (λ s. operand_of s.0 o (x s.1)) (form_operands r.items)) ≡ true
fit_by os o r x h t =
    fit_all r.items (tokens_by (form_operands r.items) o x) (tokens_print os (form_operands r.items) o x (agreement os o r h).operands t)
