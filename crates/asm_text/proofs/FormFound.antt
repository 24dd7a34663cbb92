-- The form that a listed instruction is printed with agrees with the row of its words: a computation over the rows.
use Rattle.std.proofs.Common.{◌≡◌, ◌⊎◌, refl, sym, subst, ◌∙◌, ap, ap₂, arith, drop, inl, inr, ℕ, zero, suc, Bool, true, false, not, ◌&&◌, ◌||◌, cond, List, [], ◌∷◌, map, get_or, Some, is_some}
use Rattle.std.specs.Prelude.{flat_map, filter, unwrap_or}
use Rattle.std.specs.List.{find, list_all, list_any}
use Rattle.std.proofs.lemmas.Bool.{and_from}
use Rattle.ia_program.proofs.Tests.{left, right}
use Rattle.ia_insn.specs.declared.insn.Insn.{Insn}
use Rattle.ia_insn.specs.declared.insn.Op.{Op}
use Rattle.ia_insn.specs.declared.insn.Op.TheVariants as op
use Rattle.ia_insn.specs.Displacements.{displacement}
use Rattle.insn_rows.specs.declared.opcode.Opcode.{Opcode}
use Rattle.insn_rows.specs.declared.opcode.Opcode.TheVariants as o
use Rattle.insn_rows.specs.declared.row.Operand.{Operand}
use Rattle.insn_rows.specs.declared.row.Row.{Row}
use Rattle.insn_rows.specs.declared.value.Value.{Value}
use Rattle.insn_rows.specs.declared.value.Value.TheVariants as v
use Rattle.insn_rows.specs.Arms.{opcode_of, operands_of}
use Rattle.insn_rows.specs.Codes.{IsOfRow, IsListedBy}
use Rattle.insn_rows.specs.declared.row.Coding.{Coding}
use Rattle.insn_rows.specs.declared.row.Coding.TheVariants as c
use Rattle.insn_rows.specs.Codings.{Takes}
use Rattle.insn_rows.specs.Rows.{operand_width, operands, AllTake}
use Rattle.insn_rows.specs.Values.{at}
use Rattle.insn_rows.specs.WellMade.{coding_at}
use Rattle.insn_rows.proofs.RowBack.{no_row}
use Rattle.insn_rows.proofs.RowWords.{all_get}
use Rattle.asm_forms.specs.declared.completer.Said.{Said}
use Rattle.asm_forms.specs.declared.form.Form.{Form}
use Rattle.asm_forms.specs.declared.form.Form.TheVariants as form
use Rattle.asm_forms.specs.Items.{is_label_item}
use Rattle.asm_forms.specs.Rows.{row_of, is_instruction}
use Rattle.asm_forms.proofs.ReadChoice.{IsOneOf, one_mapped, one_flat, same_of, same_at, read_choice}
use Rattle.asm_lexemes.specs.declared.tokens.Token.{Token}
use Rattle.asm_instructions.specs.Instructions.{settled}
use Rattle.asm_canonical.specs.Canonical.{forms_of, is_said, has_fixed, form_of, written}
use Rattle.asm_canonical.proofs.Printed.{values_first}
use Rattle.asm_text.specs.ReadBack.{untargeted}
use Rattle.asm_text.proofs.CompletersBack.{is_few, every, few, all_of}
use Rattle.asm_text.proofs.FormsBack.{width_at, taken_at, AreTaken, agrees, agreement, begun, read_by, fit_by, are_chosen, none_missing}
use Rattle.asm_text.proofs.WayBack.{ReadsBack}

-- The instructions whose values are written otherwise than words have them: a frame, and long immediates.
abbrev pub is_apart : Opcode → Bool
is_apart o.Alloc = true
is_apart o.Movl = true
is_apart (o.Break u) = true
is_apart (o.Nop u) = true
is_apart _ = false

-- An instruction has a target.
abbrev pub has_target : Opcode → Bool
has_target (o.ChkS u) = true
has_target o.ChkA = true
has_target (o.Br kind) = true
has_target o.BrCall = true
has_target _ = false

target_is : (x : Op) → is_some (displacement x) ≡ has_target (opcode_of x)
target_is (op.ChkS u r2 disp) = refl
target_is (op.ChkA clear r1 disp) = refl
target_is (op.Br kind wh many clr disp) = refl
target_is (op.BrCall b1 wh many clr disp) = refl
target_is x = refl

-- Nothing is computed by the form.
abbrev pub is_plain : Form → Bool
is_plain form.AddImm = false
is_plain form.ShlNumber = false
is_plain form.ShrNumber = false
is_plain form.Alloc = false
is_plain f = true

plain_settles : (f : Form) (xs : List Token) (x : Op) → is_plain f ≡ true → settled f xs x ≡ Some x
plain_settles form.AddImm xs x h = cc
plain_settles form.ShlNumber xs x h = cc
plain_settles form.ShrNumber xs x h = cc
plain_settles form.Alloc xs x h = cc
plain_settles f xs x h = refl

as_they_are : (x : Opcode) (vs : List Value) → is_apart x ≡ false → written x vs ≡ vs
as_they_are o.Alloc vs h = cc
as_they_are x vs h = refl

abbrev pub same_bool : Bool → Bool → Bool
same_bool true b = b
same_bool false b = not b

bool_is : (a b : Bool) → same_bool a b ≡ true → a ≡ b
bool_is true true h = refl
bool_is false false h = refl
bool_is a b h = cc

-- Values that stand in for those of an instruction: all of few, and none of others.
abbrev pub stand_ins : Operand → List Value
stand_ins x = cond (is_few x.coding (operand_width x)) (every x.coding (operand_width x)) (v.Absent ∷ [])

abbrev pub all_stand_ins : List Operand → List (List Value)
all_stand_ins [] = [] ∷ []
all_stand_ins (x ∷ xs) = flat_map (λ value. map (λ vs. value ∷ vs) (all_stand_ins xs)) (stand_ins x)

-- The values are the same where there are few.
StandsFor : List Operand → List Value → List Value → Type 0
StandsFor [] vs ws = Unit {0}
StandsFor (x ∷ xs) (a ∷ vs) (b ∷ ws) = (is_few x.coding (operand_width x) ≡ true → a ≡ b) × StandsFor xs vs ws
StandsFor (x ∷ xs) vs ws = ⊥

one_stands : (x : Operand) (value : Value) (b : Bool) → is_few x.coding (operand_width x) ≡ b
    → IsOneOf value (every x.coding (operand_width x)) ⊎ (b ≡ false)
    → (w : Value) × IsOneOf w (cond b (every x.coding (operand_width x)) (v.Absent ∷ [])) × (b ≡ true → value ≡ w)
one_stands x value true e (inl h) = (value, h, λ t. refl)
one_stands x value true e (inr h) = cc
one_stands x value false e h = (v.Absent, inl refl, λ t. cc)

few_or_not : (x : Operand) (value : Value) (b : Bool) → is_few x.coding (operand_width x) ≡ b → Takes x.coding (operand_width x) value
    → IsOneOf value (every x.coding (operand_width x)) ⊎ (b ≡ false)
few_or_not x value true e t = inl (few x.coding (operand_width x) value e t)
few_or_not x value false e t = inr refl

stood_for : (xs : List Operand) (vs : List Value) → AllTake xs vs → (ws : List Value) × IsOneOf ws (all_stand_ins xs) × StandsFor xs vs ws
unfolding StandsFor
stood_for [] [] h = ([], inl refl, tt)
stood_for (x ∷ xs) (value ∷ vs) h =
    let b = is_few x.coding (operand_width x) in
    let one = one_stands x value b refl (few_or_not x value b refl h.0) in
    let rest = stood_for xs vs h.1 in (
      one.0 ∷ rest.0,
      one_flat (λ y. map (λ us. y ∷ us) (all_stand_ins xs)) one.0 (one.0 ∷ rest.0)
          (stand_ins x) one.1 (one_mapped (λ us. one.0 ∷ us) rest.0 (all_stand_ins xs) rest.1),
      (one.2, rest.2),
    )
stood_for xs vs h = absurd h

stands_at : (xs : List Operand) (vs ws : List Value) (n : ℕ) → StandsFor xs vs ws → is_few (coding_at xs n) (width_at xs n) ≡ true
    → at vs n ≡ at ws n
unfolding StandsFor
stands_at [] vs ws n h f = cc
stands_at (x ∷ xs) (a ∷ vs) (b ∷ ws) zero h f = h.0 f
stands_at (x ∷ xs) (a ∷ vs) (b ∷ ws) (suc n) h f = stands_at xs vs ws n h.1 f
stands_at (x ∷ xs) [] ws n h f = absurd h
stands_at (x ∷ xs) (a ∷ vs) [] n h f = absurd h

-- The values of a form's own are of operands that have few.
abbrev pub looks_at_few : List Operand → Form → Bool
looks_at_few os f = list_all (λ s. is_few (coding_at os s.1) (width_at os s.1)) (row_of f).fixed

fixed_stands : (os : List Operand) (o : Opcode) (vs ws : List Value) (fs : List (Said × ℕ)) → StandsFor os vs ws
    → list_all (λ s. is_few (coding_at os s.1) (width_at os s.1)) fs ≡ true → has_fixed fs o (at vs) ≡ has_fixed fs o (at ws)
fixed_stands os o vs ws [] h f = refl
fixed_stands os o vs ws (s ∷ fs) h f =
    let here : at vs s.1 ≡ at ws s.1 = stands_at os vs ws s.1 h (left _ _ f) in
    let rest : has_fixed fs o (at vs) ≡ has_fixed fs o (at ws) = fixed_stands os o vs ws fs h (right _ _ f) in
    ap₂ (λ value b. is_said s.0 o value && b) here rest

find_same : (p q : Form → Bool) (fs : List Form) → ((f : Form) → IsOneOf f fs → p f ≡ q f) → find p fs ≡ find q fs
find_same p q [] h = refl
find_same p q (f ∷ fs) h = rw (h f (inl refl), find_same p q fs (λ g k. h g (inr k))) refl

-- The value that the form has of its own is one of the coding's.
abbrev pub may_have : List Operand → Opcode → Form → Bool
may_have os o f = list_all (λ s. list_any (λ value. is_said s.0 o value) (every (coding_at os s.1) (width_at os s.1))) (row_of f).fixed

any_of : {A : Type 0} (p : A → Bool) (xs : List A) (x : A) → IsOneOf x xs → p x ≡ true → list_any p xs ≡ true
any_of p [] x h e = absurd h
any_of p (y ∷ ys) x (inl s) e = rw (sym s, e) refl
any_of p (y ∷ ys) x (inr h) e = elim (p y) as (λ b. (b || list_any p ys) ≡ true) [ true ↦ refl | false ↦ any_of p ys x h e ]

may : (os : List Operand) (o : Opcode) (vs : List Value) (fs : List (Said × ℕ)) → AllTake os vs
    → list_all (λ s. is_few (coding_at os s.1) (width_at os s.1)) fs ≡ true → has_fixed fs o (at vs) ≡ true
    → list_all (λ s. list_any (λ value. is_said s.0 o value) (every (coding_at os s.1) (width_at os s.1))) fs ≡ true
may os o vs [] t f e = refl
may os o vs (s ∷ fs) t f e =
    and_from _ _ (any_of (λ value. is_said s.0 o value) (every (coding_at os s.1) (width_at os s.1)) (at vs s.1)
    (few (coding_at os s.1) (width_at os s.1) (at vs s.1) (left _ _ f) (taken_at os vs s.1 t)) (left _ _ e))
    (may os o vs fs t (right _ _ f) (right _ _ e))

-- What is wanted of a form of a row's opcode.
abbrev pub form_agrees : List Operand → Opcode → Form → Bool
form_agrees os o f =
    agrees os o (row_of f) && (is_plain f && (is_instruction f && same_bool (list_any is_label_item (row_of f).items) (has_target o)))

-- THE TEST of a row of words: each form that its instructions may have agrees with it, and each of them has one.
abbrev pub opcode_agrees : List Operand → Opcode → Bool
opcode_agrees os q =
    is_apart q
    || (list_all (looks_at_few os) (forms_of q)
    && (list_all (λ ws. is_some (find (λ f. has_fixed (row_of f).fixed q (at ws)) (forms_of q))) (all_stand_ins os)
    && list_all (λ f. not (may_have os q f) || form_agrees os q f) (forms_of q)))

abbrev pub row_agrees : Row → Bool
row_agrees r = opcode_agrees (operands r) r.opcode

-- The forms that the instructions of a row may have, where each reads its opcode.
abbrev pub forms_had : List Operand → Opcode → List Form
forms_had os q = filter (λ f. not (is_apart q) && may_have os q f) (forms_of q)

abbrev pub OpcodesBack : List Row → Type 0
OpcodesBack rs =
    map (λ r. map (λ f. begun (row_of f) r.opcode) (forms_had (operands r) r.opcode)) rs
    ≡ map (λ r. map (λ f. Some r.opcode) (forms_had (operands r) r.opcode)) rs

kept_form : (p : Form → Bool) (f : Form) (fs : List Form) → IsOneOf f fs → p f ≡ true → IsOneOf f (filter p fs)
kept_form p f [] h e = absurd h
kept_form p f (g ∷ gs) (inl s) e = rw (sym s, e) (inl refl)
kept_form p f (g ∷ gs) (inr h) e =
    elim (p g) as (λ b. IsOneOf f (cond b (g ∷ filter p gs) (filter p gs)))
    [ true ↦ inr (kept_form p f gs h e) | false ↦ kept_form p f gs h e ]

found_one : (p : Form → Bool) (fs : List Form) (d : Form) → is_some (find p fs) ≡ true
    → IsOneOf (unwrap_or (find p fs) d) fs × (p (unwrap_or (find p fs) d) ≡ true)
found_one p [] d h = cc
found_one p (f ∷ fs) d h =
    elim (p f) as (λ b. (b ≡ p f) → is_some (cond b (Some f) (find p fs)) ≡ true
    → IsOneOf (unwrap_or (cond b (Some f) (find p fs)) d) (f ∷ fs) × (p (unwrap_or (cond b (Some f) (find p fs)) d) ≡ true)) [
      | true ↦ λ q k. (inl refl, sym q)
      | false ↦ λ q k. let r = found_one p fs d k in (inr r.0, r.1)
    ] refl h

either_true : (a b : Bool) → a ≡ false → (a || b) ≡ true → b ≡ true
either_true true b e h = cc
either_true false b e h = h

implied : (a b : Bool) → a ≡ true → (not a || b) ≡ true → b ≡ true
implied true b e h = h
implied false b e h = cc

-- The predicate may be p0.
predicate_zero : (coding : Coding) (width qp : ℕ) → Takes coding width (v.Pr qp) → Takes coding width (v.Pr 0)
predicate_zero c.Pr width qp h = omega (arith, h)
predicate_zero c.NoPredicate width qp h = refl
predicate_zero coding width qp h = absurd h

under_zero : (os : List Operand) (qp : ℕ) (vs : List Value) → AllTake os (v.Pr qp ∷ vs) → AllTake os (v.Pr 0 ∷ vs)
under_zero [] qp vs h = absurd h
under_zero (x ∷ xs) qp vs h = (predicate_zero x.coding (operand_width x) qp h.0, h.1)

taken_under_zero : (os : List Operand) (i : Insn) → AllTake os (operands_of i.qp i.op) → AllTake os (operands_of 0 i.op)
taken_under_zero os i h =
    let All : List Value → Type 0 = AllTake os in
    subst All (sym (values_first 0 i.op)) (under_zero os i.qp (drop 1 (operands_of 0 i.op)) (subst All (values_first i.qp i.op) h))

-- Each instruction of a row that agrees with its forms is read back.
of_opcode : (os : List Operand) (x : Op) → AllTake os (operands_of 0 x) → is_apart (opcode_of x) ≡ false
    → opcode_agrees os (opcode_of x) ≡ true → map (λ f. begun (row_of f) (opcode_of x)) (forms_had os (opcode_of x))
    ≡ map (λ f. Some (opcode_of x)) (forms_had os (opcode_of x)) → ReadsBack x
of_opcode os x t apart agreed back =
    let q = opcode_of x in
    let z = operands_of 0 x in
    let fixed : (ℕ → Value) → Form → Bool = λ y f. has_fixed (row_of f).fixed q y in
    let all = either_true (is_apart q) _ apart agreed in
    let looks = left (list_all (looks_at_few os) (forms_of q)) _ all in
    let all2 = right (list_all (looks_at_few os) (forms_of q)) _ all in
    let had_one = left (list_all (λ ws. is_some (find (fixed (at ws)) (forms_of q))) (all_stand_ins os)) _ all2 in
    let each = right (list_all (λ ws. is_some (find (fixed (at ws)) (forms_of q))) (all_stand_ins os)) _ all2 in
    let taken : AreTaken os (at z) = (ap (λ vs. at vs 0) (values_first 0 x), λ n. taken_at os z (suc n) t) in
    let stood = stood_for os z t in
    let same : find (fixed (at z)) (forms_of q) ≡ find (fixed (at stood.0)) (forms_of q) =
    find_same (fixed (at z)) (fixed (at stood.0)) (forms_of q) (λ f k.
    fixed_stands os q z stood.0 (row_of f).fixed stood.2 (all_of (looks_at_few os) (forms_of q) f looks k)) in
    let some : is_some (find (fixed (at z)) (forms_of q)) ≡ true =
    ap is_some same ∙ all_of (λ ws. is_some (find (fixed (at ws)) (forms_of q))) (all_stand_ins os) stood.0 had_one stood.1 in
    let f = form_of q (at z) in
    let found = found_one (fixed (at z)) (forms_of q) form.Data some in
    let few = all_of (looks_at_few os) (forms_of q) f looks found.0 in
    let had : may_have os q f ≡ true = may os q z (row_of f).fixed t few found.1 in
    let agree : form_agrees os q f ≡ true =
    implied (may_have os q f) (form_agrees os q f) had (all_of (λ g. not (may_have os q g) || form_agrees os q g)
    (forms_of q) f each found.0) in
    let own = left (agrees os q (row_of f)) _ agree in
    let own2 = right (agrees os q (row_of f)) _ agree in
    let plain = left (is_plain f) _ own2 in
    let own3 = right (is_plain f) _ own2 in
    let slot = left (is_instruction f) _ own3 in
    let target = bool_is _ _ (right (is_instruction f) _ own3) in
    let begins : begun (row_of f) q ≡ Some q =
    same_of (λ g. begun (row_of g) q) (λ g. Some q) (forms_had os q) f back
    (kept_form (λ g. not (is_apart q) && may_have os q g) f (forms_of q) found.0 (and_from _ _ (ap not apart) had)) in
    let own_sets = (agreement os q (row_of f) own).sets in
    let w : written q z ≡ z = as_they_are q z apart in
    record {
      choice = rw w (read_choice f _ (are_chosen os (row_of f).sets q (at z) own_sets taken));
      fits = rw w (fit_by os q (row_of f) (at z) own taken);
      label = target ∙ sym (target_is x);
      slot = slot;
      bare = rw w (none_missing os (row_of f).sets q (at z) own_sets taken);
      op = rw w (rw (read_by os x (row_of f) own begins taken found.1) (plain_settles f _ (untargeted x) plain));
    }

of_row_back : (r : Row) (i : Insn) (w : ℕ) → IsOfRow r i w → is_apart (opcode_of i.op) ≡ false → row_agrees r ≡ true
    → map (λ f. begun (row_of f) r.opcode) (forms_had (operands r) r.opcode) ≡ map (λ f. Some r.opcode) (forms_had (operands r) r.opcode)
    → ReadsBack i.op
of_row_back r i w m apart agreed back =
    of_opcode (operands r) i.op (taken_under_zero (operands r) i m.listed.takes) apart (rw m.opcode at agreed) (rw m.opcode at back)

-- Each instruction of a table whose rows agree with their forms is read back.
pub listed_back : (rs : List Row) (i : Insn) → list_all row_agrees rs ≡ true → OpcodesBack rs → IsListedBy rs i
    → is_apart (opcode_of i.op) ≡ false → ReadsBack i.op
listed_back rs i h b l apart =
    of_row_back (get_or rs l.1.row_index no_row) i l.0 (l.1.row no_row) apart (all_get row_agrees rs l.1.row_index no_row l.1.inside h)
    (same_at (λ r. map (λ f. begun (row_of f) r.opcode) (forms_had (operands r) r.opcode))
    (λ r. map (λ f. Some r.opcode) (forms_had (operands r) r.opcode)) rs l.1.row_index no_row b l.1.inside)
