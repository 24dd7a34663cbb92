-- Tokens are read from left to right: on a front of them as many are right as on all, or all of the front.
use Rattle.std.proofs.Common.{◌≡◌, ◌≤◌, ◌<◌, ◌∙◌, refl, sym, ap, ℕ, zero, suc, ◌+◌, ◌-◌, min, max, Bool, true, false, ◌&&◌, ◌==◌, if◌then◌else◌, cond, List, [], ◌∷◌, ◌++◌, length, take, drop, Option, Some, None, arith}
use Rattle.std.specs.Prelude.{slice_get, nat_lt}
use Rattle.std.specs.List.{list_any, find}
use Rattle.std.specs.Cmp.Lexicographic.{pointwise}
use Rattle.std.proofs.Math.Dec.{eqb-suc-suc, eqb-zero-suc}
use Rattle.std.proofs.Math.Numerals.{add-one}
use Rattle.std.proofs.lemmas.List.{length-take}
use Rattle.std.proofs.lemmas.Option.{slice_get_within}
use Rattle.ia_program.proofs.Tests.{left, right}
use Rattle.asm_lexemes.specs.declared.limits.TheConstants.{NUMBER_TOKEN_LIMIT}
use Rattle.asm_lexemes.specs.declared.tokens.Token.{Token}
use Rattle.asm_forms.specs.declared.form.Form.{Form}
use Rattle.asm_forms.specs.declared.items.FormItem.{FormItem}
use Rattle.asm_forms.specs.declared.items.NumberField.{NumberField}
use Rattle.asm_forms.specs.Items.{accepts, is_stop}
use Rattle.asm_forms.specs.Rows.{row_of}
use Rattle.asm_forms.specs.Spelled.{is_spelled}
use Rattle.asm_matching.specs.Matching.{agreed_items, is_stop_next, agreed, reach, fault_at, fault_of}
use Rattle.asm_matching.specs.Relations.{may_follow, agreed_relation, relation_fault}
use Rattle.asm_reading.specs.Lines.{is_some_stop, ends_in_stop, without_stop, data_field, data_item, agreed_data, data_fault}
use Rattle.asm_reading.specs.FaultOrder.{Operands, Numbers, Predicates, OfForms, operands_of, right_count, fault_among, IsFirstWrong}

-- On how many tokens items agree, token by token.
abbrev walked : List FormItem → List Token → ℕ
walked [] [] = 0
walked [] (x ∷ xs) = if is_stop x then 1 else 0
walked (i ∷ is) [] = 0
walked (i ∷ is) (x ∷ xs) = if accepts i x then walked is xs + 1 else 0

-- One more item and one more token.
same_test : (a l : ℕ) → (a + 1 == suc l) ≡ (a == l)
same_test a l = rw (add-one a) (eqb-suc-suc a l)

same_rest : (a : ℕ) (x : Token) (xs : List Token) → drop (a + 1) (x ∷ xs) ≡ drop a xs
same_rest a x xs = rw (add-one a) refl

pushed : (b : Bool) (a : ℕ) → (if b then a + 1 + 1 else a + 1) ≡ (if b then a + 1 else a) + 1
pushed true a = refl
pushed false a = refl

one_more : (a l : ℕ) (x : Token) (xs : List Token) (w : ℕ) → (if (a == l) && is_stop_next (drop a xs) then a + 1 else a) ≡ w
    → (if (a + 1 == suc l) && is_stop_next (drop (a + 1) (x ∷ xs)) then a + 1 + 1 else a + 1) ≡ w + 1
one_more a l x xs w h = rw (same_test a l, same_rest a x xs) (pushed ((a == l) && is_stop_next (drop a xs)) a ∙ ap (λ n. n + 1) h)

none_yet : (l : ℕ) (s : Bool) → (if (0 == suc l) && s then 0 + 1 else 0) ≡ 0
none_yet l s = rw (eqb-zero-suc l) refl

-- One item and one token.
one_walked : (i : FormItem) (is : List FormItem) (x : Token) (xs : List Token) → agreed is xs ≡ walked is xs
    → agreed (i ∷ is) (x ∷ xs) ≡ walked (i ∷ is) (x ∷ xs)
unfolding agreed
one_walked i is x xs h = elim (accepts i x) as (λ b.
    (if ((if b then agreed_items is xs + 1 else 0) == suc (length is))
    && is_stop_next (drop (if b then agreed_items is xs + 1 else 0) (x ∷ xs))
    then (if b then agreed_items is xs + 1 else 0) + 1 else (if b then agreed_items is xs + 1 else 0))
    ≡ (if b then walked is xs + 1 else 0)) [
      | true ↦ one_more (agreed_items is xs) (length is) x xs (walked is xs) h
      | false ↦ none_yet (length is) (is_stop_next (x ∷ xs))
    ]

agreed_walked : (items : List FormItem) (xs : List Token) → agreed items xs ≡ walked items xs
unfolding agreed
agreed_walked [] [] = refl
agreed_walked [] (x ∷ xs) = refl
agreed_walked (i ∷ is) [] = none_yet (length is) false
agreed_walked (i ∷ is) (x ∷ xs) = one_walked i is x xs (agreed_walked is xs)

-- One token more on both sides.
min_more : (n m : ℕ) (b : Bool) (k : ℕ) → k ≡ min n m → (if b then k + 1 else 0) ≡ min (suc n) (if b then m + 1 else 0)
min_more n m true k h = omega (arith, h)
min_more n m false k h = omega arith

min_none : (n : ℕ) (b : Bool) → (if b then 1 else 0) ≡ min (suc n) (if b then 1 else 0)
min_none n true = omega arith
min_none n false = omega arith

none_min : (m : ℕ) → 0 ≡ min 0 m
none_min m = omega arith

walked_none : (items : List FormItem) → walked items [] ≡ 0
walked_none [] = refl
walked_none (i ∷ is) = refl

walked_front : (items : List FormItem) (n : ℕ) (xs : List Token) → walked items (take n xs) ≡ min n (walked items xs)
walked_front items zero xs = walked_none items ∙ none_min (walked items xs)
walked_front [] (suc n) [] = omega arith
walked_front [] (suc n) (x ∷ xs) = min_none n (is_stop x)
walked_front (i ∷ is) (suc n) [] = omega arith
walked_front (i ∷ is) (suc n) (x ∷ xs) = min_more n (walked is xs) (accepts i x) (walked is (take n xs)) (walked_front is n xs)

one_at_most : (b : Bool) (n : ℕ) → (if b then 1 else 0) ≤ suc n
one_at_most true n = omega arith
one_at_most false n = omega arith

more_at_most : (b : Bool) (k n : ℕ) → k ≤ n → (if b then k + 1 else 0) ≤ suc n
more_at_most true k n h = omega (arith, h)
more_at_most false k n h = omega arith

walked_within : (items : List FormItem) (xs : List Token) → walked items xs ≤ length xs
walked_within [] [] = omega arith
walked_within [] (x ∷ xs) = one_at_most (is_stop x) (length xs)
walked_within (i ∷ is) [] = omega arith
walked_within (i ∷ is) (x ∷ xs) = more_at_most (accepts i x) (walked is xs) (length xs) (walked_within is xs)

-- The items of one form.
agreed_front : (items : List FormItem) (n : ℕ) (xs : List Token) → agreed items (take n xs) ≡ min n (agreed items xs)
agreed_front items n xs = rw (agreed_walked items (take n xs), agreed_walked items xs) (walked_front items n xs)

agreed_within : (items : List FormItem) (xs : List Token) → agreed items xs ≤ length xs
agreed_within items xs = rw (agreed_walked items xs) (walked_within items xs)

-- The forms of a lexeme.
reach_front : (forms : List Form) (n : ℕ) (xs : List Token) → reach forms (take n xs) ≡ min n (reach forms xs)
reach_front [] n xs = omega arith
reach_front (f ∷ fs) n xs = omega (arith, agreed_front (row_of f).items n xs, reach_front fs n xs)

reach_within : (forms : List Form) (xs : List Token) → reach forms xs ≤ length xs
reach_within [] xs = omega arith
reach_within (f ∷ fs) xs = omega (arith, agreed_within (row_of f).items xs, reach_within fs xs)

-- Numbers and commas.
data_front : (f : NumberField) (at n : ℕ) (xs : List Token) → agreed_data f at (take n xs) ≡ min n (agreed_data f at xs)
data_front f at zero xs = none_min (agreed_data f at xs)
data_front f at (suc n) [] = omega arith
data_front f at (suc n) (x ∷ xs) =
    min_more n (agreed_data f (at + 1) xs) (nat_lt at NUMBER_TOKEN_LIMIT && accepts (data_item f at) x) _ (data_front f (at + 1) n xs)

data_within : (f : NumberField) (at : ℕ) (xs : List Token) → agreed_data f at xs ≤ length xs
data_within f at [] = omega arith
data_within f at (x ∷ xs) = more_at_most (nat_lt at NUMBER_TOKEN_LIMIT && accepts (data_item f at) x) _ _ (data_within f (at + 1) xs)

-- Predicates and commas.
relation_front : (before : List Token) (n : ℕ) (xs : List Token) → agreed_relation before (take n xs) ≡ min n (agreed_relation before xs)
relation_front before zero xs = none_min (agreed_relation before xs)
relation_front before (suc n) [] = omega arith
relation_front before (suc n) (x ∷ xs) =
    min_more n (agreed_relation (before ++ x ∷ []) xs) (may_follow before x) _ (relation_front (before ++ x ∷ []) n xs)

relation_within : (before xs : List Token) → agreed_relation before xs ≤ length xs
relation_within before [] = omega arith
relation_within before (x ∷ xs) = more_at_most (may_follow before x) _ _ (relation_within (before ++ x ∷ []) xs)

-- How many tokens are right in a front: of numbers, of predicates and commas, and of the items of forms.
right_front : (z : Operands) (forms : List Form) (n : ℕ) (xs : List Token)
    → right_count z forms (take n xs) ≡ min n (right_count z forms xs)
right_front (Numbers z) forms n xs = data_front (data_field z) 0 n xs
right_front Predicates forms n xs = relation_front [] n xs
right_front OfForms forms n xs = reach_front forms n xs

pub right_within : (z : Operands) (forms : List Form) (xs : List Token) → right_count z forms xs ≤ length xs
right_within (Numbers z) forms xs = data_within (data_field z) 0 xs
right_within Predicates forms xs = relation_within [] xs
right_within OfForms forms xs = reach_within forms xs

-- Where no form goes further, the forms want on a front that goes further what they want on all the tokens.
wants_one : (items : List FormItem) (n at : ℕ) (xs : List Token) (p : Bool) → at < n → agreed items xs ≤ at
    → ((agreed items (take n xs) == at) && p) ≡ ((agreed items xs == at) && p)
wants_one items n at xs p less h =
    let same : agreed items (take n xs) ≡ agreed items xs = omega (arith, agreed_front items n xs, less, h) in
    rw same refl

wants_front : (p : Form → Bool) (forms : List Form) (n at : ℕ) (xs : List Token) → at < n → reach forms xs ≤ at
    → list_any (λ f. (agreed (row_of f).items (take n xs) == at) && p f) forms
    ≡ list_any (λ f. (agreed (row_of f).items xs == at) && p f) forms
wants_front p [] n at xs less h = refl
wants_front p (f ∷ fs) n at xs less h =
    rw (wants_one (row_of f).items n at xs (p f) less (omega (arith, h)), wants_front p fs n at xs less (omega (arith, h))) refl

token_front : (xs : List Token) (n at : ℕ) → at < n → slice_get (take n xs) at ≡ slice_get xs at
token_front xs zero at less = absurd (omega (arith, less))
token_front [] (suc n) at less = refl
token_front (x ∷ xs) (suc n) zero less = refl
token_front (x ∷ xs) (suc n) (suc at) less = token_front xs n at (omega (arith, less))

-- The fault at a token is the same where the tests that it goes by and the token are the same.
same_fault_at : (a b c d e f : Bool) (o p : Option Token) → a ≡ b → c ≡ d → e ≡ f → o ≡ p → fault_at a c e o ≡ fault_at b d f p
same_fault_at a b c d e f o p h k l m = rw (h, k, l, m) refl

forms_fault : (forms : List Form) (n at : ℕ) (xs : List Token) → at ≡ reach forms xs → at < n
    → fault_of forms (take n xs) ≡ fault_of forms xs
forms_fault forms n at xs is less =
    let most : reach forms xs ≤ at = omega (arith, is) in
    let same : reach forms (take n xs) ≡ at = omega (arith, reach_front forms n xs, is, less) in
    rw (same, sym is) (same_fault_at _ _ _ _ _ _ _ _
    (wants_front _ forms n at xs less most)
    (wants_front _ forms n at xs less most)
    (wants_front _ forms n at xs less most)
    (token_front xs n at less))

data_fault_front : (f : NumberField) (n at : ℕ) (xs : List Token) → at ≡ agreed_data f 0 xs → at < n
    → data_fault (agreed_data f 0 (take n xs)) (take n xs) ≡ data_fault (agreed_data f 0 xs) xs
data_fault_front f n at xs is less =
    let same : agreed_data f 0 (take n xs) ≡ at = omega (arith, data_front f 0 n xs, is, less) in
    rw (same, sym is, token_front xs n at less) refl

relation_fault_front : (n at : ℕ) (xs : List Token) → at ≡ agreed_relation [] xs → at < n
    → relation_fault (agreed_relation [] (take n xs)) (take n xs) ≡ relation_fault (agreed_relation [] xs) xs
relation_fault_front n at xs is less =
    let same : agreed_relation [] (take n xs) ≡ at = omega (arith, relation_front [] n xs, is, less) in
    rw (same, sym is, token_front xs n at less) refl

pub fault_front : (z : Operands) (forms : List Form) (xs : List Token)
    → fault_among z forms (take (right_count z forms xs + 1) xs) ≡ fault_among z forms xs
fault_front OfForms forms xs = forms_fault forms (reach forms xs + 1) (reach forms xs) xs refl (omega arith)
fault_front Predicates forms xs = relation_fault_front _ (agreed_relation [] xs) xs refl (omega arith)
fault_front (Numbers z) forms xs = data_fault_front (data_field z) _ (agreed_data (data_field z) 0 xs) xs refl (omega arith)

-- The first wrong token stands where as many are right, and nowhere else.
pub wrong_position : (forms : List Form) (xs : List Token) (at : ℕ) → IsFirstWrong forms xs at
    → (at ≡ right_count (operands_of forms) forms xs) × (right_count (operands_of forms) forms xs < length xs)
wrong_position forms xs at is =
    let most : right_count (operands_of forms) forms xs ≤ length xs = right_within (operands_of forms) forms xs in
    let right : right_count (operands_of forms) forms (take at xs) ≡ length (take at xs) = is.right in
    let wrong : ¬ (right_count (operands_of forms) forms (take (at + 1) xs) ≡ length (take (at + 1) xs)) = is.wrong in
    let front = right_front (operands_of forms) forms at xs in
    let more = right_front (operands_of forms) forms (at + 1) xs in (
      omega (arith, most, right, wrong, front, more, length-take at xs, length-take (at + 1) xs),
      omega (arith, most, right, wrong, front, more, length-take at xs, length-take (at + 1) xs),
    )

pub first_wrong : (forms : List Form) (xs : List Token) (at : ℕ) → at ≡ right_count (operands_of forms) forms xs → at < length xs
    → IsFirstWrong forms xs at
first_wrong forms xs at is inside = record {
  right = omega (arith, is, inside, right_front (operands_of forms) forms at xs, length-take at xs);
  wrong = λ all. omega (arith, is, inside, all, right_front (operands_of forms) forms (at + 1) xs, length-take (at + 1) xs);
}

-- Operands that a form has are right, and a stop after them.
spelled_within : (items : List FormItem) (xs : List Token) → pointwise accepts items xs ≡ true → length xs ≤ walked items xs
spelled_within [] [] h = omega arith
spelled_within [] (x ∷ xs) h = cc
spelled_within (i ∷ is) [] h = cc
spelled_within (i ∷ is) (x ∷ xs) h =
    let first : accepts i x ≡ true = left (accepts i x) _ h in
    let rest : length xs ≤ walked is xs = spelled_within is xs (right (accepts i x) _ h) in
    rw first (omega (arith, rest))

is_stop_some : (x y : Token) → Some x ≡ Some y → is_stop y ≡ true → is_stop x ≡ true
is_stop_some x y e h = cc

stopped_within : (items : List FormItem) (xs : List Token) (n : ℕ) (x : Token) → n + 1 ≡ length xs → slice_get xs n ≡ Some x
    → is_stop x ≡ true
    → pointwise accepts items (take n xs) ≡ true → length xs ≤ walked items xs
stopped_within items [] n x few is stop h = absurd (omega (arith, few))
stopped_within [] (y ∷ []) zero x few is stop h = rw (is_stop_some y x is stop) (omega arith)
stopped_within [] (y ∷ z ∷ xs) zero x few is stop h = absurd (omega (arith, few))
stopped_within (i ∷ is) (y ∷ xs) zero x few is_x stop h = cc
stopped_within [] (y ∷ xs) (suc n) x few is stop h = cc
stopped_within (i ∷ is) (y ∷ xs) (suc n) x few is_x stop h =
    let first : accepts i y ≡ true = left (accepts i y) _ h in
    let rest : length xs ≤ walked is xs = stopped_within is xs n x (omega (arith, few)) is_x stop (right (accepts i y) _ h) in
    rw first (omega (arith, rest))

-- The token before the stop is the last operand.
stop_at_end : (items : List FormItem) (xs : List Token) (o : Option Token) → slice_get xs (length xs - 1) ≡ o → is_some_stop o ≡ true
    → pointwise accepts items (take (length xs - 1) xs) ≡ true → length xs ≤ walked items xs
stop_at_end items xs None is stop h = cc
stop_at_end items xs (Some x) is stop h =
    let inside : length xs - 1 < length xs = slice_get_within xs (length xs - 1) x is in
    stopped_within items xs (length xs - 1) x (omega (arith, inside)) is stop h

or_stop : (items : List FormItem) (xs : List Token) (b : Bool) → ends_in_stop xs ≡ b
    → pointwise accepts items (if b then take (length xs - 1) xs else xs) ≡ true → length xs ≤ walked items xs
or_stop items xs true is h = stop_at_end items xs (slice_get xs (length xs - 1)) refl is h
or_stop items xs false is h = spelled_within items xs h

-- Where the operands are spelled, with a stop after them or without, the form has all the tokens.
pub spelled_all : (xs : List Token) (f : Form) → is_spelled xs f ≡ true → length xs ≤ agreed (row_of f).items xs
spelled_all xs f h = rw (agreed_walked (row_of f).items xs) (spelled_within (row_of f).items xs h)

pub spelled_with_stop : (xs : List Token) (f : Form) → is_spelled (without_stop xs) f ≡ true → length xs ≤ agreed (row_of f).items xs
spelled_with_stop xs f h = rw (agreed_walked (row_of f).items xs) (or_stop (row_of f).items xs (ends_in_stop xs) refl h)

-- Some form has all the tokens where one of the forms is found, whether that is the first one or one of the rest.
found_here : (b : Bool) (f g : Form) (o : Option Form) (n a r : ℕ) → (b ≡ true → n ≤ a) → (o ≡ Some g → n ≤ r) → cond b (Some f) o ≡ Some g
    → n ≤ max a r
found_here true f g o n a r h k e = let l : n ≤ a = h refl in omega (arith, l)
found_here false f g o n a r h k e = let l : n ≤ r = k e in omega (arith, l)

pub found_all : (p : Form → Bool) (xs : List Token) → ((f : Form) → p f ≡ true → length xs ≤ agreed (row_of f).items xs)
    → (forms : List Form) (g : Form) → find p forms ≡ Some g → length xs ≤ reach forms xs
found_all p xs all [] g e = cc
found_all p xs all (f ∷ fs) g e = found_here (p f) f g (find p fs) (length xs) _ _ (all f) (found_all p xs all fs g) e
