-- A canonical slot line has at most 119 bytes: two spaces, a predicate of at most 6, a mnemonic and operands of at
-- most 107 together, a space between them, and a stop of at most 3.
use Rattle.std.proofs.Common.{◌≡◌, refl, ℕ, suc, ◌+◌, ◌<◌, ◌≤◌, ◌^◌, Bool, true, false, cond, leb, eqb, List, [], ◌∷◌, ◌++◌, length, Option, Some, None, arith, codes, lit<}
use Rattle.std.specs.Prelude.{flat_map, IfSome}
use Rattle.std.specs.List.{AllByRecursion, list_all}
use Rattle.std.specs.Fmt.{decimal}
use Rattle.std.proofs.lemmas.Fmt.{length-decimal-le}
use Rattle.std.proofs.lemmas.Bool.{leb-true}
use Rattle.std.proofs.lemmas.List.{length-append}
use Rattle.ia_insn.specs.declared.insn.Insn.{Insn}
use Rattle.ia_insn.specs.declared.registers.Ar.TheVariants as ar
use Rattle.ia_program.proofs.Tests.{left, right}
use Rattle.asm_lexemes.specs.declared.tokens.Token.{Token}
use Rattle.asm_lexemes.specs.declared.tokens.Token.TheVariants as t
use Rattle.asm_forms.specs.declared.completer.Completer.{Completer}
use Rattle.asm_forms.specs.declared.form.Form.{Form}
use Rattle.asm_forms.specs.declared.items.FormItem.{FormItem}
use Rattle.asm_forms.specs.declared.items.FormItem.TheVariants.{Is, Takes}
use Rattle.asm_forms.specs.declared.items.Kind.{Kind}
use Rattle.asm_forms.specs.declared.items.Kind.TheVariants as k
use Rattle.asm_forms.specs.Completers.{text_of}
use Rattle.asm_forms.specs.Items.{fixed_token, filled, prints, fits}
use Rattle.asm_forms.specs.Naming.{completers_in}
use Rattle.asm_forms.specs.Rows.{rows, row_of}
use Rattle.asm_forms.proofs.Clear.{products}
use Rattle.asm_forms.proofs.RowBack.{of_products}
use Rattle.asm_forms.proofs.RowFacts.{of_row}
use Rattle.asm_printing.specs.declared.limits.TheConstants.{SLOT_LINE_LIMIT}
use Rattle.asm_printing.proofs.Rooms.{decimal_is_short, hex_is_short}
use Rattle.asm_printing.specs.SlotTexts.{is_hex, token_text, operands_text, or_zero, spaced, predicate_text, mnemonic_text, stop_text, slot_text, target_of}
use Rattle.asm_text.proofs.Mnemonic.{name_of_op}
use Rattle.asm_canonical.proofs.Written.{form_of, completers_of, operands_of, items_of, tokens_of, IsPrinted}

-- The most bytes of the text of a token.
abbrev token_room : Token → ℕ
token_room (t.Gr n) = 4
token_room (t.Pr n) = 3
token_room (t.Br n) = 2
token_room (t.Ar a) = 7
token_room t.Predicates = 2
token_room t.RotatingPredicates = 6
token_room t.Ip = 2
token_room t.Name = 12
token_room (t.Number negative m) = 21
token_room _ = 1

-- The most bytes of the text of an operand of a kind.
abbrev kind_room : Kind → ℕ
kind_room k.Gr = 4
kind_room k.Pr = 3
kind_room k.Br = 2
kind_room k.Ar = 7
kind_room k.Label = 12
kind_room (k.Number field) = 21

abbrev items_room : List FormItem → ℕ
items_room [] = 0
items_room (Is fixed ∷ is) = token_room (fixed_token fixed) + items_room is
items_room (Takes kind n ∷ is) = kind_room kind + items_room is

kind_fits : (kind : Kind) (x : Token) → prints kind x ≡ true → token_room x ≡ kind_room kind
kind_fits k.Gr (t.Gr n) h = refl
kind_fits k.Pr (t.Pr n) h = refl
kind_fits k.Br (t.Br n) h = refl
kind_fits k.Ar (t.Ar a) h = refl
kind_fits k.Label t.Name h = refl
kind_fits (k.Number field) (t.Number negative m) h = refl
kind_fits kind x h = cc

-- The word of a row, any completers of its sets and its operands have at most 107 bytes.
rows_short : list_all (λ r. list_all (λ cs. leb (length r.stem + length (flat_map text_of cs) + items_room r.items) 107) (products r.sets))
    rows ≡ true
rows_short = refl

row_is_short : (f : Form) (cs : List Completer) → completers_in (row_of f).sets (flat_map text_of cs) ≡ Some cs
    → length (mnemonic_text f cs) + items_room (row_of f).items ≤ 107
row_is_short f cs h =
    let each =
    of_row (λ r. list_all (λ ds. leb (length r.stem + length (flat_map text_of ds) + items_room r.items) 107) (products r.sets)) f
    rows_short in
    let all =
    leb-true _ _ (of_products (λ ds. leb (length (row_of f).stem + length (flat_map text_of ds) + items_room (row_of f).items) 107)
    (row_of f).sets (flat_map text_of cs) cs each h) in
    let both = length-append (row_of f).stem (flat_map text_of cs) in
    omega (arith, all, both)

-- The text of an operand fits in its room.
token_is_short : (target : ℕ) (hex : Bool) (x : Token) → target < 2 ^ 34 → IsPrinted x → length (token_text target hex x) ≤ token_room x
token_is_short target hex (t.Gr n) l p = let d = length-decimal-le 3 n (lit< tt) (omega arith) (omega arith) in omega (arith, d)
token_is_short target hex (t.Pr n) l p = let d = length-decimal-le 2 n (lit< tt) (omega arith) (omega arith) in omega (arith, d)
token_is_short target hex (t.Br n) l p = let d = length-decimal-le 1 n (lit< tt) (omega arith) (omega arith) in omega (arith, d)
token_is_short target hex (t.Ar ar.Unat) l p = omega arith
token_is_short target hex (t.Ar ar.Pfs) l p = omega arith
token_is_short target hex (t.Ar ar.Lc) l p = omega arith
token_is_short target hex (t.Ar ar.Ec) l p = omega arith
token_is_short target hex t.Predicates l p = omega arith
token_is_short target hex t.RotatingPredicates l p = omega arith
token_is_short target hex t.Ip l p = omega arith
token_is_short target hex t.Name l p = let d = length-decimal-le 11 target (lit< tt) (omega arith) (omega arith) in omega (arith, d)
token_is_short target false (t.Number false m) l p = let d = decimal_is_short m p in omega (arith, d)
token_is_short target false (t.Number true m) l p = let d = decimal_is_short m p in omega (arith, d)
token_is_short target true (t.Number false m) l p = let d = hex_is_short 15 m (omega arith) p in omega (arith, d)
token_is_short target true (t.Number true m) l p = let d = hex_is_short 15 m (omega arith) p in omega (arith, d)
token_is_short target hex t.Equals l p = omega arith
token_is_short target hex t.Comma l p = omega arith
token_is_short target hex t.OpenBracket l p = omega arith
token_is_short target hex t.CloseBracket l p = omega arith
token_is_short target hex x l p = absurd p

-- The text of operands fits in their room.
operands_are_short : (target : ℕ) (is : List FormItem) (xs : List Token) → target < 2 ^ 34 → fits is xs ≡ true
    → AllByRecursion IsPrinted (filled is xs) → length (operands_text target is xs) ≤ items_room is
operands_are_short target [] xs l h p = omega arith
operands_are_short target (Is fixed ∷ is) xs l h p =
    let one = token_is_short target false (fixed_token fixed) l p.0 in
    let more = operands_are_short target is xs l h p.1 in
    let both = length-append (token_text target false (fixed_token fixed)) (operands_text target is xs) in
    omega (arith, one, more, both)
operands_are_short target (Takes kind n ∷ is) [] l h p = omega arith
operands_are_short target (Takes kind n ∷ is) (x ∷ xs) l h p =
    let one = token_is_short target (is_hex kind) x l p.0 in
    let same = kind_fits kind x (left (prints kind x) (fits is xs) h) in
    let more = operands_are_short target is xs l (right (prints kind x) (fits is xs) h) p.1 in
    let both = length-append (token_text target (is_hex kind) x) (operands_text target is xs) in
    omega (arith, one, same, more, both)

-- The space before operands is one byte.
spaced_is_short : (cs : List ℕ) → length (spaced cs) ≤ suc (length cs)
spaced_is_short [] = omega arith
spaced_is_short (c ∷ cs) = omega arith

-- A stop has at most 3 bytes.
stop_is_short : (stop : Bool) → length (stop_text stop) ≤ 3
stop_is_short true = omega arith
stop_is_short false = omega arith

-- A predicate has at most 6 bytes.
guard_is_short : (b : Bool) (qp : ℕ) → qp < 64 → length (cond b [] (codes "(p" ++ decimal qp ++ codes ") ")) ≤ 6
guard_is_short true qp h = omega arith
guard_is_short false qp h =
    let d = length-decimal-le 2 qp (lit< tt) (omega arith) (omega arith) in
    let both = length-append (decimal qp) (codes ") ") in
    omega (arith, d, both)

-- The parts of a line, by their lengths.
parts_are_short : (pr m d s : List ℕ) → length pr ≤ 6 → length m + length d ≤ 108 → length s ≤ 3
    → length (codes "  " ++ pr ++ m ++ d ++ s) ≤ SLOT_LINE_LIMIT
parts_are_short pr m d s hp hd hs =
    let a = length-append (pr ++ m ++ d) s in
    let b = length-append (pr ++ m) d in
    let e = length-append pr m in
    omega (arith, hp, hd, hs, a, b, e)

-- 0 counts where there is no target.
pub small_target : (target : Option ℕ) → IfSome target (λ n. n < 2 ^ 34) → or_zero target < 2 ^ 34
small_target None h = omega arith
small_target (Some n) h = h

-- The canonical line of an instruction whose completers and operands are those of its row, and whose operands can be
-- printed, is short.
pub slot_line_is_short : (i : Insn) (bundle : ℕ) (stop : Bool)
    → completers_in (row_of (form_of i.op)).sets (flat_map text_of (completers_of i.op)) ≡ Some (completers_of i.op)
    → fits (items_of i.op) (operands_of i.op) ≡ true
    → AllByRecursion IsPrinted (tokens_of i.op) → i.qp < 64 → IfSome (target_of bundle i.op) (λ n. n < 2 ^ 34)
    → length (slot_text i bundle stop) ≤ SLOT_LINE_LIMIT
slot_line_is_short i bundle stop choice fit printed small near =
    let target = or_zero (target_of bundle i.op) in
    let text = operands_text target (items_of i.op) (operands_of i.op) in
    let operands = operands_are_short target (items_of i.op) (operands_of i.op) (small_target (target_of bundle i.op) near) fit printed in
    let row = row_is_short (form_of i.op) (completers_of i.op) choice in
    let gap = spaced_is_short text in
    parts_are_short (predicate_text i.qp) (name_of_op i.op) (spaced text) (stop_text stop)
    (guard_is_short (eqb i.qp 0) i.qp small) (omega (arith, operands, row, gap)) (stop_is_short stop)
