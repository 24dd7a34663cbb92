-- A printed slot line is read as the instruction that was printed, and its stop.
use Rattle.std.proofs.Common.{◌≡◌, refl, sym, ◌∙◌, ap, ℕ, zero, suc, ◌-◌, ◌<◌, ◌^◌, Bool, true, false, ◌&&◌, cond, eqb, List, [], ◌∷◌, ◌++◌, length, take, Option, Some, None, Ok, Result, arith, append_assoc, append-nil, codes}
use Rattle.std.specs.Prelude.{flat_map, IfSome, unwrap_or, slice_get}
use Rattle.std.specs.List.{AllByRecursion, find}
use Rattle.std.specs.Option.{option_map}
use Rattle.std.specs.Fmt.{decimal}
use Rattle.std.proofs.lemmas.Bool.{eqb-true, cond-true, cond-false}
use Rattle.std.proofs.lemmas.List.{length-append}
use Rattle.std.proofs.Math.Seq.{drop-append_seam}
use Rattle.asm_lexemes.specs.declared.tokens.Token.{Token}
use Rattle.asm_lexemes.specs.declared.tokens.Token.TheVariants as t
use Rattle.asm_lexemes.specs.declared.lexeme.LexemeKind.TheVariants as kind
use Rattle.asm_lexemes.specs.declared.fault.LineFault.{LineFault}
use Rattle.asm_lexemes.specs.declared.fault.LineFault.TheVariants as fault
use Rattle.asm_lexemes.specs.Bytes.{has_only_plain}
use Rattle.asm_lexemes.proofs.Lexed.{lexed, is_end}
use Rattle.asm_lexemes.specs.Tokens.{name_token, token_of}
use Rattle.asm_lexemes.proofs.Bridge.{lexemes_lexed}
use Rattle.asm_lexemes.proofs.Lexing.{name_lexed}
use Rattle.asm_lexemes.proofs.Readings.{pr_reads, decimal_is_name_bytes, decimal_is_plain, name_bytes_are_plain, both_plain}
use Rattle.asm_forms.specs.declared.form.Form.{Form}
use Rattle.asm_forms.specs.declared.items.FormItem.{FormItem}
use Rattle.asm_forms.specs.Items.{is_stop, taken}
use Rattle.asm_forms.specs.declared.completer.Completer.{Completer}
use Rattle.asm_forms.specs.Completers.{text_of}
use Rattle.asm_forms.specs.Naming.{completers_in, named_forms}
use Rattle.asm_forms.specs.Rows.{row_of}
use Rattle.asm_forms.proofs.Fits.{taken_back}
use Rattle.ia_insn.specs.declared.insn.Insn.{Insn}
use Rattle.ia_insn.specs.declared.insn.Op.{Op}
use Rattle.ia_insn.specs.Displacements.{displacement}
use Rattle.asm_forms.proofs.RowBack.{row_back}
use Rattle.asm_forms.specs.Spelled.{is_spelled}
use Rattle.asm_matching.specs.Matching.{read_form}
use Rattle.asm_instructions.specs.Instructions.{op_of}
use Rattle.asm_reading.specs.declared.line.Draft.{Draft}
use Rattle.asm_reading.specs.declared.line.Line.{Line}
use Rattle.asm_reading.specs.declared.line.Line.TheVariants as line
use Rattle.asm_reading.specs.Lines.{◌>>=◌, or_fault, KindAndText, tokens, label_name, is_open, is_close, lead_at, led_at, is_some_stop, ends_in_stop, without_stop, predicate_of, is_bare, draft_of, completers_or_none, slot_of, line_led_by_name, line_without_label, is_name_lexeme, is_colon, line_of, reading_of}
use Rattle.asm_printing.specs.SlotTexts.{label_text, spaced, mnemonic_text, predicate_text, stop_text, target_of, or_zero, slot_text}
use Rattle.asm_reading.proofs.NoMarks.{name_is_not_open}
use Rattle.asm_reading.proofs.SlotForms.{slot_first, found_read}
use Rattle.asm_text.proofs.Mnemonic.{name_of_op, mnemonic_bytes, mnemonic_lexed}
use Rattle.asm_canonical.proofs.Written.{form_of, completers_of, operands_of, items_of, tokens_of, IsPrinted}
use Rattle.asm_text.proofs.Short.{small_target}
use Rattle.asm_text.specs.ReadBack.{untargeted}
use Rattle.asm_text.proofs.FirstForm.{named_slots}
use Rattle.asm_text.proofs.ItemFacts.{as_many, row_apart, label_token_of}
use Rattle.asm_text.proofs.OperandTexts.{are_apart, label_token, tokens_text, filled_text, operands_plain, operands_back, label_found, label_missing}
use Rattle.asm_text.proofs.WayBack.{ReadsBack}

-- The stop at the end.
abbrev stops : Bool → List Token
stops stop = cond stop (t.Stop ∷ []) []

go : (xs : List Token) (x : Token) → slice_get (xs ++ x ∷ []) (length xs) ≡ Some x
go [] x = refl
go (y ∷ xs) x = go xs x

got_at : (xs : List Token) (x : Token) (n : ℕ) → n ≡ length xs → slice_get (xs ++ x ∷ []) n ≡ Some x
got_at xs x n e = rw e (go xs x)

took : (xs : List Token) (x : Token) → take (length xs) (xs ++ x ∷ []) ≡ xs
took [] x = refl
took (y ∷ xs) x = ap (λ ys. y ∷ ys) (took xs x)

took_at : (xs : List Token) (x : Token) (n : ℕ) → n ≡ length xs → take n (xs ++ x ∷ []) ≡ xs
took_at xs x n e = rw e (took xs x)

last_of : (xs : List Token) (x : Token) → length (xs ++ x ∷ []) - 1 ≡ length xs
last_of xs x = omega (arith, length-append xs (x ∷ []))

-- No printed operand is a stop or a colon.
not_stop : (x : Token) → IsPrinted x → is_stop x ≡ false
not_stop t.Stop h = absurd h
not_stop x h = refl

not_colon : (x : Token) → IsPrinted x → is_colon x ≡ false
not_colon t.Colon h = absurd h
not_colon x h = refl

no_stop_at : (xs : List Token) (n : ℕ) → AllByRecursion IsPrinted xs → is_some_stop (slice_get xs n) ≡ false
no_stop_at [] n h = refl
no_stop_at (x ∷ xs) zero h = not_stop x h.0
no_stop_at (x ∷ xs) (suc n) h = no_stop_at xs n h.1

ends_with : (xs : List Token) (stop : Bool) → AllByRecursion IsPrinted xs → ends_in_stop (xs ++ stops stop) ≡ stop
ends_with xs true h = rw (got_at xs t.Stop (length (xs ++ t.Stop ∷ []) - 1) (last_of xs t.Stop)) refl
ends_with xs false h = rw (append-nil xs) (no_stop_at xs (length xs - 1) h)

without : (xs : List Token) (stop : Bool) → AllByRecursion IsPrinted xs → without_stop (xs ++ stops stop) ≡ xs
without xs true h = rw (ends_with xs true h) (took_at xs t.Stop (length (xs ++ t.Stop ∷ []) - 1) (last_of xs t.Stop))
without xs false h = rw (ends_with xs false h) (append-nil xs)

-- A line whose second word is no colon is no label.
abbrev begins_colon : List Token → Bool
begins_colon [] = false
begins_colon (x ∷ xs) = is_colon x

operands_begin : (xs : List Token) (stop : Bool) → AllByRecursion IsPrinted xs → begins_colon (xs ++ stops stop) ≡ false
operands_begin [] true h = refl
operands_begin [] false h = refl
operands_begin (x ∷ xs) stop h = not_colon x h.0

neither : {A : Type 0} (a b : Bool) (x y : A) → b ≡ false → cond (a && b) x y ≡ y
neither true b x y h = rw h refl
neither false b x y h = refl

no_label : (w : KindAndText) (ws : List KindAndText) → begins_colon (tokens ws) ≡ false → line_of (w ∷ ws) ≡ line_without_label (w ∷ ws)
no_label w [] h = refl
no_label w (x ∷ ws) h = neither (is_name_lexeme w) (is_colon (token_of x.0 x.1)) _ _ h

-- The words before the leading one.
lead_first : (m : List ℕ) (ws : List KindAndText) → lead_at (tokens ((kind.Name, m) ∷ ws)) ≡ Some 0
lead_first m ws = cond-false (is_open (name_token m)) _ (Some 0) (name_is_not_open m)

lead_fourth : (x : Token) (xs : List Token) → is_close x ≡ false → lead_at (t.OpenParenthesis ∷ x ∷ t.CloseParenthesis ∷ xs) ≡ Some 3
lead_fourth x xs h = rw h refl

-- The instruction of a slot line and its target.
abbrev draft : ℕ → Op → Option (List ℕ) → Bool → Draft
draft qp x name bare = record { insn = record { qp = qp; op = x }; target = name; bare = bare }

same_draft : (qp : ℕ) (x : Op) (name printed : Option (List ℕ)) (bare : Bool) → name ≡ printed → bare ≡ false
    → draft qp x name bare ≡ draft qp x printed false
same_draft qp x name printed bare e f = rw (e, f) refl

abbrev slot_by : Result ℕ LineFault → Result Form LineFault → (Form → Option Op) → (Form → ℕ → Op → Draft) → Bool → Result Line LineFault
slot_by q r build drafted e = do
  qp ← q
  f ← r
  x ← or_fault (build f) fault.Form
  Ok (line.Slot (drafted f qp x) e)

joined : (q : Result ℕ LineFault) (r : Result Form LineFault) (build : Form → Option Op) (drafted : Form → ℕ → Op → Draft) (e : Bool)
    (qp : ℕ) (f : Form) (x : Op) (d : Draft) (stop : Bool)
    → q ≡ Ok qp → r ≡ Ok f → build f ≡ Some x → drafted f qp x ≡ d → e ≡ stop → slot_by q r build drafted e ≡ Ok (line.Slot d stop)
joined q r build drafted e qp f x d stop eq er eb ed ee = rw (eq, er, eb, ed, ee) refl

-- The completers after a word are those of the form.
own_completers : (f : Form) (cs : List Completer) → completers_in (row_of f).sets (flat_map text_of cs) ≡ Some cs
    → completers_or_none f (mnemonic_text f cs) ≡ cs
own_completers f cs h =
    ap (λ text. unwrap_or (completers_in (row_of f).sets text) []) (drop-append_seam (row_of f).stem (flat_map text_of cs))
    ∙ ap (λ o. unwrap_or o []) h

-- The words after the leading one are read as the instruction that was printed.
slot_reads : (x : Op) (before after : List KindAndText) (qp : ℕ) (name : Option (List ℕ)) (stop : Bool) → ReadsBack x
    → AllByRecursion IsPrinted (tokens_of x) → predicate_of (tokens before) ≡ Ok qp
    → tokens after ≡ tokens_of x ++ stops stop → label_name (items_of x) after ≡ name
    → slot_of (named_forms (name_of_op x)) (name_of_op x) before after ≡ Ok (line.Slot (draft qp (untargeted x) name false) stop)
slot_reads x before after qp name stop back printed p seen n =
    let forms = named_forms (name_of_op x) in
    let f = form_of x in
    let w : without_stop (tokens after) ≡ tokens_of x = ap without_stop seen ∙ without (tokens_of x) stop printed in
    let found : find (is_spelled (tokens_of x)) forms ≡ Some f = row_back f (completers_of x) (operands_of x) back.choice back.fits in
    let cs : completers_or_none f (name_of_op x) ≡ completers_of x = own_completers f (completers_of x) back.choice in
    let xs : taken (items_of x) (without_stop (tokens after)) ≡ operands_of x =
    ap (taken (items_of x)) w ∙ taken_back (items_of x) (operands_of x) back.fits in
    let bare : is_bare (completers_or_none f (name_of_op x)) ≡ false = ap is_bare cs ∙ back.bare in
    joined (predicate_of (tokens before)) (read_form forms (without_stop (tokens after)) (tokens after))
    (λ g. op_of g (completers_or_none g (name_of_op x)) (taken (row_of g).items (without_stop (tokens after))))
    (λ g q y. draft_of g (completers_or_none g (name_of_op x)) q after y) (ends_in_stop (tokens after))
    qp f (untargeted x) (draft qp (untargeted x) name false) stop
    p
    (ap (λ ys. read_form forms ys (tokens after)) w ∙ found_read forms (tokens_of x) (tokens after) f found)
    (ap (op_of f (completers_or_none f (name_of_op x))) xs ∙ ap (λ q. op_of f q (operands_of x)) cs ∙ back.op)
    (same_draft qp (untargeted x) (label_name (items_of x) after) name (is_bare (completers_or_none f (name_of_op x))) n bare)
    (ap ends_in_stop seen ∙ ends_with (tokens_of x) stop printed)

-- The words of a line with the mnemonic before them are read as the instruction that was printed.
worded_reads : (x : Op) (before after : List KindAndText) (qp : ℕ) (name : Option (List ℕ)) (stop : Bool) → ReadsBack x
    → AllByRecursion IsPrinted (tokens_of x) → predicate_of (tokens before) ≡ Ok qp
    → tokens after ≡ tokens_of x ++ stops stop → label_name (items_of x) after ≡ name
    → line_led_by_name (name_of_op x) before after ≡ Ok (line.Slot (draft qp (untargeted x) name false) stop)
worded_reads x before after qp name stop back printed p seen n =
    let found = row_back (form_of x) (completers_of x) (operands_of x) back.choice back.fits in
    slot_first (named_forms (name_of_op x)) (is_spelled (tokens_of x)) (form_of x)
    (name_of_op x) before after (named_slots (form_of x) (completers_of x) back.slot) found
    ∙ slot_reads x before after qp name stop back printed p seen n

led_from : (ws : List KindAndText) (k : ℕ) → lead_at (tokens ws) ≡ Some k → line_without_label ws ≡ led_at ws (Some k)
led_from ws k e = ap (led_at ws) e

-- A line with no predicate: the mnemonic and what follows it.
plain_value : (x : Op) (rest : List ℕ) (name : Option (List ℕ)) (stop : Bool) → ReadsBack x → AllByRecursion IsPrinted (tokens_of x)
    → is_end rest ≡ true
    → tokens (lexed 0 rest) ≡ tokens_of x ++ stops stop → label_name (items_of x) (lexed 0 rest) ≡ name
    → line_of (lexed 0 (name_of_op x ++ rest)) ≡ Ok (line.Slot (draft 0 (untargeted x) name false) stop)
plain_value x rest name stop back printed e seen n =
    let m = name_of_op x in
    let ws = lexed 0 rest in
    ap line_of (mnemonic_lexed (form_of x) (completers_of x) rest e)
    ∙ no_label (kind.Name, m) ws (ap begins_colon seen ∙ operands_begin (tokens_of x) stop printed)
    ∙ led_from ((kind.Name, m) ∷ ws) 0 (lead_first m ws)
    ∙ worded_reads x [] ws 0 name stop back printed refl seen n

guarded_lexed : (qp : ℕ) (after : List ℕ) → qp < 64 → lexed 0 (codes "(p" ++ decimal qp ++ codes ") " ++ after)
    ≡ (kind.Mark, codes "(") ∷ (kind.Name, 112 ∷ decimal qp) ∷ (kind.Mark, codes ")") ∷ lexed 0 after
guarded_lexed qp after small =
    ap (λ y. lexed 0 (40 ∷ 112 ∷ y)) (append_assoc (decimal qp) (codes ") ") after)
    ∙ ap (λ y. (kind.Mark, codes "(") ∷ y) (name_lexed 112 (decimal qp)
    (41 ∷ 32 ∷ after) refl refl (decimal_is_name_bytes qp (omega arith)) refl)

-- A line with a predicate before the mnemonic.
guarded_value : (x : Op) (qp : ℕ) (rest : List ℕ) (name : Option (List ℕ)) (stop : Bool) → ReadsBack x
    → AllByRecursion IsPrinted (tokens_of x) → qp < 64 → is_end rest ≡ true
    → tokens (lexed 0 rest) ≡ tokens_of x ++ stops stop → label_name (items_of x) (lexed 0 rest) ≡ name
    → line_of (lexed 0 (codes "(p" ++ decimal qp ++ codes ") " ++ (name_of_op x ++ rest)))
    ≡ Ok (line.Slot (draft qp (untargeted x) name false) stop)
guarded_value x qp rest name stop back printed small e seen n =
    let m = name_of_op x in
    let ws = lexed 0 rest in
    let before : List KindAndText = (kind.Mark, codes "(") ∷ (kind.Name, 112 ∷ decimal qp) ∷ (kind.Mark, codes ")") ∷ [] in
    let reads = pr_reads qp small in
    let cut : lexed 0 (codes "(p" ++ decimal qp ++ codes ") " ++ (m ++ rest))
    ≡ (kind.Mark, codes "(") ∷ (kind.Name, 112 ∷ decimal qp) ∷ (kind.Mark, codes ")") ∷ (kind.Name, m) ∷ ws =
    guarded_lexed qp (m ++ rest) small ∙ ap (λ y. (kind.Mark, codes "(") ∷ (kind.Name, 112 ∷ decimal qp) ∷ (kind.Mark, codes ")") ∷ y)
    (mnemonic_lexed (form_of x) (completers_of x) rest e) in
    let qualified : predicate_of (tokens before) ≡ Ok qp = ap (λ y. predicate_of (t.OpenParenthesis ∷ y ∷ t.CloseParenthesis ∷ [])) reads in
    ap line_of cut
    ∙ led_from ((kind.Mark, codes "(") ∷ (kind.Name, 112 ∷ decimal qp) ∷ (kind.Mark, codes ")") ∷ (kind.Name, m) ∷ ws) 3
    (lead_fourth (token_of kind.Name (112 ∷ decimal qp)) (token_of kind.Name m ∷ tokens ws) (ap is_close reads))
    ∙ worded_reads x before ws qp name stop back printed qualified seen n

predicated : (b : Bool) (x : Op) (qp : ℕ) (rest : List ℕ) (name : Option (List ℕ)) (stop : Bool) → eqb qp 0 ≡ b → ReadsBack x
    → AllByRecursion IsPrinted (tokens_of x) → qp < 64 → is_end rest ≡ true
    → tokens (lexed 0 rest) ≡ tokens_of x ++ stops stop → label_name (items_of x) (lexed 0 rest) ≡ name
    → line_of (lexed 0 (cond b [] (codes "(p" ++ decimal qp ++ codes ") ") ++ (name_of_op x ++ rest)))
    ≡ Ok (line.Slot (draft qp (untargeted x) name false) stop)
predicated true x qp rest name stop z back printed small e seen n =
    plain_value x rest name stop back printed e seen n ∙ ap (λ q. Ok (line.Slot (draft q (untargeted x) name false) stop))
    (sym (eqb-true qp 0 z))
predicated false x qp rest name stop z back printed small e seen n = guarded_value x qp rest name stop back printed small e seen n

-- What stands after the mnemonic.
tail_ends : (text : List ℕ) (stop : Bool) → is_end (spaced text ++ stop_text stop) ≡ true
tail_ends [] true = refl
tail_ends [] false = refl
tail_ends (c ∷ cs) stop = refl

stop_ends : (stop : Bool) → is_end (stop_text stop) ≡ true
stop_ends true = refl
stop_ends false = refl

stop_seen : (stop : Bool) → tokens (lexed 0 (stop_text stop)) ≡ stops stop
stop_seen true = refl
stop_seen false = refl

spaced_lexed : (text cs : List ℕ) → lexed 0 (spaced text ++ cs) ≡ lexed 0 (text ++ cs)
spaced_lexed [] cs = refl
spaced_lexed (c ∷ text) cs = refl

-- The name of the line is the label of the target, where there is one.
label_back : (is : List FormItem) (xs : List Token) (cs : List ℕ) (target : Option ℕ) → IfSome target (λ n. n < 2 ^ 34)
    → length is ≡ length xs → AllByRecursion IsPrinted xs → are_apart xs ≡ true → is_end cs ≡ true
    → label_token is xs ≡ option_map (λ n. t.Name) target → label_name is (lexed 0 (tokens_text (or_zero target) is xs ++ cs))
    ≡ option_map label_text target
label_back is xs cs None l n p a e h = label_missing 0 is xs cs (small_target None tt) n p a e h
label_back is xs cs (Some m) l n p a e h = label_found m is xs cs l n p a e h

-- Every byte of the line is plain.
spaced_plain : (cs : List ℕ) → has_only_plain cs ≡ true → has_only_plain (spaced cs) ≡ true
spaced_plain [] h = refl
spaced_plain (c ∷ cs) h = h

stop_plain : (stop : Bool) → has_only_plain (stop_text stop) ≡ true
stop_plain true = refl
stop_plain false = refl

predicate_plain : (b : Bool) (qp : ℕ) → qp < 64 → has_only_plain (cond b [] (codes "(p" ++ decimal qp ++ codes ") ")) ≡ true
predicate_plain true qp h = refl
predicate_plain false qp h = both_plain (decimal qp) (codes ") ") (decimal_is_plain qp (omega arith)) refl

parts_plain : (pr m text : List ℕ) (stop : Bool) → has_only_plain pr ≡ true → has_only_plain m ≡ true → has_only_plain text ≡ true
    → has_only_plain (codes "  " ++ pr ++ m ++ spaced text ++ stop_text stop) ≡ true
parts_plain pr m text stop hp hm ht =
    both_plain (pr ++ m ++ spaced text) (stop_text stop) (both_plain (pr ++ m) (spaced text) (both_plain pr m hp hm) (spaced_plain text ht))
    (stop_plain stop)

-- The two spaces are no words.
parts_lexed : (pr m d s : List ℕ) → lexed 0 (codes "  " ++ pr ++ m ++ d ++ s) ≡ lexed 0 (pr ++ (m ++ (d ++ s)))
parts_lexed pr m d s = ap (lexed 0) (append_assoc (pr ++ m) d s ∙ append_assoc pr m (d ++ s))

pub read_plain : (bytes : List ℕ) → has_only_plain bytes ≡ true → reading_of bytes ≡ line_of (lexed 0 bytes)
read_plain bytes h = cond-true (has_only_plain bytes) _ _ h ∙ ap line_of (lexemes_lexed bytes)

-- The operands of a line by the number of their target.
line_back : (x : Op) (qp : ℕ) (target : Option ℕ) (stop : Bool) → ReadsBack x → AllByRecursion IsPrinted (tokens_of x) → qp < 64
    → are_apart (tokens_of x) ≡ true
    → length (items_of x) ≡ length (tokens_of x) → IfSome target (λ n. n < 2 ^ 34)
    → label_token (items_of x) (tokens_of x) ≡ option_map (λ n. t.Name) target
    → reading_of (codes "  " ++ predicate_text qp ++ name_of_op x ++ spaced
    (tokens_text (or_zero target) (items_of x) (tokens_of x)) ++ stop_text stop)
    ≡ Ok (line.Slot (draft qp (untargeted x) (option_map label_text target) false) stop)
line_back x qp target stop back printed small apart same near names =
    let is = (items_of x) in
    let m = name_of_op x in
    let text = tokens_text (or_zero target) is (tokens_of x) in
    let rest = spaced text ++ stop_text stop in
    let l : or_zero target < 2 ^ 34 = small_target target near in
    let seen : tokens (lexed 0 rest) ≡ tokens_of x ++ stops stop =
    ap tokens (spaced_lexed text (stop_text stop)) ∙ operands_back (or_zero target) is (tokens_of x)
    (stop_text stop) l same printed apart (stop_ends stop) ∙ ap (λ ys. tokens_of x ++ ys) (stop_seen stop) in
    let name : label_name is (lexed 0 rest) ≡ option_map label_text target =
    ap (label_name is) (spaced_lexed text (stop_text stop)) ∙ label_back is (tokens_of x)
    (stop_text stop) target near same printed apart (stop_ends stop) names in
    read_plain (codes "  " ++ predicate_text qp ++ m ++ spaced text ++ stop_text stop)
    (parts_plain (predicate_text qp) m text stop (predicate_plain (eqb qp 0) qp small)
    (name_bytes_are_plain m (mnemonic_bytes (form_of x) (completers_of x)))
    (operands_plain (or_zero target) is (tokens_of x) l printed))
    ∙ ap line_of (parts_lexed (predicate_text qp) m (spaced text) (stop_text stop))
    ∙ predicated (eqb qp 0) x qp rest (option_map label_text target) stop refl back printed small (tail_ends text stop) seen name

map_twice : {A B C : Type 0} (c : C) (f : A → B) (d : Option A) → option_map (λ a. c) d ≡ option_map (λ b. c) (option_map f d)
map_twice c f None = refl
map_twice c f (Some a) = refl

names_of : (bundle : ℕ) (x : Op) → option_map (λ d. t.Name) (displacement x) ≡ option_map (λ n. t.Name) (target_of bundle x)
names_of bundle x = map_twice t.Name _ (displacement x)

-- The canonical line of an instruction is read as that instruction, with the label of its target for the
-- displacement, and its stop.
pub slot_line_back : (i : Insn) (bundle : ℕ) (stop : Bool) → ReadsBack i.op → AllByRecursion IsPrinted (tokens_of i.op) → i.qp < 64
    → IfSome (target_of bundle i.op) (λ n. n < 2 ^ 34)
    → reading_of (slot_text i bundle stop) ≡ Ok (line.Slot (record {
      insn = record { qp = i.qp; op = untargeted i.op };
      target = option_map label_text (target_of bundle i.op);
      bare = false;
    }) stop)
slot_line_back i bundle stop back printed small near =
    let f = form_of i.op in
    let names = label_token_of f (operands_of i.op) (displacement i.op) back.fits back.label in
    ap (λ text. reading_of (codes "  " ++ predicate_text i.qp ++ name_of_op i.op ++ spaced text ++ stop_text stop))
    (filled_text (or_zero (target_of bundle i.op)) (items_of i.op) (operands_of i.op))
    ∙ line_back i.op i.qp (target_of bundle i.op) stop back printed small (row_apart f (operands_of i.op) back.fits)
    (as_many (items_of i.op) (operands_of i.op) back.fits) near (names ∙ names_of bundle i.op)
