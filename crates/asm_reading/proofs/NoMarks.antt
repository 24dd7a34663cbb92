-- A name is never read as a mark.
use Rattle.std.proofs.Common.{◌≡◌, refl, sym, ℕ, Bool, true, false, not, ◌&&◌, cond, eqb, List, [], ◌∷◌, Option, Some, None}
use Rattle.std.specs.Option.{option_map}
use Rattle.std.specs.Str.{bytes_eq}
use Rattle.std.proofs.lemmas.Bool.{not-true}
use Rattle.ia_program.proofs.Tests.{left, right}
use Rattle.asm_lexemes.specs.declared.tokens.Token.{Token}
use Rattle.asm_lexemes.specs.declared.tokens.Token.TheVariants as t
use Rattle.asm_lexemes.specs.declared.lexeme.LexemeKind.{LexemeKind}
use Rattle.asm_lexemes.specs.declared.lexeme.LexemeKind.TheVariants as kind
use Rattle.asm_lexemes.specs.Bytes.{begins_letter}
use Rattle.asm_lexemes.specs.Registers.{look_up, aliases, alias_of, numbered, numbered_register, register_of}
use Rattle.asm_lexemes.specs.Tokens.{unregistered_name, name_token, token_of}
use Rattle.asm_lexemes.specs.Lexemes.{pick}
use Rattle.asm_reading.specs.Lines.{is_open, is_close, is_colon}

abbrev is_mark : Token → Bool
is_mark t.Equals = true
is_mark t.Comma = true
is_mark t.OpenBracket = true
is_mark t.CloseBracket = true
is_mark t.OpenParenthesis = true
is_mark t.CloseParenthesis = true
is_mark t.OpenBrace = true
is_mark t.CloseBrace = true
is_mark t.Colon = true
is_mark t.Stop = true
is_mark t.OtherMark = true
is_mark _ = false

abbrev some_mark : Option Token → Bool
some_mark None = false
some_mark (Some x) = is_mark x

abbrev no_marks : List (List ℕ × Token) → Bool
no_marks [] = true
no_marks (e ∷ es) = not (is_mark e.1) && no_marks es

look_no_mark : (es : List (List ℕ × Token)) (name : List ℕ) → no_marks es ≡ true → some_mark (look_up es name) ≡ false
look_no_mark [] name h = refl
look_no_mark (e ∷ es) name h =
    elim (bytes_eq name e.0) as (λ b. some_mark (cond b (Some e.1) (look_up es name)) ≡ false)
    [ true ↦ not-true _ (left _ _ h) | false ↦ look_no_mark es name (right (not (is_mark e.1)) _ h) ]

register_no_mark : (f : ℕ → Token) → ((n : ℕ) → is_mark (f n) ≡ false) → (r : Option ℕ) → some_mark (option_map f r) ≡ false
register_no_mark f h None = refl
register_no_mark f h (Some n) = h n

either_no_mark : (b : Bool) (x y : Option Token) → some_mark x ≡ false → some_mark y ≡ false → some_mark (cond b x y) ≡ false
either_no_mark true x y h k = h
either_no_mark false x y h k = k

numbered_no_mark : (name : List ℕ) → some_mark (numbered_register name) ≡ false
numbered_no_mark [] = refl
numbered_no_mark (c ∷ ds) =
    either_no_mark (eqb c 114) _ _ (register_no_mark (λ n. t.Gr n) (λ n. refl) (numbered 128 ds))
    (either_no_mark (eqb c 112) _ _ (register_no_mark (λ n. t.Pr n) (λ n. refl) (numbered 64 ds))
    (either_no_mark (eqb c 98) _ _ (register_no_mark (λ n. t.Br n) (λ n. refl) (numbered 8 ds)) refl))

one_of : (b : Bool) (x y : Token) → is_mark x ≡ false → is_mark y ≡ false → is_mark (cond b x y) ≡ false
one_of true x y h k = h
one_of false x y h k = k

other_no_mark : (name : List ℕ) → is_mark (unregistered_name name) ≡ false
other_no_mark name = one_of (begins_letter name) _ _ (one_of _ t.Name t.LongName refl refl) (one_of _ t.Symbol t.LongSymbol refl refl)

abbrev or_numbered : Option Token → List ℕ → Option Token
or_numbered (Some register) name = Some register
or_numbered None name = numbered_register name

abbrev or_other_name : Option Token → List ℕ → Token
or_other_name (Some register) name = register
or_other_name None name = unregistered_name name

or_numbered_no_mark : (x : Option Token) (name : List ℕ) → some_mark x ≡ false → some_mark (or_numbered x name) ≡ false
or_numbered_no_mark (Some register) name h = h
or_numbered_no_mark None name h = numbered_no_mark name

or_other_no_mark : (x : Option Token) (name : List ℕ) → some_mark x ≡ false → is_mark (or_other_name x name) ≡ false
or_other_no_mark (Some register) name h = h
or_other_no_mark None name h = other_no_mark name

name_no_mark : (name : List ℕ) → is_mark (name_token name) ≡ false
name_no_mark name = or_other_no_mark (register_of name) name (or_numbered_no_mark (alias_of name) name (look_no_mark aliases name refl))

-- A name is no opening parenthesis.
not_open : (x : Token) → is_mark x ≡ false → is_open x ≡ false
not_open t.OpenParenthesis h = cc
not_open x h = refl

not_close : (x : Token) → is_mark x ≡ false → is_close x ≡ false
not_close t.CloseParenthesis h = cc
not_close x h = refl

not_colon : (x : Token) → is_mark x ≡ false → is_colon x ≡ false
not_colon t.Colon h = cc
not_colon x h = refl

pub name_is_not_open : (name : List ℕ) → is_open (name_token name) ≡ false
name_is_not_open name = not_open (name_token name) (name_no_mark name)

named_mark : (k : LexemeKind) (text : List ℕ) → pick k true false false false ≡ true → is_mark (token_of k text) ≡ false
named_mark kind.Name text h = name_no_mark text
named_mark kind.Number text h = cc
named_mark kind.Quoted text h = cc
named_mark kind.Mark text h = cc

pub name_opens_nothing : (k : LexemeKind) (text : List ℕ) → pick k true false false false ≡ true → false ≡ is_open (token_of k text)
name_opens_nothing k text h = sym (not_open (token_of k text) (named_mark k text h))

pub name_closes_nothing : (k : LexemeKind) (text : List ℕ) → pick k true false false false ≡ true → false ≡ is_close (token_of k text)
name_closes_nothing k text h = sym (not_close (token_of k text) (named_mark k text h))

pub name_is_no_colon : (k : LexemeKind) (text : List ℕ) → pick k true false false false ≡ true → false ≡ is_colon (token_of k text)
name_is_no_colon k text h = sym (not_colon (token_of k text) (named_mark k text h))
