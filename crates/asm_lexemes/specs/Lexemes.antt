-- The lexemes of a line.
use Rattle.std.specs.Prelude.{ℕ, zero, suc, ◌+◌, Bool, true, false, ◌&&◌, ◌==◌, if◌then◌else◌, List, [], ◌∷◌, drop}
use Rattle.std.specs.List.{list_any}
use Rattle.asm_lexemes.specs.declared.lexeme.LexemeKind.{LexemeKind}
use Rattle.asm_lexemes.specs.declared.lexeme.LexemeKind.TheVariants.{Name, Number, Quoted, Mark}
use Rattle.asm_lexemes.specs.declared.lexeme.Lexeme.{Lexeme}
use Rattle.asm_lexemes.specs.Bytes.{is_blank, is_plain_byte, has_only_plain, is_digit_byte, is_name_byte, begins_digit, begins_with}

-- How many bytes at the front belong to names and numbers.
abbrev pub name_run : List ℕ → ℕ
name_run [] = 0
name_run (c ∷ cs) = if is_name_byte c then name_run cs + 1 else 0

-- A quotation mark is among the bytes.
abbrev pub has_quote : List ℕ → Bool
has_quote cs = list_any (λ c. c == 34) cs

-- How many bytes there are up to the first quotation mark, it among them, or all where there is none.
abbrev pub quoted_run : List ℕ → ℕ
quoted_run [] = 0
quoted_run (c ∷ cs) = if c == 34 then 1 else quoted_run cs + 1

-- The kind of the lexeme that begins with c, where cs follows.
abbrev pub kind_at : ℕ → List ℕ → LexemeKind
kind_at c cs =
    if is_digit_byte c then Number
    else (if is_name_byte c then Name
    else (if (c == 45) && begins_digit cs then Number
    else (if (c == 34) && has_quote cs then Quoted
    else Mark)))

-- A value for each kind.
abbrev pub pick : {A : Type 0} → LexemeKind → A → A → A → A → A
pick Name a b q m = a
pick Number a b q m = b
pick Quoted a b q m = q
pick Mark a b q m = m

-- How many bytes after c belong to its lexeme: a run of bytes of names, all up to the second quotation mark, or
-- the second `;` of a stop.
abbrev pub more_at : ℕ → List ℕ → ℕ
more_at c cs = pick (kind_at c cs) (name_run cs) (name_run cs) (quoted_run cs) (if (c == 59) && begins_with 59 cs then 1 else 0)

-- A `#` directly after a name belongs to no lexeme.
abbrev pub has_sharp : LexemeKind → List ℕ → Bool
has_sharp k rest = pick k (begins_with 35 rest) false false false

-- How many bytes after the lexeme of c belong to no lexeme for that reason.
abbrev pub sharp_at : ℕ → List ℕ → ℕ
sharp_at c cs = if has_sharp (kind_at c cs) (drop (more_at c cs) cs) then 1 else 0

-- c and what follows begin a comment, `//`.
abbrev pub begins_comment : ℕ → List ℕ → Bool
begins_comment c cs = (c == 47) && begins_with 47 cs

-- The lexemes of the bytes, the first of which stands at the position `at` of the line. The first `skip`
-- bytes are done already: they belong to the lexeme before, or are the `#` after it.
abbrev pub lexemes_from : ℕ → ℕ → List ℕ → List Lexeme
lexemes_from skip at [] = []
lexemes_from (suc k) at (c ∷ cs) = lexemes_from k (at + 1) cs
lexemes_from zero at (c ∷ cs) =
    if is_blank c then lexemes_from 0 (at + 1) cs
    else (if begins_comment c cs then []
    else record { kind = kind_at c cs; start = at; end = at + 1 + more_at c cs }
    ∷ lexemes_from (more_at c cs + sharp_at c cs) (at + 1) cs)

-- A lexeme of the kind has only plain bytes, c and these: a name or a number always has.
abbrev pub is_plain_lexeme : LexemeKind → ℕ → List ℕ → Bool
is_plain_lexeme k c cs = pick k true true (is_plain_byte c && has_only_plain cs) (is_plain_byte c && has_only_plain cs)
