-- The lexemes of a line by kind and text.
use Rattle.std.specs.Prelude.{ℕ, zero, suc, ◌+◌, Bool, true, false, ◌==◌, if◌then◌else◌, List, [], ◌∷◌, take}
use Rattle.asm_lexemes.specs.declared.lexeme.LexemeKind.{LexemeKind}
use Rattle.asm_lexemes.specs.Bytes.{is_blank, is_name_byte}
use Rattle.asm_lexemes.specs.Lexemes.{begins_comment, kind_at, more_at, sharp_at}

-- The lexemes of the bytes by kind and text; the first `skip` bytes are done already.
abbrev pub lexed : ℕ → List ℕ → List (LexemeKind × List ℕ)
lexed skip [] = []
lexed (suc k) (c ∷ cs) = lexed k cs
lexed zero (c ∷ cs) =
    if is_blank c then lexed 0 cs
    else (if begins_comment c cs then []
    else (kind_at c cs, c ∷ take (more_at c cs) cs) ∷ lexed (more_at c cs + sharp_at c cs) cs)

-- What may follow a name or a number.
abbrev pub is_end : List ℕ → Bool
is_end [] = true
is_end (c ∷ cs) = if is_name_byte c then false else (if c == 35 then false else true)
