-- What a lexeme may be read as.
use Rattle.std.specs.Prelude.{ℕ, nat_le, if◌then◌else◌, List, length, Option, Some, None, codes}
use Rattle.std.specs.Str.{bytes_eq}
use Rattle.asm_lexemes.specs.declared.limits.TheConstants.{NAME_LIMIT}
use Rattle.asm_lexemes.specs.declared.tokens.Token.{Token}
use Rattle.asm_lexemes.specs.declared.tokens.Token.TheVariants as t
use Rattle.asm_lexemes.specs.declared.lexeme.LexemeKind.{LexemeKind}
use Rattle.asm_lexemes.specs.declared.lexeme.LexemeKind.TheVariants as lexeme
use Rattle.asm_lexemes.specs.Bytes.{begins_letter}
use Rattle.asm_lexemes.specs.Numbers.{number_token}
use Rattle.asm_lexemes.specs.Registers.{register_of}

-- A name that is no register, by its first byte and its length.
abbrev pub unregistered_name : List ℕ → Token
unregistered_name name =
    if begins_letter name then (if nat_le (length name) NAME_LIMIT then t.Name else t.LongName)
    else (if nat_le (length name) NAME_LIMIT then t.Symbol else t.LongSymbol)

abbrev or_other_name : Option Token → List ℕ → Token
or_other_name (Some register) name = register
or_other_name None name = unregistered_name name

abbrev pub name_token : List ℕ → Token
name_token name = or_other_name (register_of name) name

abbrev pub quoted_token : List ℕ → Token
quoted_token lexeme = if bytes_eq lexeme (codes "\"mutex\"") then t.Mutex else t.Quoted

abbrev pub mark_token : List ℕ → Token
mark_token mark =
    if bytes_eq mark (codes "=") then t.Equals
    else (if bytes_eq mark (codes ",") then t.Comma
    else (if bytes_eq mark (codes "[") then t.OpenBracket
    else (if bytes_eq mark (codes "]") then t.CloseBracket
    else (if bytes_eq mark (codes "(") then t.OpenParenthesis
    else (if bytes_eq mark (codes ")") then t.CloseParenthesis
    else (if bytes_eq mark (codes "{") then t.OpenBrace
    else (if bytes_eq mark (codes "}") then t.CloseBrace
    else (if bytes_eq mark (codes ":") then t.Colon
    else (if bytes_eq mark (codes ";;") then t.Stop
    else t.OtherMark)))))))))

-- What a lexeme of this kind and text may be read as.
abbrev pub token_of : LexemeKind → List ℕ → Token
token_of lexeme.Name text = name_token text
token_of lexeme.Number text = number_token text
token_of lexeme.Quoted text = quoted_token text
token_of lexeme.Mark text = mark_token text
