-- The registers that names spell.
use Rattle.std.specs.Prelude.{ℕ, Bool, true, false, not, ◌||◌, nat_lt, ◌==◌, if◌then◌else◌, List, [], ◌∷◌, Option, Some, None, codes}
use Rattle.std.specs.Option.{option_map}
use Rattle.std.specs.Str.{bytes_eq}
use Rattle.std.specs.Str.Parse.{digits_value}
use Rattle.ia_insn.specs.declared.registers.Ar.TheVariants as ar
use Rattle.asm_lexemes.specs.declared.tokens.Token.{Token}
use Rattle.asm_lexemes.specs.declared.tokens.Token.TheVariants as t
use Rattle.asm_lexemes.specs.Numbers.{are_digits}

-- The first entry's value under the name.
abbrev pub look_up : List (List ℕ × Token) → List ℕ → Option Token
look_up [] name = None
look_up (e ∷ es) name = if bytes_eq name e.0 then Some e.1 else look_up es name

-- The registers with names of their own.
abbrev pub aliases : List (List ℕ × Token)
aliases =
    (codes "gp", t.Gr 1) ∷ (codes "sp", t.Gr 12) ∷ (codes "tp", t.Gr 13)
    ∷ (codes "ret0", t.Gr 8) ∷ (codes "ret1", t.Gr 9) ∷ (codes "ret2", t.Gr 10) ∷ (codes "ret3", t.Gr 11)
    ∷ (codes "rp", t.Br 0)
    ∷ (codes "ar.unat", t.Ar ar.Unat) ∷ (codes "ar.pfs", t.Ar ar.Pfs) ∷ (codes "ar.lc", t.Ar ar.Lc) ∷ (codes "ar.ec", t.Ar ar.Ec)
    ∷ (codes "pr", t.Predicates) ∷ (codes "pr.rot", t.RotatingPredicates) ∷ (codes "ip", t.Ip) ∷ []

abbrev pub alias_of : List ℕ → Option Token
alias_of name = look_up aliases name

-- No digit, or a zero before others.
abbrev pub has_needless_zero : List ℕ → Bool
has_needless_zero [] = true
has_needless_zero (c ∷ []) = false
has_needless_zero (c ∷ d ∷ ds) = c == 48

-- A number below the limit, spelled with no needless zero.
abbrev pub numbered : ℕ → List ℕ → Option ℕ
numbered limit ds =
    if not (are_digits 10 ds) || has_needless_zero ds then None
    else (if nat_lt (digits_value 10 ds) limit then Some (digits_value 10 ds) else None)

-- `r0` to `r127`, `p0` to `p63` and `b0` to `b7`
abbrev pub numbered_register : List ℕ → Option Token
numbered_register [] = None
numbered_register (c ∷ ds) =
    if c == 114 then option_map (λ n. t.Gr n) (numbered 128 ds)
    else (if c == 112 then option_map (λ n. t.Pr n) (numbered 64 ds)
    else (if c == 98 then option_map (λ n. t.Br n) (numbered 8 ds)
    else None))

abbrev or_numbered : Option Token → List ℕ → Option Token
or_numbered (Some register) name = Some register
or_numbered None name = numbered_register name

-- The register that a name spells, by a name of its own or by its number.
abbrev pub register_of : List ℕ → Option Token
register_of name = or_numbered (alias_of name) name
