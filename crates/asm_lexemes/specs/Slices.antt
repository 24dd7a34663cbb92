-- The lexemes of a line are parts of it, and what they leave out is no lexeme.
use Rattle.std.specs.Prelude.{◌≡◌, ℕ, ◌<◌, ◌≤◌, Bool, true, false, ◌==◌, if◌then◌else◌, List, [], ◌∷◌, length, drop, slice_range}
use Rattle.std.specs.List.{All, list_all}
use Rattle.asm_lexemes.specs.declared.lexeme.LexemeKind.{LexemeKind}
use Rattle.asm_lexemes.specs.declared.lexeme.Lexeme.{Lexeme}
use Rattle.asm_lexemes.specs.Bytes.{is_blank}
use Rattle.asm_lexemes.specs.Lexemes.{begins_comment, pick}

-- A nonempty part of n bytes.
abbrev pub IsPart : ℕ → Lexeme → Type 0
IsPart n w = (w.start < w.end) × (w.end ≤ n)

-- The first lexeme begins at the position or after it, and each other at the end of the one before or after it.
abbrev pub AreInOrder : ℕ → List Lexeme → Type 0
AreInOrder at [] = Unit {0}
AreInOrder at (w ∷ ws) = (at ≤ w.start) × AreInOrder w.end ws

-- The lexemes are nonempty parts of the line, in order, of which no two share a byte.
pub record AreSlices (line : List ℕ) (ws : List Lexeme) : Type 0 where
  pub parts : All (IsPart (length line)) ws
  pub order : AreInOrder 0 ws

abbrev pub is_name : LexemeKind → Bool
is_name k = pick k true false false false

-- Directly after a name, what follows its `#`.
abbrev pub without_sharp : Bool → List ℕ → List ℕ
without_sharp false cs = cs
without_sharp true [] = []
without_sharp true (c ∷ cs) = if c == 35 then cs else c ∷ cs

-- Only spaces and tabs, and before them, directly after a name, one `#`.
abbrev pub is_gap : Bool → List ℕ → Bool
is_gap after_name cs = list_all is_blank (without_sharp after_name cs)

-- Spaces and tabs to the end, or to a comment.
abbrev pub is_rest : List ℕ → Bool
is_rest [] = true
is_rest (c ∷ cs) = if is_blank c then is_rest cs else begins_comment c cs

-- Between the position and the first lexeme, and between two lexemes, only a gap is left out; after the last
-- lexeme a gap, and a comment where there is one.
abbrev pub LeavesOutGaps : List ℕ → Bool → ℕ → List Lexeme → Type 0
LeavesOutGaps line after_name at [] = is_rest (without_sharp after_name (drop at line)) ≡ true
LeavesOutGaps line after_name at (w ∷ ws) =
    (is_gap after_name (slice_range line at w.start) ≡ true) × LeavesOutGaps line (is_name w.kind) w.end ws
