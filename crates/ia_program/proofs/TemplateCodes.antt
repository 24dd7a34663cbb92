-- The units and the stops of a template say its code.
use Rattle.std.proofs.Common.{◌≡◌, ℕ, ◌+◌, ◌*◌, ◌/◌, ◌<◌, List, [], ◌∷◌, Bool, true, false, arith, ap, refl, ◌∙◌, cond, eqb}
use Rattle.std.specs.Prelude.{◌&&◌, is_some}
use Rattle.std.proofs.lemmas.Bool.{eqb-true, eq-eqb}
use Rattle.std.proofs.lemmas.Bool.Decides.{nat_tests}
use Rattle.std.specs.Cmp.Derive.{both_true}
use Rattle.ia_insn.specs.declared.choices.Unit.{Unit as ExecutionUnit}
use Rattle.ia_insn.specs.declared.choices.Unit.TheVariants.{M, I, F, B, L, X}
use Rattle.ia_program.specs.Templates.{shape_of, IsTemplate, units_of, stops_of}
use Rattle.ia_program.proofs.Tests.{all_below, below}

picked : (test answer : Bool) → cond test answer true ≡ true → test ≡ true → answer ≡ true
picked true answer h is = h
picked false answer h is = absurd (cc)

-- A number for the units and the stops.
abbrev digit : ExecutionUnit → ℕ
digit M = 0
digit I = 1
digit F = 2
digit B = 3
digit L = 4
digit X = 5

abbrev key_of : List ExecutionUnit → List ℕ → ℕ
key_of [] [] = 0
key_of [] (stop ∷ stops) = 1 + stop + 4 * key_of [] stops
key_of (unit ∷ units) stops = digit unit + 6 * key_of units stops

abbrev key : ℕ → ℕ
key code = key_of (units_of code) (stops_of code)

-- Two templates with one number have one code.
abbrev is_one : ℕ → ℕ → Bool
is_one a b = cond (is_some (shape_of (a / 2)) && (is_some (shape_of (b / 2)) && eqb (key a) (key b))) (eqb a b) true

computed : all_below (λ a. all_below (is_one a) 32) 32 ≡ true
computed = refl

pub one_template : (a b : ℕ) → a < 32 → b < 32 → IsTemplate a → IsTemplate b → units_of a ≡ units_of b → stops_of a ≡ stops_of b → a ≡ b
one_template a b h k first second units stops =
    let row : all_below (is_one a) 32 ≡ true = below (λ a. all_below (is_one a) 32) 32 a computed h in
    let here : is_one a b ≡ true = below (is_one a) 32 b row k in
    let keys : key a ≡ key b = ap (λ us. key_of us (stops_of a)) units ∙ ap (key_of (units_of b)) stops in
    eqb-true a b (picked _ _ here (both_true first (both_true second (eq-eqb (key a) (key b) keys))))

-- A code is below 32.
pub code_small : (code : ℕ) → IsTemplate code → code < 32
code_small code h = grind (arith, nat_tests)
