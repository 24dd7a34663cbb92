-- How many lines texts have.
use Rattle.std.proofs.Common.{◌≡◌, ℕ, zero, suc, ◌+◌, ◌/◌, ◌%◌, ◌==◌, true, false, cond, nat_lt, List, [], ◌∷◌, ◌++◌, refl, ◌∙◌, ne_eqb, arith}
use Rattle.std.specs.Prelude.{codes, decimal}
use Rattle.std.proofs.lemmas.List.Sums.{sum_by-append}
use Rattle.std.specs.Fmt.{digit_glyph, digits, digits_onto}
use Rattle.ia_program.specs.declared.ending.GroupEvent.{GroupEvent}
use Rattle.ia_program.specs.declared.ending.How.{How}
use Rattle.ia_program.specs.declared.ending.How.TheVariants.{Falls, Taken, Ends}
use Rattle.watch_seam.specs.Watchers.{Sort, WatchState, HasALineAGroup, fresh, after, line, line_count, how_text, event_text}

joined : (a b : List ℕ) → line_count (a ++ b) ≡ line_count a + line_count b
unfolding line_count
joined a b = sum_by-append (λ (byte : ℕ). cond (byte == 10) 1 0) a b

-- A byte that is no line feed adds none.
within : (byte : ℕ) (text : List ℕ) → byte == 10 ≡ false → line_count (byte ∷ text) ≡ line_count text
unfolding line_count
within byte text plain = rw plain

digit_in_line : (d : ℕ) → digit_glyph false d == 10 ≡ false
digit_in_line d =
    elim (nat_lt d 10) as (λ t. cond t (48 + d) (87 + d) == 10 ≡ false)
    [ true ↦ ne_eqb (48 + d) 10 (λ e. omega (arith, e)) | false ↦ ne_eqb (87 + d) 10 (λ e. omega (arith, e)) ]

digits_in_line : (k n : ℕ) (text : List ℕ) → line_count (digits_onto k 10 false n text) ≡ line_count text
digits_in_line zero n text = refl
digits_in_line (suc k) n text =
    let digit = digit_glyph false (n % 10) in
    let one = within digit text (digit_in_line (n % 10)) in
    elim (n / 10 == 0) as (λ t. line_count (cond t (digit ∷ text) (digits_onto k 10 false (n / 10) (digit ∷ text))) ≡ line_count text)
    [ true ↦ one | false ↦ digits_in_line k (n / 10) (digit ∷ text) ∙ one ]

none : line_count [] ≡ 0
unfolding line_count
none = refl

decimal_in_line : (n : ℕ) → line_count (decimal n) ≡ 0
unfolding digits
decimal_in_line n = digits_in_line 64 n [] ∙ none

how_in_line : (how : How) → line_count (how_text how) ≡ 0
unfolding line_count
how_in_line Falls = refl
how_in_line Taken = refl
how_in_line Ends = refl

space_in_line : line_count (codes " ") ≡ 0
unfolding line_count
space_in_line = refl

dot_in_line : (text : List ℕ) → line_count (46 ∷ text) ≡ line_count text
dot_in_line text = within 46 text refl

event_in_line : (e : GroupEvent) → line_count (event_text e) ≡ 0
event_in_line e = simp (joined, dot_in_line, space_in_line, decimal_in_line, how_in_line)

one_more : (text : List ℕ) → line_count (line text) ≡ line_count text + 1
unfolding line_count
one_more text = joined text (10 ∷ [])

pub at_first : (sort : Sort) (fill : ℕ) → HasALineAGroup (fresh sort fill)
at_first sort fill is = rw is none

pub after_one : (w : WatchState) (e : GroupEvent) → HasALineAGroup w → HasALineAGroup (after w e)
after_one w e before is =
    let so_far : line_count w.lines ≡ w.groups = rw is at before refl in
    rw is (omega (arith, so_far, joined w.lines (line (event_text e)), one_more (event_text e), event_in_line e))
