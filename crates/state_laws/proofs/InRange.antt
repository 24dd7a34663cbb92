-- Writes in range keep the registers those of a state.
use Rattle.std.proofs.Common.{◌≡◌, ◌≢◌, ℕ, zero, suc, ◌+◌, ◌<◌, ◌≤◌, Bool, true, false, List, [], ◌∷◌, length, get_or, set, Option, Some, None, refl, sym, ◌∙◌, arith, length-set, get_or-set_other}
use Rattle.std.specs.Prelude.{IfSome}
use Rattle.std.specs.List.{AllByRecursion as Each}
use Rattle.std.proofs.lemmas.List.Elements.{All-set}
use Rattle.ia_meaning.specs.declared.limits.TheConstants.{STACK_LIMIT}
use Rattle.ia_meaning.specs.declared.state.Cell.{Cell}
use Rattle.ia_meaning.specs.declared.state.FrameShape.{FrameShape}
use Rattle.ia_meaning.specs.declared.state.Spot.{Spot}
use Rattle.ia_meaning.specs.declared.state.Spot.TheVariants.{Static, Stacked}
use Rattle.ia_meaning.specs.State.{zero_cell, Registers, IsWord, AreWords, AreCells, HasReservedZeros, AreRegisters}
use Rattle.ia_meaning.specs.declared.write.Write.{Write}
use Rattle.ia_meaning.specs.declared.write.Write.TheVariants.{SetStatic, SetCell, SetPredicate, SetBranch, SetUnat, SetPfs, SetLc, SetEc, SetFrame}
use Rattle.ia_meaning.specs.Writes.{resized, put, apply}
use Rattle.ia_meaning.specs.Names.{set_spot, set_predicate, predicate_spot}
use Rattle.ia_meaning.specs.Steps.{spilled, with_bit}
use Rattle.ia_meaning.proofs.Resizing.{length-resized, words-resized}
use Rattle.ia_meaning.proofs.PredicateIndexes.{place_some}
use Rattle.state_laws.proofs.FrameParts.{IsFrameWithin}
use Rattle.state_laws.proofs.Words.{with_bit_word}

-- The write has a value that its register may hold, and is none of r0 or p0.
abbrev pub IsInRange : Write → Type 0
IsInRange (SetStatic n c) = (n ≢ 0) × IsWord c.value
IsInRange (SetCell n c) = IsWord c.value
IsInRange (SetPredicate n b) = n ≢ 0
IsInRange (SetBranch n v) = IsWord v
IsInRange (SetUnat v) = IsWord v
IsInRange (SetPfs v) = IsWord v × HasReservedZeros v
IsInRange (SetLc v) = IsWord v
IsInRange (SetEc v) = v < 64
IsInRange (SetFrame cause f) = IsFrameWithin f

put_keeps : (w : Write) (r : Registers) → IsInRange w → AreRegisters r → AreRegisters (put w r)
put_keeps (SetStatic zero c) r fits h = absurd (fits.0 refl)
put_keeps (SetStatic (suc n) c) r fits h =
    let count : length (set r.statics (suc n) c) ≡ 32 = length-set r.statics (suc n) c ∙ h.static_count in
    let words : AreCells (set r.statics (suc n) c) = All-set (λ c. IsWord c.value) r.statics (suc n) c fits.1 h.statics in
    let zero : get_or (set r.statics (suc n) c) 0 zero_cell ≡ zero_cell =
    get_or-set_other r.statics (suc n) 0 c zero_cell (λ e. absurd (omega arith)) ∙ h.zero in
    assumption (count, words, zero, h)
put_keeps (SetCell n c) r fits h =
    let same : length (set r.cells n c) ≡ length r.cells = length-set r.cells n c in
    let count : length (set r.cells n c) ≡ r.frame.base + r.frame.sof = same ∙ h.cell_count in
    let most : length (set r.cells n c) ≤ STACK_LIMIT = omega (arith, h.most) in
    let words : AreCells (set r.cells n c) = All-set (λ c. IsWord c.value) r.cells n c fits h.cells in
    assumption (count, most, words, h)
put_keeps (SetPredicate n b) r fits h =
    let count : length (set r.predicates n b) ≡ 64 = length-set r.predicates n b ∙ h.predicate_count in
    let one : get_or (set r.predicates n b) 0 false ≡ true = get_or-set_other r.predicates n 0 b false (λ e. fits (sym e)) ∙ h.one in
    assumption (count, one, h)
put_keeps (SetBranch n v) r fits h =
    let count : length (set r.branches n v) ≡ 8 = length-set r.branches n v ∙ h.branch_count in
    let words : AreWords (set r.branches n v) = All-set IsWord r.branches n v fits h.branches in
    assumption (count, words, h)
put_keeps (SetUnat v) r fits h = assumption (fits, h)
put_keeps (SetPfs v) r fits h = assumption (fits, h)
put_keeps (SetLc v) r fits h = assumption (fits, h)
put_keeps (SetEc v) r fits h = assumption (fits, h)
put_keeps (SetFrame cause f) r fits h =
    let count : length (resized (f.base + f.sof) r.cells) ≡ f.base + f.sof = length-resized (f.base + f.sof) r.cells in
    let most : length (resized (f.base + f.sof) r.cells) ≤ STACK_LIMIT = omega (arith, fits.1) in
    let words : AreCells (resized (f.base + f.sof) r.cells) = words-resized (f.base + f.sof) r.cells h.cells in
    assumption (count, most, words, fits, h)

pub apply_keeps : (ws : List Write) (r : Registers) → Each IsInRange ws → AreRegisters r → AreRegisters (apply ws r)
apply_keeps [] r fits h = h
apply_keeps (w ∷ ws) r fits h = apply_keeps ws (put w r) fits.1 (put_keeps w r fits.0 h)

-- A spill keeps the registers in their ranges.
pub spilled_keeps : (o : Option (ℕ × Bool)) (r : Registers) → IfSome o (λ b. b.0 < 64) → AreRegisters r → AreRegisters (spilled o r)
spilled_keeps None r small h = h
spilled_keeps (Some b) r small h = put_keeps (SetUnat (with_bit r.unat b.0 b.1)) r (with_bit_word r.unat b.0 b.1 small h.unat) h

-- Writes of general registers and of predicates.
pub spot_in_range : (d : Spot) (c : Cell) (ws : List Write) → IsWord c.value → Each IsInRange ws → Each IsInRange (set_spot d c ws)
spot_in_range (Static zero) c ws h rest = rest
spot_in_range (Static (suc n)) c ws h rest = (((λ e. absurd (omega arith)), h), rest)
spot_in_range (Stacked n) c ws h rest = (h, rest)

pub predicate_in_range : (f : FrameShape) (p : ℕ) (b : Bool) (ws : List Write) → Each IsInRange ws
    → Each IsInRange (set_predicate (predicate_spot f p) b ws)
unfolding predicate_spot
predicate_in_range f zero b ws rest = rest
predicate_in_range f (suc p) b ws rest = (place_some f (suc p) (λ e. absurd (omega arith)), rest)
