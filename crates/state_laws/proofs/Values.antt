-- What registers hold are words, and where they stand are keys of the ALAT.
use Rattle.std.proofs.Common.{◌≡◌, ◌≢◌, ℕ, zero, suc, ◌+◌, ◌-◌, ◌^◌, ◌<◌, ◌≤◌, ◌⊎◌, inl, inr, Bool, true, false, nat_lt, if◌then◌else◌, List, length, get_or, Option, Some, None, refl, subst, arith}
use Rattle.std.proofs.lemmas.Bool.{cases_lt}
use Rattle.std.proofs.lemmas.Bool.Decides.{nat_tests}
use Rattle.std.proofs.lemmas.List.{get_or_past}
use Rattle.std.proofs.lemmas.List.Elements.{All-get_or}
use Rattle.ia_meaning.specs.declared.limits.TheConstants.{STACK_LIMIT}
use Rattle.ia_insn.specs.declared.registers.Ar.{Ar}
use Rattle.ia_insn.specs.declared.registers.Ar.TheVariants as ar
use Rattle.ia_meaning.specs.declared.state.Cell.{Cell}
use Rattle.ia_meaning.specs.declared.state.FrameShape.{FrameShape}
use Rattle.ia_meaning.specs.declared.state.Spot.{Spot}
use Rattle.ia_meaning.specs.declared.state.Spot.TheVariants.{Static, Stacked}
use Rattle.ia_meaning.specs.declared.action.FetchSource.{FetchSource}
use Rattle.ia_meaning.specs.declared.action.FetchSource.TheVariants as source
use Rattle.ia_meaning.specs.State.{zero_cell, Registers, IsWord, AreWords, AreCells, IsFrame, AreRegisters, IsKey}
use Rattle.ia_meaning.specs.Names.{is_stacked, frame_index, spot, cell_at, look}
use Rattle.ia_meaning.specs.Moves.{application, source_value}
use Rattle.rotation.proofs.Indexes.{within}
use Rattle.state_laws.proofs.Words.{predicates_word}

-- What a register holds is a word.
cell_word : (xs : List Cell) → AreCells xs → (k : ℕ) → IsWord (get_or xs k zero_cell).value
cell_word xs h k = by_place (cases_lt k (length xs))
  where
    by_place : (k < length xs) ⊎ (length xs ≤ k) → IsWord (get_or xs k zero_cell).value
    by_place (inl l) = All-get_or (λ c. IsWord c.value) xs k zero_cell l h
    by_place (inr g) = rw (get_or_past xs k zero_cell g) (omega arith)

pub branch_word : (xs : List ℕ) → AreWords xs → (k : ℕ) → IsWord (get_or xs k 0)
branch_word xs h k = by_place (cases_lt k (length xs))
  where
    by_place : (k < length xs) ⊎ (length xs ≤ k) → IsWord (get_or xs k 0)
    by_place (inl l) = All-get_or IsWord xs k 0 l h
    by_place (inr g) = rw (get_or_past xs k 0 g) (omega arith)

same_cell : (a b : Cell) → Some a ≡ Some b → IsWord a.value → IsWord b.value
same_cell a b e h = let same : a ≡ b = cc in subst (λ (c : Cell). IsWord c.value) same h

spot_word : (r : Registers) → AreRegisters r → (o : Option Spot) (c : Cell) → cell_at r o ≡ Some c → IsWord c.value
spot_word r h None c e = absurd (cc)
spot_word r h (Some (Static k)) c e = same_cell (get_or r.statics k zero_cell) c e (cell_word r.statics h.statics k)
spot_word r h (Some (Stacked k)) c e = same_cell (get_or r.cells k zero_cell) c e (cell_word r.cells h.cells k)

pub look_word : (r : Registers) → AreRegisters r → (n : ℕ) (c : Cell) → look r n ≡ Some c → IsWord c.value
unfolding look
look_word r h zero c e = same_cell zero_cell c e (omega arith)
look_word r h (suc n) c e = spot_word r h (spot r.frame (suc n)) c e

-- The place of a register other than r0 is a key.
pub spot_key : (f : FrameShape) → IsFrame f → f.base + f.sof ≤ STACK_LIMIT → (r : ℕ) (d : Spot) → r ≢ 0 → spot f r ≡ Some d → IsKey d
unfolding spot
spot_key f frame most r d some h = by_tests (is_stacked r) (nat_lt (r - 32) f.sof) refl refl h
  where
    by_tests : (b c : Bool) → is_stacked r ≡ b → nat_lt (r - 32) f.sof ≡ c
        → (if b then (if c then Some (Stacked (f.base + frame_index f (r - 32))) else None) else Some (Static r)) ≡ Some d
        → IsKey d
    by_tests true true i j e =
        let inside : r - 32 < f.sof = grind (arith, nat_tests) in
        let below : frame_index f (r - 32) < f.sof = within f frame (r - 32) inside in
        let same : Stacked (f.base + frame_index f (r - 32)) ≡ d = cc in
        subst IsKey same (omega arith)
    by_tests true false i j e = absurd (cc)
    by_tests false c i j e =
        let low : r < 32 = grind (arith, nat_tests) in
        let same : Static r ≡ d = cc in
        subst IsKey same (omega arith, omega arith)

application_word : (r : Registers) (a : Ar) → AreRegisters r → IsWord (application r a)
application_word r ar.Unat h = h.unat
application_word r ar.Pfs h = h.pfs
application_word r ar.Lc h = h.lc
application_word r ar.Ec h = let e = h.ec in omega arith

pub source_word : (bundle : ℕ) (r : Registers) (x : FetchSource) → bundle < 2 ^ 31 → AreRegisters r → IsWord (source_value bundle r x)
source_word bundle r (source.Branch b) k h = branch_word r.branches h.branches b
source_word bundle r (source.Application a) k h = application_word r a h
source_word bundle r source.Predicates k h = predicates_word r.predicates h.predicate_count
source_word bundle r source.Ip k h = omega arith
