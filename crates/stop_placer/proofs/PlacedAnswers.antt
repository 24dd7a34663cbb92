-- What a text is packed into, or its first fault, is answered.
use Rattle.std.proofs.Common.{◌≡◌, ◌⊎◌, ◌<◌, ◌≤◌, List, ◌∷◌, Bool, length, Result, Ok, Err, ap, subst, arith, inl, inr}
use Rattle.std.specs.Prelude.{ℕ, Option, IfOk, IfErr}
use Rattle.std.proofs.lemmas.List.{length-reverse}
use Rattle.ia_program.specs.declared.limits.TheConstants.{BUNDLE_LIMIT}
use Rattle.ia_program.specs.declared.place.Place.{Place}
use Rattle.ia_program.specs.Programs.{Program}
use Rattle.asm_build.specs.declared.reason.TextError.{TextError}
use Rattle.asm_build.specs.declared.reason.TextError.TheVariants.{Memory}
use Rattle.bundling.specs.Bundled.{places_of, place_of}
use Rattle.bundling.specs.Chunk.{Chunk}
use Rattle.stop_placer.specs.declared.packed.StopWhy.{StopWhy}
use Rattle.stop_placer.specs.declared.packing.Cause.{Cause}
use Rattle.stop_placer.specs.Caused.{place_in}
use Rattle.stop_placer.specs.Laws.{OnePlaced, OnePlacingFault, NoFaultWherePlaced}
use Rattle.stop_placer.specs.Packed.{Packed}
use Rattle.stop_placer.specs.Packings.{Packing, chunk, chunks_of}
use Rattle.stop_placer.specs.Placing.{IsPlaced, HasPlacingFault, NamesStops}

pub answers_placed : OnePlaced → NoFaultWherePlaced → (text : List ℕ) (r : Result Packed TextError) → IfOk r (IsPlaced text)
    → IfErr r (λ e. (e ≡ Memory) ⊎ HasPlacingFault text e)
    → (k : Packed) → IsPlaced text k → (r ≡ Ok k) ⊎ (r ≡ Err Memory)
answers_placed one none text (Ok m) found fault k placed = inl (ap Ok (one text m k found placed))
answers_placed one none text (Err e) found (inl memory) k placed = inr (ap Err memory)
answers_placed one none text (Err e) found (inr has) k placed = absurd (none text k e placed has)

pub answers_placing_fault : OnePlacingFault → NoFaultWherePlaced → (text : List ℕ) (r : Result Packed TextError) → IfOk r (IsPlaced text)
    → IfErr r (λ e. (e ≡ Memory) ⊎ HasPlacingFault text e)
    → (e : TextError) → HasPlacingFault text e → (r ≡ Err e) ⊎ (r ≡ Err Memory)
answers_placing_fault one none text (Ok m) found fault e has = absurd (none text m e found has)
answers_placing_fault one none text (Err f) found (inl memory) e has = inr (ap Err memory)
answers_placing_fault one none text (Err f) found (inr other) e has = inl (ap Err (one text f e other has))

-- With its current bundle closed a packing has at most one bundle more.
pub whole_few : (k : Packing) (end : Bool) → length k.closed < BUNDLE_LIMIT → length (chunks_of k end) ≤ BUNDLE_LIMIT
whole_few k end room = omega (arith, room, length-reverse (chunk k.current end ∷ k.closed))

-- The names of the stops, by the bundles that the places are of.
pub names_by : (p : Program) (places : List Place) (cs : List Chunk) (causes gaps : List (Option Cause)) (stops : List StopWhy)
    → places ≡ places_of cs → causes ≡ gaps → NamesStops p (place_in places) causes stops → NamesStops p (place_of cs) gaps stops
unfolding place_of
names_by p places cs causes gaps stops e f names =
    subst (λ (g : List (Option Cause)). NamesStops p (place_in (places_of cs)) g stops) f
    (subst (λ (l : List Place). NamesStops p (place_in l) causes stops) e names)
