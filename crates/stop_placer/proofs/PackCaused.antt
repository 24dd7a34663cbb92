-- Where the stops of a packing's program come from.
use Rattle.std.proofs.Common.{◌≡◌, ◌<◌, ◌≤◌, ℕ, zero, suc, Bool, true, false, List, [], ◌∷◌, ◌++◌, length, length-append, refl, sym, ◌∙◌, subst, arith, inl, inr}
use Rattle.std.specs.Prelude.{Option, Some, None, IsSome, slice_get, slice_index_or, ◌⊎◌}
use Rattle.std.proofs.lemmas.Option.{slice_get_cases}
use Rattle.ia_insn.specs.declared.insn.Insn.{Insn}
use Rattle.ia_program.specs.declared.limits.TheConstants.{BUNDLE_LIMIT}
use Rattle.ia_program.specs.declared.place.Place.{Place}
use Rattle.ia_program.specs.Places.{IsPlaceOf}
use Rattle.ia_program.specs.Programs.{Program}
use Rattle.ia_meaning.specs.Sequence.{is_stopped}
use Rattle.flow_facts.specs.Graphs.{over_program}
use Rattle.order_laws.specs.declared.violation.Violation.{Violation}
use Rattle.order_laws.specs.Violations.{ViolatesIn}
use Rattle.sequence_laws.specs.Spreads.{IsSpread}
use Rattle.loose_text.specs.LooseTexts.{Loose, IsLoose}
use Rattle.bundling.specs.Bundled.{sequence_of, program_of, places_of, place_of}
use Rattle.stop_placer.specs.declared.packing.Cause.{Cause}
use Rattle.stop_placer.specs.declared.packing.Cause.TheVariants.{Pair}
use Rattle.stop_placer.specs.Packings.{Packing}
use Rattle.stop_placer.specs.Packs.{IsPack, end_cause, ends_written, all_causes, all_chunks}
use Rattle.stop_placer.specs.Placing.{without_stop}
use Rattle.stop_placer.specs.Caused.{IsBehind, AreCaused}
use Rattle.stop_placer.proofs.PackChunks.{pack_are_chunks, pack_causes}
use Rattle.stop_placer.proofs.PackFree.{sequence_length, pack_has_no_violation, pair_has_violation}
use Rattle.stop_placer.proofs.PlacesCounted.{places_counted}
use Rattle.stop_placer.proofs.StopCauses.{stop_has_cause, stop_behind_first}

-- No pair is looked for behind the last instruction.
not_last : (causes : List (Option Cause)) (written : Bool) (n : ℕ) → slice_get (causes ++ end_cause written ∷ []) n ≡ Some (Some Pair)
    → n < length causes
not_last [] true zero e = absurd cc
not_last [] false zero e = absurd cc
not_last [] written (suc n) e = absurd cc
not_last (x ∷ causes) written zero e = omega arith
not_last (x ∷ causes) written (suc n) e = let h = not_last causes written n e in omega (arith, h)

module _ (s : Loose) (k : Packing) (is : IsLoose s) (pack : IsPack s k) (few : length (all_chunks s k) ≤ BUNDLE_LIMIT)
    (spread : IsSpread (sequence_of s) (program_of s (all_chunks s k)) (place_of (all_chunks s k))) where
  abbrev p : Program
  p = program_of s (all_chunks s k)

  abbrev places : List Place
  places = places_of (all_chunks s k)

  count : length places ≡ length s.items
  count = let are = pack_are_chunks s k is pack few in places_counted (all_chunks s k) s.items are.chunks

  there : (n : ℕ) → n < length s.items → IsPlaceOf p.bundles (place_of (all_chunks s k) n)
  there n inside = of (slice_get_cases (sequence_of s).insns n).1
    where
      of : ((i : Insn) × (n < length (sequence_of s).insns) × (slice_get (sequence_of s).insns n ≡ Some i)
          × (slice_index_or (sequence_of s).insns n i ≡ i)) ⊎ ((length (sequence_of s).insns ≤ n)
          × (slice_get (sequence_of s).insns n ≡ None)) → IsPlaceOf p.bundles (place_of (all_chunks s k) n)
      of (inl (i, short, at, same)) = let (j, here, like) = spread.there n i at in subst IsSome (sym here) refl
      of (inr (past, none)) = absurd (omega (arith, past, inside, sequence_length s is))

  violated : (n : ℕ) (place : Place) → IsBehind places n place → IsPlaceOf p.bundles place → is_stopped p.bundles place ≡ true
      → slice_get (all_causes s k) n ≡ Some (Some Pair)
      → (v : Violation) × ViolatesIn (over_program p) (without_stop p place) v
  unfolding place_of
  violated n place behind at stopped pair =
      let low = not_last k.causes (ends_written s.items) n pair in
      let all = pack_causes s k pack in
      pair_has_violation s k n place is pack few pair (record {
        is = at;
        from = behind.from;
        below = behind.below (omega (arith, low, all, count, length-append k.causes (end_cause (ends_written s.items) ∷ [])));
      })
      stopped

  pub pack_is_caused : AreCaused p places (all_causes s k)
  unfolding place_of
  pack_is_caused = record {
    free = pack_has_no_violation s k is pack few;
    some = omega (arith, count, is.some);
    same_length = pack_causes s k pack ∙ sym count;
    there = λ n inside. there n (omega (arith, inside, count));
    rises = λ m n less inside. spread.rises m n less (omega (arith, inside, count, sequence_length s is));
    first = λ place at stopped. stop_behind_first s k place is pack few at stopped;
    caused = λ n place behind at stopped. stop_has_cause s k n place is pack few (record {
      inside = omega (arith, behind.inside, count);
      from = behind.from;
      below = λ inside. behind.below (omega (arith, inside, count));
    }) at stopped;
    violated = violated;
  }

-- What is caused for a program, places and causes is so for those that equal them.
pub caused_as : (p q : Program) (places others : List Place) (causes gaps : List (Option Cause)) → p ≡ q → places ≡ others → causes ≡ gaps
    → AreCaused q others gaps → AreCaused p places causes
caused_as p q places others causes gaps e f g caused =
    subst (λ (a : Program). AreCaused a places causes) (sym e) (subst (λ (b : List Place). AreCaused q b causes) (sym f)
    (subst (λ (d : List (Option Cause)). AreCaused q others d) (sym g) caused))
