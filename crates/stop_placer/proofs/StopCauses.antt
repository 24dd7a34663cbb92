-- Each stop of the program of a packing stands behind an instruction at whose gap there is a reason.
use Rattle.std.proofs.Common.{◌≡◌, ◌≤◌, ◌<◌, ◌+◌, ◌⊎◌, inl, inr, ℕ, Bool, true, false, List, length, get_or, refl, sym, ap, ◌∙◌, subst, arith}
use Rattle.std.specs.Prelude.{Option, Some, None, is_some, slice_get}
use Rattle.std.proofs.lemmas.Bool.{cases_lt}
use Rattle.std.proofs.lemmas.Option.{slice_get-get_or}
use Rattle.ia_program.specs.declared.limits.TheConstants.{BUNDLE_LIMIT}
use Rattle.ia_program.specs.declared.place.Place.{Place}
use Rattle.ia_program.specs.Places.{IsPlaceOf, IsBefore}
use Rattle.ia_meaning.specs.Sequence.{first_of, is_stopped}
use Rattle.loose_text.specs.LooseTexts.{Loose, IsLoose}
use Rattle.bundling.specs.Bundled.{place_of, program_of}
use Rattle.bundling.specs.Chunk.{Chunk}
use Rattle.bundling.specs.Laws.{sequence_stop}
use Rattle.stop_placer.specs.declared.packing.Cause.{Cause}
use Rattle.stop_placer.specs.Packings.{Packing}
use Rattle.stop_placer.specs.Packs.{IsPack, all_causes, all_chunks}
use Rattle.stop_placer.proofs.BundleLaws.{bundled_has_stops, bundled_has_one_stop, bundled_has_last_stop}
use Rattle.stop_placer.proofs.PackChunks.{pack_are_chunks, pack_causes}
use Rattle.stop_placer.proofs.Decided.{sequence_stop_is}
use Rattle.stop_placer.proofs.PackFree.{sequence_length}

-- From the n-th instruction on, and before the next one, where there is one.
pub record StandsBehind (s : Loose) (k : Packing) (n : ℕ) (place : Place) : Type 0 where
  pub inside : n < length s.items
  pub from : ¬ IsBefore place (place_of (all_chunks s k) n)
  pub below : n + 1 < length s.items → IsBefore place (place_of (all_chunks s k) (n + 1))

pub stop_has_cause : (s : Loose) (k : Packing) (n : ℕ) (place : Place) → IsLoose s → IsPack s k → length (all_chunks s k) ≤ BUNDLE_LIMIT
    → StandsBehind s k n place → IsPlaceOf (program_of s (all_chunks s k)).bundles place
    → is_stopped (program_of s (all_chunks s k)).bundles place ≡ true
    → (cause : Cause) × (slice_get (all_causes s k) n ≡ Some (Some cause))
stop_has_cause s k n place is pack few behind there stops = of (sequence_stop cs (first_of n)) refl
  where
    cs : List Chunk
    cs = all_chunks s k

    -- A stop that isn't wanted isn't there.
    unstopped : sequence_stop cs (first_of n) ≡ false → (n + 1 < length s.items) ⊎ (length s.items ≤ n + 1)
        → is_stopped (program_of s cs).bundles place ≡ false
    unstopped quiet (inl inside) =
        (bundled_has_stops s cs is (pack_are_chunks s k is pack few)).unstopped n
        (subst (λ (m : ℕ). n + 1 < m) (sym (sequence_length s is)) inside) quiet place
        (record { is = there; from = behind.from; below = behind.below inside })
    unstopped quiet (inr up) =
        let end : n + 1 ≡ length s.items =
        omega (arith, behind.inside) in (bundled_has_last_stop s cs n is (pack_are_chunks s k is pack few) end).none quiet place there
        behind.from

    found : (o : Option Cause) → get_or (all_causes s k) n None ≡ o → is_some o ≡ true
        → (cause : Cause) × (slice_get (all_causes s k) n ≡ Some (Some cause))
    found None e some = absurd cc
    found (Some cause) e some =
        (cause, slice_get-get_or (all_causes s k) n None (let inside = behind.inside in omega (arith, pack_causes s k pack)) ∙ ap Some e)

    of : (b : Bool) → sequence_stop cs (first_of n) ≡ b → (cause : Cause) × (slice_get (all_causes s k) n ≡ Some (Some cause))
    of true e = found (get_or (all_causes s k) n None) refl (sym (sequence_stop_is s k (first_of n) pack) ∙ e)
    of false e = let quiet = unstopped e (cases_lt (n + 1) (length s.items)) in absurd cc

-- No stop stands before the first instruction.
pub stop_behind_first : (s : Loose) (k : Packing) (place : Place) → IsLoose s → IsPack s k → length (all_chunks s k) ≤ BUNDLE_LIMIT
    → IsPlaceOf (program_of s (all_chunks s k)).bundles place → is_stopped (program_of s (all_chunks s k)).bundles place ≡ true
    → ¬ IsBefore place (place_of (all_chunks s k) 0)
stop_behind_first s k place is pack few there stops less =
    let quiet = (bundled_has_one_stop s (all_chunks s k) is (pack_are_chunks s k is pack few)).none_before place there less in absurd cc
