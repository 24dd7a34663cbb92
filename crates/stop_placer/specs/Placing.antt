-- What a loose text is packed into, or its first fault.
use Rattle.std.specs.Prelude.{◌≡◌, ◌⊎◌, ℕ, ◌+◌, ◌<◌, ◌≤◌, ◌==◌, ◌&&◌, Bool, true, not, List, length, map, slice_get, Contains, Option, Some, ⊤}
use Rattle.std.specs.Option.{option_map}
use Rattle.ia_program.specs.declared.limits.TheConstants.{BUNDLE_LIMIT}
use Rattle.ia_program.specs.declared.place.Place.{Place}
use Rattle.ia_program.specs.Places.{IsPlaceOf, IsBefore}
use Rattle.ia_program.specs.Programs.{Program}
use Rattle.ia_meaning.specs.Sequence.{is_stopped}
use Rattle.flow_facts.specs.Graphs.{over_program}
use Rattle.group_checker.specs.Firsts.{IsFirst}
use Rattle.asm_build.specs.declared.reason.Reason.TheVariants.{Limit}
use Rattle.asm_build.specs.declared.reason.TextError.{TextError}
use Rattle.asm_build.specs.declared.reason.TextError.TheVariants.{Fault}
use Rattle.loose_items.specs.declared.item.Item.{Item}
use Rattle.loose_text.specs.LooseTexts.{Loose}
use Rattle.loose_text.specs.LooseReading.{ReadsLoose, HasLooseFault}
use Rattle.bundling.specs.Bundled.{place_of, places_of, program_of}
use Rattle.stop_placer.specs.declared.packing.Cause.{Cause}
use Rattle.stop_placer.specs.declared.packing.Cause.TheVariants as cause
use Rattle.stop_placer.specs.declared.packed.Why.{Why}
use Rattle.stop_placer.specs.declared.packed.Why.TheVariants as why
use Rattle.stop_placer.specs.declared.packed.StopWhy.{StopWhy}
use Rattle.stop_placer.specs.Packed.{Packed}
use Rattle.stop_placer.specs.Packings.{Packing}
use Rattle.stop_placer.specs.Packs.{IsPack, IsFirstPast, all_causes, all_chunks}

-- The stops of a program but for the one behind a place.
abbrev pub without_stop : Program → Place → Place → Bool
without_stop p out place =
    is_stopped p.bundles place && not ((place.bundle == out.bundle) && (place.slot == out.slot))

-- The reason of a stop behind a place of the program. Of a pair, the violation named is the first of all that the program
-- has without that one stop; runs of slots may be longer there than a program's.
abbrev pub IsReason : Program → Place → Cause → Why → Type 0
IsReason p after cause.Written why.Written = ⊤
IsReason p after cause.Long why.Long = ⊤
IsReason p after cause.Pair (why.Pair v) = IsFirst (over_program p) (without_stop p after) v
IsReason p after cause other = ⊥

-- A stop stands behind the n-th instruction, before the next one, for the reason that the packing has there.
pub record IsExplained (p : Program) (at : ℕ → Place) (causes : List (Option Cause)) (stop : StopWhy) : Type 0 where
  pub n : ℕ
  pub from : ¬ IsBefore stop.after (at n)
  pub below : n + 1 < length causes → IsBefore stop.after (at (n + 1))
  pub cause : Cause
  pub is : slice_get causes n ≡ Some (Some cause)
  pub reason : IsReason p stop.after cause stop.why

-- Each stop of the program is named once, in order, with its reason.
pub record NamesStops (p : Program) (at : ℕ → Place) (causes : List (Option Cause)) (stops : List StopWhy) : Type 0 where
  pub rises : (m n : ℕ) (s t : StopWhy) → slice_get stops m ≡ Some s → slice_get stops n ≡ Some t → m < n → IsBefore s.after t.after
  pub has : (place : Place) → IsPlaceOf p.bundles place → is_stopped p.bundles place ≡ true
      → Contains (map (λ (s : StopWhy). s.after) stops) place
  pub only : (s : StopWhy) → Contains stops s → IsPlaceOf p.bundles s.after × (is_stopped p.bundles s.after ≡ true)
  pub explained : (s : StopWhy) → Contains stops s → IsExplained p at causes s

-- The text is packed into this: the program is the packing of its instructions, which has at most as many bundles as a
-- program may have.
pub record IsPlaced (text : List ℕ) (k : Packed) : Type 0 where
  pub loose : Loose
  pub reads : ReadsLoose text loose
  pub packing : Packing
  pub pack : IsPack loose packing
  pub few : length (all_chunks loose packing) ≤ BUNDLE_LIMIT
  pub program : k.program ≡ program_of loose (all_chunks loose packing)
  pub places : k.places ≡ places_of (all_chunks loose packing)
  pub stops : NamesStops k.program (place_of (all_chunks loose packing)) (all_causes loose packing) k.stops

-- The line of the n-th item.
abbrev pub line_of_item : Loose → ℕ → Option ℕ
line_of_item s n = option_map (λ (i : Item). i.line) (slice_get s.items n)

-- The fault of a loose text whose packing has a bundle past the limit: at the line of the instruction that begins it.
pub record IsPackingFault (s : Loose) (e : TextError) : Type 0 where
  pub n : ℕ
  pub past : IsFirstPast s n
  pub line : ℕ
  pub there : line_of_item s n ≡ Some line
  pub is : e ≡ Fault line Limit

-- The first fault of a text that is to be packed: one of the loose text; or, last of all, that of its packing.
abbrev pub HasPlacingFault : List ℕ → TextError → Type 0
HasPlacingFault text e = HasLooseFault text e ⊎ ((s : Loose) × ReadsLoose text s × IsPackingFault s e)
