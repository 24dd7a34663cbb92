-- Bytes that are the image or the bare bundles of no program are not without a fault.
use Rattle.std.proofs.Common.{◌≡◌, inl, inr, ℕ, ◌+◌, ◌*◌, ◌/◌, ◌%◌, ◌<◌, ◌≤◌, List, [], ◌∷◌, length, drop, refl, subst, arith}
use Rattle.std.proofs.lemmas.List.{take_all, length-take, length-drop}
use Rattle.bundle_bits.specs.RawBundle.{AreBytes as AreSixteen}
use Rattle.first_fault.specs.Stages.{Stage, ArePassed}
use Rattle.first_fault.proofs.Firsts.{none_first}
use Rattle.first_fault.proofs.Laws.{IsNotOpen, AreNotOpen, unless_not_open, not_without}
use Rattle.ia_program.specs.declared.place.Place.{Place}
use Rattle.ia_program.specs.declared.relations.Relation.{Relation}
use Rattle.ia_program.specs.Bundles.{Bundle}
use Rattle.ia_program.specs.Places.{place_number, place_at, IsPlaceOf, IsBefore, EachPlace, IsFirstBad}
use Rattle.ia_program.specs.Runs.{IsWithinRun}
use Rattle.ia_program.specs.Targets.{IsTargetInside}
use Rattle.ia_program.specs.Programs.{Program, IsEntryAt, IsProgram, AreBytes, AreInRange}
use Rattle.ia_program.proofs.InOrder.{slot_small, bundle_small}
use Rattle.ia_program.proofs.Reaching.{place_at-number}
use Rattle.insn_codec.specs.Laws as codec
use Rattle.image_form.specs.declared.fault.ImageFault.{ImageFault}
use Rattle.image_form.specs.declared.fault.ImageFault.TheVariants.{Short, Magic, Counts, Length, Target, LongRun}
use Rattle.image_form.specs.declared.version.Version.{Version}
use Rattle.image_form.specs.Images.{Begins, BeginsAsImage, AreSpelled, Spells, RawSpells}
use Rattle.image_form.specs.Parts.{bundle_count, relation_count, entries_of, relations_of, after_entries, relation_bytes, after_relations, bundle_bytes, data_of, image_length, HasHead, AreCounts}
use Rattle.image_form.specs.Faults.{chunk, IsBundleBytes, entry_stage, spelling_stage, place_stage, bundle_stages, IsRelationRight, AreRelationsRight, relation_stage, relation_stages, image_stages, raw_stages}
use Rattle.image_form.specs.Laws.{FaultWhereNoneSpelled, FaultWhereNoneRaw}
use Rattle.image_form.proofs.NumberBytes.{bytes_take, bytes_drop}
use Rattle.image_form.proofs.RelationBytes.{length-relations_in}
use Rattle.image_form.proofs.Spelled.{same_bundles, all_spelled, spelled_fit}
use Rattle.image_form.proofs.Wholes.{ArePartsOf, IsPaddedImage, length-bundle_bytes, counts_right, entries_right, after_entries_are, image_of_parts, raw_counts}

-- Sixteen bytes are bytes.
sixteen : (bytes : List ℕ) (n : ℕ) → 16 * n + 16 ≤ length bytes → AreBytes bytes → AreSixteen (chunk bytes n)
sixteen bytes n inside are =
    record {
      count = simp (length-take, length-drop) (omega arith);
      small = bytes_take 16 (drop (16 * n) bytes) (bytes_drop (16 * n) bytes are);
    }

spelling_not_open : codec.FaultWhereNoneSpelled → (bytes : List ℕ) (count : ℕ) → length bytes ≡ 16 * count → AreBytes bytes
    → IsNotOpen (spelling_stage bytes)
spelling_not_open some bytes count size are none go =
    none_first (λ k. IsBundleBytes (chunk bytes k)) count
    (λ n less before unspelled.
    let inside : 16 * n + 16 ≤ length bytes = omega arith in
    some (chunk bytes n) (sixteen bytes n inside are) (λ b is. unspelled (b, is))
    (λ why fault. none (n, why) (record { inside = inside; fault = fault; first = before })))
    (λ each. let s = all_spelled bytes count each in go (s.0, subst (AreSpelled s.0) (take_all (16 * count) bytes (omega arith)) s.1, tt))

lower_number : (q : Place) (i : ℕ) → q.slot < 3 → IsBefore q (place_at i) → place_number q < i
lower_number q i small (inl less) = omega arith
lower_number q i small (inr less) = omega (arith, less.0, less.1)

-- Where no place is the first bad one, it can't be that not all are good.
none_first_bad : (bundles : List Bundle) (Good : Place → Type 0) → ((p : Place) → IsFirstBad bundles Good p → ⊥)
    → (EachPlace bundles Good → ⊥) → ⊥
none_first_bad bundles Good none go =
    none_first IsGood (3 * length bundles)
    (λ i inside before bad. bad (λ is. absurd (none (place_at i) (record {
      is = is;
      bad = λ good. bad (λ also. good);
      first = λ q p less. back q p (before (place_number q) (lower_number q i (slot_small bundles q p) less));
    }))))
    (λ all. go (λ q p. back q p (all (place_number q) (omega (arith, bundle_small bundles q p, slot_small bundles q p)))))
  where
    IsGood : ℕ → Type 0
    IsGood i = IsPlaceOf bundles (place_at i) → Good (place_at i)

    back : (q : Place) → IsPlaceOf bundles q → IsGood (place_number q) → Good q
    back q p good = subst (λ (r : Place). IsPlaceOf bundles r → Good r) (place_at-number q (slot_small bundles q p)) good p

place_not_open : (bytes : List ℕ) (fault : Place → ImageFault) (Good : List Bundle → Place → Type 0) → (bundles : List Bundle)
    → AreSpelled bundles bytes → IsNotOpen (place_stage bytes fault Good)
place_not_open bytes fault Good bundles spelled none go =
    none_first_bad bundles (Good bundles) (λ p first. none p (bundles, spelled, first)) (λ each. go (bundles, spelled, each))

bundles_not_open : codec.FaultWhereNoneSpelled → (bytes : List ℕ) (count : ℕ) (later : List (Stage ImageFault)) → length bytes ≡ 16 * count
    → AreBytes bytes → ((bundles : List Bundle) → AreSpelled bundles bytes → AreNotOpen later) → AreNotOpen (bundle_stages bytes later)
bundles_not_open some bytes count later size are others = (
  spelling_not_open some bytes count size are,
  λ s. (
    place_not_open bytes Target IsTargetInside s.0 s.1,
    λ targets.
        (place_not_open bytes LongRun IsWithinRun s.0 s.1, λ runs. others s.0 s.1),
  ),
)

relation_not_open : (spelled entries : List ℕ) (relations : List Relation) (bytes : List ℕ) (bundles : List Bundle)
    → AreSpelled bundles spelled → IsNotOpen (relation_stage spelled entries relations bytes)
relation_not_open spelled entries relations bytes bundles is none go =
    none_first (IsRelationRight bundles entries relations bytes) (length relations)
    (λ n inside before bad. none n (bundles, is, record { inside = inside; wrong = bad; first = before }))
    (λ all. go (bundles, is, all))

entry_not_open : (count : ℕ) (entries : List ℕ) → IsNotOpen (entry_stage count entries)
entry_not_open count entries none go =
    none_first (IsEntryAt count entries) (length entries) (λ n inside before bad.
    none n (record { inside = inside; misplaced = bad; first = before })) go

after_relations_are : (bytes : List ℕ) → AreBytes bytes → AreBytes (after_relations bytes)
after_relations_are bytes are = bytes_drop (8 * relation_count bytes) (after_entries bytes) (after_entries_are bytes are)

bundle_bytes_are : (bytes : List ℕ) → AreBytes bytes → AreBytes (bundle_bytes bytes)
bundle_bytes_are bytes are = bytes_take (16 * bundle_count bytes) (after_relations bytes) (after_relations_are bytes are)

-- Where the stages of the head are passed, it is right.
head_of : (v : Version) (bytes : List ℕ) → 24 ≤ length bytes → Begins v bytes → AreCounts bytes → length bytes ≡ image_length bytes
    → HasHead v bytes
head_of v bytes long begins counts size = record { long = long; begins = begins; counts = counts v begins; size = size }

image_not_open : codec.FaultWhereNoneSpelled → (bytes : List ℕ) → AreBytes bytes → AreNotOpen (image_stages bytes)
image_not_open some bytes are = (
  unless_not_open (24 ≤ length bytes) Short,
  λ long. (
    unless_not_open (BeginsAsImage bytes) Magic,
    λ begins. (
      unless_not_open (AreCounts bytes) Counts,
      λ counts. (
        unless_not_open (length bytes ≡ image_length bytes) Length,
        λ size. (
          entry_not_open (bundle_count bytes) (entries_of bytes),
          λ entries. bundles_not_open some (bundle_bytes bytes) (bundle_count bytes) (relation_stages bytes)
              (length-bundle_bytes begins.0 bytes (head_of begins.0 bytes long begins.1 counts size)) (bundle_bytes_are bytes are)
              (λ bundles is. (
                relation_not_open (bundle_bytes bytes) (entries_of bytes) (relations_of bytes)
                    (relation_bytes bytes) bundles is,
                λ relations. tt,
              )),
        ),
      ),
    ),
  ),
)

raw_not_open : codec.FaultWhereNoneSpelled → (bytes : List ℕ) → AreBytes bytes → AreNotOpen (raw_stages bytes)
raw_not_open some bytes are = (
  unless_not_open (AreInRange (length bytes / 16) 0 0 0) Counts,
  λ counts. (
    unless_not_open (length bytes % 16 ≡ 0) Length,
    λ whole.
        bundles_not_open some bytes (length bytes / 16) [] (omega arith) are (λ bundles is. tt),
  ),
)

-- Bundles that have the bytes, with their targets inside and their runs not too long.
record AreSoundBundles (bytes : List ℕ) : Type 0 where
  bundles : List Bundle
  spelled : AreSpelled bundles bytes
  targets : EachPlace bundles (IsTargetInside bundles)
  runs : EachPlace bundles (IsWithinRun bundles)

bundles_of : codec.OneBundle → (bytes : List ℕ) (later : List (Stage ImageFault)) → ArePassed (bundle_stages bytes later)
    → AreSoundBundles bytes
bundles_of one bytes later (any, (targets, (runs, others))) = record {
  bundles = targets.0;
  spelled = targets.1;
  targets = targets.2;
  runs = subst (λ (l : List Bundle). EachPlace l (IsWithinRun l)) (same_bundles one bytes runs.0 targets.0 runs.1 targets.1) runs.2;
}

-- The relations are right for all bundles that have the bytes.
relations_of_passed : codec.OneBundle → (spelled entries : List ℕ) (relations : List Relation) (bytes : List ℕ)
    → ArePassed (bundle_stages spelled (relation_stage spelled entries relations bytes ∷ [])) → (bundles : List Bundle)
    → AreSpelled bundles spelled → AreRelationsRight bundles entries relations bytes
relations_of_passed one spelled entries relations bytes (any, (targets, (runs, (right, done)))) bundles is =
    subst (λ (l : List Bundle). AreRelationsRight l entries relations bytes) (same_bundles one spelled right.0 bundles right.1 is) right.2

-- Where every stage is passed, a program has the image.
image_of : codec.OneBundle → (bytes : List ℕ) → AreBytes bytes → ArePassed (image_stages bytes) → (p : Program) × Spells p bytes
image_of one bytes are (long, (begins, (counts, (size, (entries, passed))))) =
    (p, (begins.0, image_of_parts begins.0 p bytes are program parts padded))
  where
    sound : AreSoundBundles (bundle_bytes bytes)
    sound = bundles_of one (bundle_bytes bytes) (relation_stages bytes) passed

    right : AreRelationsRight sound.bundles (entries_of bytes) (relations_of bytes) (relation_bytes bytes)
    right =
        relations_of_passed one (bundle_bytes bytes) (entries_of bytes) (relations_of bytes)
        (relation_bytes bytes) passed sound.bundles sound.spelled

    p : Program
    p = record { bundles = sound.bundles; entries = entries_of bytes; bytes = data_of bytes; relations = relations_of bytes }

    parts : ArePartsOf begins.0 p bytes
    parts = record {
      head = head_of begins.0 bytes long begins.1 counts size;
      entries = refl;
      relations = refl;
      spelled = sound.spelled;
      rest = refl;
    }

    padded : IsPaddedImage bytes
    padded n less = let r = right n (omega (arith, length-relations_in (relation_count bytes) (relation_bytes bytes))) in r.padded

    program : IsProgram p
    program = record {
      fit = spelled_fit sound.bundles (bundle_bytes bytes) sound.spelled;
      counts = counts_right begins.0 p bytes parts;
      entries = entries_right begins.0 p bytes parts entries;
      targets = sound.targets;
      runs = sound.runs;
      bytes = bytes_drop (16 * bundle_count bytes) (after_relations bytes) (after_relations_are bytes are);
      relations = λ n less. let r = right n less in r.declared;
    }

-- Where every stage of bare bundles is passed, they are those of a program.
raw_of : codec.OneBundle → (bytes : List ℕ) → ArePassed (raw_stages bytes) → (p : Program) × RawSpells p bytes
raw_of one bytes (counts, (whole, passed)) =
    (p, record { program = program; spelled = sound.spelled; no_entries = refl; no_data = refl; no_relations = refl })
  where
    sound : AreSoundBundles bytes
    sound = bundles_of one bytes [] passed

    p : Program
    p = record { bundles = sound.bundles; entries = []; bytes = []; relations = [] }

    program : IsProgram p
    program = record {
      fit = spelled_fit sound.bundles bytes sound.spelled;
      counts = raw_counts p bytes whole counts sound.spelled refl refl refl;
      entries = λ n less. absurd (omega arith);
      targets = sound.targets;
      runs = sound.runs;
      bytes = λ i. omega arith;
      relations = λ n less. absurd (omega arith);
    }

pub fault_where_none_spelled : codec.OneBundle → codec.FaultWhereNoneSpelled → FaultWhereNoneSpelled
fault_where_none_spelled one some bytes are none faultless =
    not_without (image_stages bytes) (image_not_open some bytes are) faultless
    (λ passed. let is = image_of one bytes are passed in none is.0 is.1)

pub fault_where_none_raw : codec.OneBundle → codec.FaultWhereNoneSpelled → FaultWhereNoneRaw
fault_where_none_raw one some bytes are none faultless =
    not_without (raw_stages bytes) (raw_not_open some bytes are) faultless (λ passed. let is = raw_of one bytes passed in none is.0 is.1)
