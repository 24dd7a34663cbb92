-- What the searches for the first fault of an image and of bare bundles find.
use Rattle.std.proofs.Common.{◌≡◌, inl, inr, ℕ, ◌/◌, ◌%◌, ◌≤◌, List, [], ◌∷◌, length, refl, sym, ap, ◌∙◌, subst, arith}
use Rattle.std.specs.Prelude.{slice_index}
use Rattle.std.proofs.lemmas.List.{append-nil}
use Rattle.first_fault.specs.Stages.{Stage, IsFirstFault}
use Rattle.first_fault.proofs.Laws.{IsSound, AreSound, unless_sound}
use Rattle.first_fault.proofs.Firsts.{one_first}
use Rattle.ia_program.specs.declared.place.Place.{Place}
use Rattle.ia_program.specs.declared.relations.Relation.{Relation}
use Rattle.ia_program.specs.Bundles.{Bundle}
use Rattle.ia_program.specs.Places.{EachPlace, IsFirstBad}
use Rattle.ia_program.specs.Runs.{IsWithinRun}
use Rattle.ia_program.specs.Targets.{IsTargetInside}
use Rattle.ia_program.specs.Programs.{AreEntries, AreInRange}
use Rattle.ia_program.proofs.ProgramFaults.{one_first_bad, misplaced_sound}
use Rattle.insn_codec.specs.Spelling.{IsSpelled}
use Rattle.insn_codec.specs.SlotFaults.{HasSlotFault}
use Rattle.insn_codec.specs.Laws as codec
use Rattle.image_form.specs.declared.fault.ImageFault.{ImageFault}
use Rattle.image_form.specs.declared.fault.ImageFault.TheVariants.{Short, Magic, Counts, Length, Entry, Target, LongRun}
use Rattle.image_form.specs.declared.version.Version.{Version}
use Rattle.image_form.specs.declared.version.Version.TheVariants.{One, Two}
use Rattle.image_form.specs.Images.{Begins, BeginsAsImage}
use Rattle.image_form.specs.Parts.{bundle_count, image_length, entries_of, relations_of, relation_bytes, bundle_bytes, AreCounts, AreCountsOf, HasHead}
use Rattle.image_form.specs.Faults.{chunk, IsBundleBytes, entry_stage, spelling_stage, place_stage, bundle_stages, IsRelationRight, AreRelationsRight, IsFirstWrong, relation_stage, relation_stages, image_stages, HasImageFault, raw_stages}
use Rattle.image_form.proofs.Spelled.{spelled_length, same_bundles, spelled_chunk}

-- Bytes begin as an image of at most one version.
pub one_version : (v w : Version) (bytes : List ℕ) → Begins v bytes → Begins w bytes → v ≡ w
one_version One One bytes a b = refl
one_version Two Two bytes a b = refl
one_version One Two bytes a b = absurd (let last : 49 ≡ 50 = ap (λ l. slice_index l 7) (sym a ∙ b) in omega arith)
one_version Two One bytes a b = absurd (let last : 50 ≡ 49 = ap (λ l. slice_index l 7) (sym a ∙ b) in omega arith)

-- Where the head is right, its numbers are in range for the one version that the bytes begin as.
pub counts_hold : (v : Version) (bytes : List ℕ) → HasHead v bytes → AreCounts bytes
counts_hold v bytes h w begins = subst (λ (u : Version). AreCountsOf u bytes) (one_version v w bytes h.begins begins) h.counts

-- Bytes of bundles have no sixteen that are no bundle, and at most one sixteen are the first.
spelling_sound : codec.OneFault → codec.NoFaultWhereSpelled → (bytes : List ℕ) → IsSound (spelling_stage bytes)
spelling_sound one none bytes = record {
  one = λ a b f g.
      let same : a.0 ≡ b.0 =
      one_first (λ k. IsBundleBytes (chunk bytes k)) a.0 b.0 f.first (λ is. none is.0 (chunk bytes a.0) a.1 is.1 f.fault) g.first
      (λ is. none is.0 (chunk bytes b.0) b.1 is.1 g.fault) in
      let why : a.1 ≡ b.1 = one (chunk bytes b.0) a.1 b.1 (subst (λ (k : ℕ). HasSlotFault (chunk bytes k) a.1) same f.fault) g.fault in
      λ i. (same i, why i);
  none = λ a f s.
      let is = spelled_chunk s.0 bytes [] a.0 s.1 (omega (arith, spelled_length s.0 bytes s.1, f.inside)) in
      none is.0 (chunk bytes a.0) a.1 (subst (λ (l : List ℕ). IsSpelled is.0 (chunk l a.0)) (append-nil bytes) is.1) f.fault;
}

-- At most one place of the bundles is the first that isn't a good one.
place_sound : codec.OneBundle → (bytes : List ℕ) (fault : Place → ImageFault) (Good : List Bundle → Place → Type 0)
    → IsSound (place_stage bytes fault Good)
place_sound one bytes fault Good = record {
  one = λ p q a b.
      let same = same_bundles one bytes a.0 b.0 a.1 b.1 in
      one_first_bad b.0 (Good b.0) p q (subst (λ (l : List Bundle). IsFirstBad l (Good l) p) same a.2) b.2;
  none = λ p a s.
      let same = same_bundles one bytes s.0 a.0 s.1 a.1 in
      a.2.bad (subst (λ (l : List Bundle). EachPlace l (Good l)) same s.2 p a.2.is);
}

-- At most one relation is the first that isn't right for the bundles.
relation_sound : codec.OneBundle → (spelled entries : List ℕ) (relations : List Relation) (bytes : List ℕ)
    → IsSound (relation_stage spelled entries relations bytes)
relation_sound one spelled entries relations bytes = record {
  one = λ m n a b.
      let same = same_bundles one spelled a.0 b.0 a.1 b.1 in
      let f : IsFirstWrong b.0 entries relations bytes m = subst (λ (l : List Bundle). IsFirstWrong l entries relations bytes m) same a.2 in
      one_first (IsRelationRight b.0 entries relations bytes) m n f.first f.wrong b.2.first b.2.wrong;
  none = λ n a s.
      let same = same_bundles one spelled s.0 a.0 s.1 a.1 in
      a.2.wrong (subst (λ (l : List Bundle). AreRelationsRight l entries relations bytes) same s.2 n a.2.inside);
}

bundles_sound : codec.OneBundle → codec.OneFault → codec.NoFaultWhereSpelled → (bytes : List ℕ) (later : List (Stage ImageFault))
    → AreSound later → AreSound (bundle_stages bytes later)
bundles_sound bundle one none bytes later sound =
    (spelling_sound one none bytes, (place_sound bundle bytes Target IsTargetInside, (place_sound bundle bytes LongRun IsWithinRun, sound)))

-- An image and bare bundles have at most one first fault, and none where every stage is passed.
pub image_sound : codec.OneBundle → codec.OneFault → codec.NoFaultWhereSpelled → (bytes : List ℕ) → AreSound (image_stages bytes)
image_sound bundle one none bytes = (
  unless_sound (24 ≤ length bytes) Short,
  (
    unless_sound (BeginsAsImage bytes) Magic,
    (
      unless_sound (AreCounts bytes) Counts,
      (
        unless_sound (length bytes ≡ image_length bytes) Length,
        (
          misplaced_sound Entry (bundle_count bytes) (entries_of bytes),
          bundles_sound bundle one none (bundle_bytes bytes) (relation_stages bytes)
              (relation_sound bundle (bundle_bytes bytes) (entries_of bytes) (relations_of bytes) (relation_bytes bytes), tt),
        ),
      ),
    ),
  ),
)

pub raw_sound : codec.OneBundle → codec.OneFault → codec.NoFaultWhereSpelled → (bytes : List ℕ) → AreSound (raw_stages bytes)
raw_sound bundle one none bytes = (
  unless_sound (AreInRange (length bytes / 16) 0 0 0) Counts,
  (unless_sound (length bytes % 16 ≡ 0) Length, bundles_sound bundle one none bytes [] tt),
)

-- Where the head is right, the first fault is one of the entries.
pub fault_of_entries : (v : Version) (bytes : List ℕ) (f : ImageFault) → HasHead v bytes
    → IsFirstFault (entry_stage (bundle_count bytes) (entries_of bytes) ∷ []) f → HasImageFault bytes f
fault_of_entries v bytes f h (inl found) = inr (h.long, inr ((v, h.begins), inr (counts_hold v bytes h, inr (h.size, inl found))))
fault_of_entries v bytes f h (inr none) = absurd none.1

-- Where the entries are right too, it is one of the bundles or of the relations.
pub fault_of_bundles : (v : Version) (bytes : List ℕ) (f : ImageFault) → HasHead v bytes
    → AreEntries (bundle_count bytes) (entries_of bytes) → IsFirstFault (bundle_stages (bundle_bytes bytes) (relation_stages bytes)) f
    → HasImageFault bytes f
fault_of_bundles v bytes f h entries later =
    inr (h.long, inr ((v, h.begins), inr (counts_hold v bytes h, inr (h.size, inr (entries, later)))))

-- Sixteen bytes that are no bundle are the first fault of the bundles, whatever is looked for later.
pub fault_of_spelling : (bytes : List ℕ) (later : List (Stage ImageFault)) (f : ImageFault) → IsFirstFault (spelling_stage bytes ∷ []) f
    → IsFirstFault (bundle_stages bytes later) f
fault_of_spelling bytes later f (inl found) = inl found
fault_of_spelling bytes later f (inr none) = absurd none.1
