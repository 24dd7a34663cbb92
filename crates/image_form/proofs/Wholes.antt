-- Images and their parts: a program has the image exactly where its parts are those of the bytes.
use Rattle.std.proofs.Common.{◌≡◌, ℕ, ◌+◌, ◌*◌, ◌/◌, ◌%◌, ◌^◌, ◌<◌, ◌≤◌, List, [], ◌∷◌, ◌++◌, length, length-append, take, drop, refl, sym, ap, ◌∙◌, subst, arith, IsTrue}
use Rattle.std.proofs.Math.Seq.{take-add}
use Rattle.std.proofs.lemmas.Nat.{from_le_bytes-to_le_bytes_4}
use Rattle.std.proofs.lemmas.List.{take-append-drop, take_at, drop_at, take_all, drop-drop, length-take, length-drop}
use Rattle.ia_program.specs.declared.limits.TheConstants.{BUNDLE_LIMIT}
use Rattle.ia_program.specs.declared.relations.Relation.{Relation}
use Rattle.ia_program.specs.Bundles.{Bundle}
use Rattle.ia_program.specs.Programs.{Program, IsProgram, AreInRange, AreEntries, AreRelations, AreBytes}
use Rattle.image_form.specs.declared.version.Version.{Version}
use Rattle.image_form.specs.declared.version.Version.TheVariants.{One, Two}
use Rattle.image_form.specs.Images.{has_room, Begins, number_bytes, written_relations, head_bytes, AreSpelled, IsImage}
use Rattle.image_form.specs.Parts.{numbers, relations_in, IsPadded, ArePadded, bundle_count, entry_count, data_size, relation_count, image_length, entry_bytes, after_entries, relation_bytes, after_relations, bundle_bytes, data_of, entries_of, relations_of, AreImageCounts, HasHead}
use Rattle.image_form.specs.Laws.{ImageSize}
use Rattle.image_form.proofs.NumberBytes.{bytes_take, bytes_drop, length-numbers, length-number_bytes, number_bytes-numbers, numbers-number_bytes, FitFour}
use Rattle.image_form.proofs.RelationBytes.{length-relations_in, length-written_relations, written-relations_in, relations_in-written, written_padded, HaveSmallBundles}
use Rattle.image_form.proofs.Spelled.{spelled_length}

-- The program's parts are those of the bytes, which begin as an image of this version.
pub record ArePartsOf (v : Version) (p : Program) (bytes : List ℕ) : Type 0 where
  pub head : HasHead v bytes
  pub entries : p.entries ≡ entries_of bytes
  pub relations : p.relations ≡ relations_of bytes
  pub spelled : AreSpelled p.bundles (bundle_bytes bytes)
  pub rest : p.bytes ≡ data_of bytes

-- The last two bytes of each relation are zero.
abbrev pub IsPaddedImage : List ℕ → Type 0
IsPaddedImage bytes = ArePadded (relation_count bytes) (relation_bytes bytes)

-- How long the parts are.
pub length-entry_bytes : (v : Version) (bytes : List ℕ) → HasHead v bytes → length (entry_bytes bytes) ≡ 4 * entry_count bytes
length-entry_bytes v bytes h = simp (length-take, length-drop) (omega (arith, h.size))

pub length-relation_bytes : (v : Version) (bytes : List ℕ) → HasHead v bytes → length (relation_bytes bytes) ≡ 8 * relation_count bytes
length-relation_bytes v bytes h = simp (length-take, length-drop) (omega (arith, h.size))

pub length-bundle_bytes : (v : Version) (bytes : List ℕ) → HasHead v bytes → length (bundle_bytes bytes) ≡ 16 * bundle_count bytes
length-bundle_bytes v bytes h = simp (length-take, length-drop) (omega (arith, h.size))

length-data_of : (v : Version) (bytes : List ℕ) → HasHead v bytes → length (data_of bytes) ≡ data_size bytes
length-data_of v bytes h = simp length-drop (omega (arith, h.size))

-- The program has as many bundles, entries, bytes of data and relations as the head says.
pub record HasCounts (p : Program) (bytes : List ℕ) : Type 0 where
  pub bundles : length p.bundles ≡ bundle_count bytes
  pub entries : length p.entries ≡ entry_count bytes
  pub size : length p.bytes ≡ data_size bytes
  pub relations : length p.relations ≡ relation_count bytes

pub counts_of : (v : Version) (p : Program) (bytes : List ℕ) → ArePartsOf v p bytes → HasCounts p bytes
counts_of v p bytes parts = record {
  bundles = omega (arith, spelled_length p.bundles (bundle_bytes bytes) parts.spelled, length-bundle_bytes v bytes parts.head);
  entries = ap length parts.entries ∙ length-numbers (entry_count bytes) (entry_bytes bytes);
  size = ap length parts.rest ∙ length-data_of v bytes parts.head;
  relations = ap length parts.relations ∙ length-relations_in (relation_count bytes) (relation_bytes bytes);
}

-- Where the head is right, so are the counts, and the entries where those of the bytes are.
image_counts : (v : Version) (p : Program) (bytes : List ℕ) → ArePartsOf v p bytes
    → AreImageCounts v (length p.bundles) (length p.entries) (length p.bytes) (length p.relations)
image_counts v p bytes parts = let n = counts_of v p bytes parts in rw (n.bundles, n.entries, n.size, n.relations) parts.head.counts

pub counts_right : (v : Version) (p : Program) (bytes : List ℕ) → ArePartsOf v p bytes
    → AreInRange (length p.bundles) (length p.entries) (length p.bytes) (length p.relations)
counts_right v p bytes parts = let n = image_counts v p bytes parts in n.range

pub entries_right : (v : Version) (p : Program) (bytes : List ℕ) → ArePartsOf v p bytes → AreEntries (bundle_count bytes) (entries_of bytes)
    → AreEntries (length p.bundles) p.entries
entries_right v p bytes parts are = let n = counts_of v p bytes parts in rw (n.bundles, parts.entries) are

-- The numbers of the entries' bytes are the entries.
pub entries_read : (v : Version) (bytes part : List ℕ) → HasHead v bytes → part ≡ entry_bytes bytes
    → numbers (length part / 4) part ≡ entries_of bytes
entries_read v bytes part h is =
    let size : length part ≡ 4 * entry_count bytes = ap length is ∙ length-entry_bytes v bytes h in
    let count : length part / 4 ≡ entry_count bytes = omega arith in
    rw (count, is) refl

-- The relations of the relations' bytes are the relations.
pub relations_read : (v : Version) (bytes part : List ℕ) → HasHead v bytes → part ≡ relation_bytes bytes
    → relations_in (length part / 8) part ≡ relations_of bytes
relations_read v bytes part h is =
    let size : length part ≡ 8 * relation_count bytes = ap length is ∙ length-relation_bytes v bytes h in
    let count : length part / 8 ≡ relation_count bytes = omega arith in
    rw (count, is) refl

-- What was read of the parts.
pub parts_read : (v : Version) (p : Program) (bytes e r b d : List ℕ) → HasHead v bytes → e ≡ entry_bytes bytes → r ≡ relation_bytes bytes
    → b ≡ bundle_bytes bytes → d ≡ data_of bytes → p.entries ≡ numbers (length e / 4) e → p.relations ≡ relations_in (length r / 8) r
    → AreSpelled p.bundles b → p.bytes ≡ d → ArePartsOf v p bytes
parts_read v p bytes e r b d h entries relations bundles rest read also spelled last = record {
  head = h;
  entries = read ∙ entries_read v bytes e h entries;
  relations = also ∙ relations_read v bytes r h relations;
  spelled = subst (AreSpelled p.bundles) bundles spelled;
  rest = last ∙ rest;
}

pub padded_read : (v : Version) (p : Program) (bytes r : List ℕ) → ArePartsOf v p bytes → r ≡ relation_bytes bytes
    → ArePadded (length p.relations) r → IsPaddedImage bytes
padded_read v p bytes r parts is padded =
    let n = counts_of v p bytes parts in
    subst (ArePadded (relation_count bytes)) is (subst (λ (k : ℕ). ArePadded k r) n.relations padded)

-- The numbers of the head, one after the other.
head_numbers : (bytes : List ℕ) → numbers 4 (drop 8 bytes) ≡ bundle_count bytes ∷ entry_count bytes ∷ data_size bytes ∷ relation_count
    bytes ∷ []
head_numbers bytes = simp drop-drop

-- The head is what is written of its numbers.
head_back : (v : Version) (bytes : List ℕ) → AreBytes bytes → HasHead v bytes
    → head_bytes v (bundle_count bytes) (entry_count bytes) (data_size bytes) (relation_count bytes) ≡ take 24 bytes
head_back v bytes are h =
    let four : number_bytes (bundle_count bytes ∷ entry_count bytes ∷ data_size bytes ∷ relation_count bytes ∷ [])
    ≡ take 16 (drop 8 bytes) =
    ap number_bytes (sym (head_numbers bytes))
    ∙ number_bytes-numbers 4 (drop 8 bytes) (rw (length-drop 8 bytes) (omega (arith, h.long))) (bytes_drop 8 bytes are) in
    ap (λ l. l ++ number_bytes (bundle_count bytes ∷ entry_count bytes ∷ data_size bytes ∷ relation_count bytes ∷ [])) (sym h.begins)
    ∙ ap (λ l. take 8 bytes ++ l) four
    ∙ sym (take-add 8 16 bytes)

pub after_entries_are : (bytes : List ℕ) → AreBytes bytes → AreBytes (after_entries bytes)
after_entries_are bytes are = bytes_drop (4 * entry_count bytes) (drop 24 bytes) (bytes_drop 24 bytes are)

entries_back : (v : Version) (bytes : List ℕ) → AreBytes bytes → HasHead v bytes → number_bytes (entries_of bytes) ≡ entry_bytes bytes
entries_back v bytes are h =
    let size = length-entry_bytes v bytes h in
    number_bytes-numbers (entry_count bytes) (entry_bytes bytes) (omega arith)
    (bytes_take (4 * entry_count bytes) (drop 24 bytes) (bytes_drop 24 bytes are))
    ∙ take_all (4 * entry_count bytes) (entry_bytes bytes) (omega arith)

-- The bytes of relations are what is written of them, where the last two of each are zero.
relations_back : (v : Version) (bytes : List ℕ) → AreBytes bytes → HasHead v bytes → IsPaddedImage bytes
    → written_relations (relations_of bytes) ≡ relation_bytes bytes
relations_back v bytes are h padded =
    let size = length-relation_bytes v bytes h in
    written-relations_in (relation_count bytes) (relation_bytes bytes) (omega arith)
    (bytes_take (8 * relation_count bytes) (after_entries bytes) (after_entries_are bytes are)) padded
    ∙ take_all (8 * relation_count bytes) (relation_bytes bytes) (omega arith)

-- The bytes in their parts.
in_parts : (bytes : List ℕ) → bytes ≡ take 24 bytes ++ (entry_bytes
    bytes ++ (relation_bytes bytes ++ (bundle_bytes bytes ++ data_of bytes)))
in_parts bytes =
    sym (take-append-drop 24 bytes)
    ∙ ap (λ l. take 24 bytes ++ l) (
    sym (take-append-drop (4 * entry_count bytes) (drop 24 bytes))
    ∙ ap (λ l. entry_bytes bytes ++ l) (
    sym (take-append-drop (8 * relation_count bytes) (after_entries bytes))
    ∙ ap (λ l. relation_bytes bytes ++ l) (sym (take-append-drop (16 * bundle_count bytes) (after_relations bytes)))
    )
    )

-- A program of the parts has the image.
pub image_of_parts : (v : Version) (p : Program) (bytes : List ℕ) → AreBytes bytes → IsProgram p → ArePartsOf v p bytes
    → IsPaddedImage bytes → IsImage v p bytes
image_of_parts v p bytes are program parts padded =
    let counts = image_counts v p bytes parts in
    let n = counts_of v p bytes parts in
    let head : take 24 bytes ≡ head_bytes v (length p.bundles) (length p.entries) (length p.bytes) (length p.relations) =
    rw (n.bundles, n.entries, n.size, n.relations) (sym (head_back v bytes are parts.head)) in
    let entries : entry_bytes bytes ≡ number_bytes p.entries = sym (ap number_bytes parts.entries ∙ entries_back v bytes are parts.head) in
    let relations : relation_bytes bytes ≡ written_relations p.relations =
    sym (ap written_relations parts.relations ∙ relations_back v bytes are parts.head padded) in
    let rest : data_of bytes ≡ p.bytes = sym parts.rest in
    record {
      program = program;
      room = counts.room;
      bundles = bundle_bytes bytes;
      spelled = parts.spelled;
      whole = in_parts bytes ∙ (λ i. head i ++ (entries i ++ (relations i ++ (bundle_bytes bytes ++ rest i))));
    }

-- The counts that the head of an image says, and what follows it.
record IsHeadedBy (v : Version) (b e d r : ℕ) (after bytes : List ℕ) : Type 0 where
  begins : Begins v bytes
  bundles : bundle_count bytes ≡ b
  entries : entry_count bytes ≡ e
  size : data_size bytes ≡ d
  relations : relation_count bytes ≡ r
  rest : drop 24 bytes ≡ after
  long : length bytes ≡ 24 + length after

headed : (v : Version) (b e d r : ℕ) (after : List ℕ) → b < 2 ^ 32 → e < 2 ^ 32 → d < 2 ^ 32 → r < 2 ^ 32
    → IsHeadedBy v b e d r after (head_bytes v b e d r ++ after)
headed One b e d r after hb he hd hr = record {
  begins = refl;
  bundles = from_le_bytes-to_le_bytes_4 b hb;
  entries = from_le_bytes-to_le_bytes_4 e he;
  size = from_le_bytes-to_le_bytes_4 d hd;
  relations = from_le_bytes-to_le_bytes_4 r hr;
  rest = refl;
  long = length-append (head_bytes One b e d r) after;
}
headed Two b e d r after hb he hd hr = record {
  begins = refl;
  bundles = from_le_bytes-to_le_bytes_4 b hb;
  entries = from_le_bytes-to_le_bytes_4 e he;
  size = from_le_bytes-to_le_bytes_4 d hd;
  relations = from_le_bytes-to_le_bytes_4 r hr;
  rest = refl;
  long = length-append (head_bytes Two b e d r) after;
}

entries_fit : (count : ℕ) (entries : List ℕ) → count ≤ BUNDLE_LIMIT → AreEntries count entries → FitFour entries
entries_fit count entries most are k less = let i = (are k less).inside in omega arith

relations_fit : (bundles : List Bundle) (entries : List ℕ) (relations : List Relation) → length bundles ≤ BUNDLE_LIMIT
    → AreRelations bundles entries relations → HaveSmallBundles relations
relations_fit bundles entries relations most are k less = let i = (are k less).entry.inside in omega arith

-- The program's parts are those of its image, and the last two bytes of each relation are zero.
record IsInParts (v : Version) (p : Program) (bytes : List ℕ) : Type 0 where
  parts : ArePartsOf v p bytes
  padded : IsPaddedImage bytes

in_its_parts : (v : Version) (p : Program) (bundles : List ℕ) → IsProgram p → IsTrue (has_room v (length p.bundles) (length p.relations))
    → AreSpelled p.bundles bundles → IsInParts v p (head_bytes v (length p.bundles) (length p.entries) (length p.bytes)
    (length p.relations) ++ (number_bytes p.entries ++ (written_relations p.relations ++ (bundles ++ p.bytes))))
in_its_parts v p bundles program room spelled = record {
  parts = record {
    head = record {
      long = omega (arith, head.long);
      begins = head.begins;
      counts = rw (head.bundles, head.entries, head.size, head.relations) (record { range = counts; room = room });
      size = size;
    };
    entries =
        sym (ap (λ k. numbers k (entry_bytes image)) head.entries ∙ ap (numbers (length p.entries)) entry_part
        ∙ numbers-number_bytes p.entries (entries_fit (length p.bundles) p.entries counts.bundles program.entries));
    relations =
        sym (ap (λ k. relations_in k (relation_bytes image)) head.relations ∙ ap (relations_in (length p.relations)) relation_part
        ∙ relations_in-written p.relations (relations_fit p.bundles p.entries p.relations counts.bundles program.relations));
    spelled = subst (AreSpelled p.bundles) (sym bundle_part) spelled;
    rest = sym data_part;
  };
  padded =
      λ n less. subst (λ (l : List ℕ). IsPadded l n) (sym relation_part) (written_padded p.relations n (omega (arith, head.relations)));
}
  where
    after : List ℕ
    after = written_relations p.relations ++ (bundles ++ p.bytes)

    image : List ℕ
    image =
        head_bytes v (length p.bundles) (length p.entries) (length p.bytes)
        (length p.relations) ++ (number_bytes p.entries ++ (written_relations p.relations ++ (bundles ++ p.bytes)))

    counts : AreInRange (length p.bundles) (length p.entries) (length p.bytes) (length p.relations)
    counts = program.counts

    head : IsHeadedBy v (length p.bundles) (length p.entries) (length p.bytes) (length p.relations)
        (number_bytes p.entries ++ (written_relations p.relations ++ (bundles ++ p.bytes))) image
    head =
        headed v (length p.bundles) (length p.entries) (length p.bytes) (length p.relations)
        (number_bytes p.entries ++ (written_relations p.relations ++ (bundles ++ p.bytes))) (omega (arith, counts.bundles))
        (omega (arith, counts.entries)) (omega (arith, counts.bytes)) (omega (arith, counts.relations))

    size : length image ≡ image_length image
    size =
        rw (head.bundles, head.entries, head.size, head.relations) (omega (
          arith,
          head.long,
          length-append (number_bytes p.entries) after,
          length-append (written_relations p.relations) (bundles ++ p.bytes),
          length-append bundles p.bytes,
          length-number_bytes p.entries,
          length-written_relations p.relations,
          spelled_length p.bundles bundles spelled,
        ))

    entry_part : entry_bytes image ≡ number_bytes p.entries
    entry_part =
        rw (head.entries, head.rest) (take_at (number_bytes p.entries) after (4 * length p.entries) (length-number_bytes p.entries))

    after_entry_part : after_entries image ≡ written_relations p.relations ++ (bundles ++ p.bytes)
    after_entry_part =
        rw (head.entries, head.rest) (drop_at (number_bytes p.entries) after (4 * length p.entries) (length-number_bytes p.entries))

    relation_part : relation_bytes image ≡ written_relations p.relations
    relation_part =
        rw (head.relations, after_entry_part) (take_at (written_relations p.relations) (bundles ++ p.bytes) (8 * length p.relations)
        (length-written_relations p.relations))

    after_relation_part : after_relations image ≡ bundles ++ p.bytes
    after_relation_part =
        rw (head.relations, after_entry_part) (drop_at (written_relations p.relations) (bundles ++ p.bytes) (8 * length p.relations)
        (length-written_relations p.relations))

    bundle_part : bundle_bytes image ≡ bundles
    bundle_part =
        rw (head.bundles, after_relation_part) (take_at bundles p.bytes (16 * length p.bundles) (spelled_length p.bundles bundles spelled))

    data_part : data_of image ≡ p.bytes
    data_part =
        rw (head.bundles, after_relation_part) (drop_at bundles p.bytes (16 * length p.bundles) (spelled_length p.bundles bundles spelled))

in_parts_of : (v : Version) (p : Program) (bytes : List ℕ) → IsImage v p bytes → IsInParts v p bytes
in_parts_of v p bytes s = subst (IsInParts v p) (sym s.whole) (in_its_parts v p s.bundles s.program s.room s.spelled)

-- The parts of an image are the program's.
pub parts_of_image : (v : Version) (p : Program) (bytes : List ℕ) → IsImage v p bytes → ArePartsOf v p bytes
parts_of_image v p bytes s = let i = in_parts_of v p bytes s in i.parts

pub padded_image : (v : Version) (p : Program) (bytes : List ℕ) → IsImage v p bytes → IsPaddedImage bytes
padded_image v p bytes s = let i = in_parts_of v p bytes s in i.padded

pub image_size : ImageSize
image_size p bytes (v, s) =
    let parts = parts_of_image v p bytes s in
    let n = counts_of v p bytes parts in
    omega (arith, parts.head.size, n.bundles, n.entries, n.size, n.relations)

-- Where there are neither entries nor data nor relations, the counts are right where that of the whole bundles is.
pub raw_counts : (p : Program) (bytes : List ℕ) → length bytes % 16 ≡ 0 → AreInRange (length bytes / 16) 0 0 0 → AreSpelled p.bundles bytes
    → p.entries ≡ [] → p.bytes ≡ [] → p.relations ≡ [] → AreInRange (length p.bundles) (length p.entries) (length p.bytes)
    (length p.relations)
raw_counts p bytes whole counts spelled no_entries no_data no_relations =
    let n = spelled_length p.bundles bytes spelled in
    let same : length p.bundles ≡ length bytes / 16 = omega arith in
    rw (no_entries, no_data, no_relations, same) counts
