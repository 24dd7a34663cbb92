-- Programs and their bytes correspond one to one, and the bytes of a program have no fault.
use Rattle.std.proofs.Common.{◌≡◌, ℕ, ◌/◌, ◌%◌, ◌<◌, List, ◌++◌, length, refl, sym, ap, ◌∙◌, subst, arith}
use Rattle.first_fault.specs.Stages.{ArePassed}
use Rattle.first_fault.proofs.Laws.{no_fault}
use Rattle.ia_program.specs.Programs.{Program, AreInRange, AreEntries, AreRelations}
use Rattle.insn_codec.specs.Laws as codec
use Rattle.image_form.specs.declared.version.Version.{Version}
use Rattle.image_form.specs.Images.{number_bytes, written_relations, head_bytes, IsImage, RawSpells}
use Rattle.image_form.specs.Parts.{bundle_count, relation_count, bundle_bytes, relation_bytes, entries_of, relations_of}
use Rattle.image_form.specs.Faults.{AreRelationsRight, image_stages, raw_stages}
use Rattle.image_form.specs.Laws.{OneProgram, OneImage, NoFaultWhereSpelled, OneRawProgram, NoFaultWhereRaw}
use Rattle.image_form.proofs.Spelled.{spelled_length, same_bundles, same_bytes}
use Rattle.image_form.proofs.Wholes.{counts_of, parts_of_image, padded_image}
use Rattle.image_form.proofs.Stages.{counts_hold, image_sound, raw_sound}

same_program : (p q : Program) → p.bundles ≡ q.bundles → p.entries ≡ q.entries → p.bytes ≡ q.bytes → p.relations ≡ q.relations → p ≡ q
same_program p q bundles entries bytes relations =
    λ i. record { bundles = bundles i; entries = entries i; bytes = bytes i; relations = relations i }

pub one_program : codec.OneBundle → OneProgram
one_program one bytes p q (v, s) (w, t) =
    let a = parts_of_image v p bytes s in
    let b = parts_of_image w q bytes t in
    same_program p q (same_bundles one (bundle_bytes bytes) p.bundles q.bundles a.spelled b.spelled) (a.entries ∙ sym b.entries)
    (a.rest ∙ sym b.rest) (a.relations ∙ sym b.relations)

pub one_image : codec.OneSpelling → OneImage
one_image one v p x y s t =
    s.whole
    ∙ ap (λ l. head_bytes v (length p.bundles) (length p.entries) (length p.bytes)
    (length p.relations) ++ (number_bytes p.entries ++ (written_relations p.relations ++ (l ++ p.bytes))))
    (same_bytes one p.bundles s.bundles t.bundles s.spelled t.spelled)
    ∙ sym t.whole

pub one_raw_program : codec.OneBundle → OneRawProgram
one_raw_program one bytes p q s t =
    same_program p q (same_bundles one bytes p.bundles q.bundles s.spelled t.spelled) (s.no_entries ∙ sym t.no_entries)
    (s.no_data ∙ sym t.no_data) (s.no_relations ∙ sym t.no_relations)

-- The relations of an image are right.
relations_right : (v : Version) (p : Program) (bytes : List ℕ) → IsImage v p bytes
    → AreRelationsRight p.bundles (entries_of bytes) (relations_of bytes) (relation_bytes bytes)
relations_right v p bytes s =
    let parts = parts_of_image v p bytes s in
    let count = counts_of v p bytes parts in
    let are : AreRelations p.bundles (entries_of bytes) (relations_of bytes) =
    rw (← parts.entries, ← parts.relations) s.program.relations in
    λ n less.
    let inside : n < relation_count bytes = omega (arith, ap length parts.relations, count.relations) in
    record { declared = are n less; padded = padded_image v p bytes s n inside }

-- The bytes of a program pass each stage of the search for a fault.
image_passed : (v : Version) (p : Program) (bytes : List ℕ) → IsImage v p bytes → ArePassed (image_stages bytes)
image_passed v p bytes s =
    let parts = parts_of_image v p bytes s in
    let n = counts_of v p bytes parts in
    let entries : AreEntries (bundle_count bytes) (entries_of bytes) =
    subst (AreEntries (bundle_count bytes)) parts.entries (subst (λ (k : ℕ). AreEntries k p.entries) n.bundles s.program.entries) in (
      parts.head.long,
      (
        (v, parts.head.begins),
        (
          counts_hold v bytes parts.head,
          (
            parts.head.size,
            (
              entries,
              (
                (p.bundles, parts.spelled, tt),
                (
                  (p.bundles, parts.spelled, s.program.targets),
                  ((p.bundles, parts.spelled, s.program.runs), ((p.bundles, parts.spelled, relations_right v p bytes s), tt)),
                ),
              ),
            ),
          ),
        ),
      ),
    )

raw_passed : (p : Program) (bytes : List ℕ) → RawSpells p bytes → ArePassed (raw_stages bytes)
raw_passed p bytes s =
    let n = spelled_length p.bundles bytes s.spelled in
    let counts : AreInRange (length bytes / 16) 0 0 0 =
    record {
      some = omega (arith, s.program.counts.some);
      bundles = omega (arith, s.program.counts.bundles);
      entries = omega arith;
      bytes = omega arith;
      words = refl;
      relations = omega arith;
    } in
    let whole : length bytes % 16 ≡ 0 = omega arith in (
      counts,
      (
        whole,
        (
          (p.bundles, s.spelled, tt),
          ((p.bundles, s.spelled, s.program.targets), ((p.bundles, s.spelled, s.program.runs), tt)),
        ),
      ),
    )

pub no_image_fault : codec.OneBundle → codec.OneFault → codec.NoFaultWhereSpelled → NoFaultWhereSpelled
no_image_fault bundle one none p bytes f (v, s) =
    no_fault (image_stages bytes) (image_sound bundle one none bytes) (image_passed v p bytes s) f

pub no_raw_fault : codec.OneBundle → codec.OneFault → codec.NoFaultWhereSpelled → NoFaultWhereRaw
no_raw_fault bundle one none p bytes f s = no_fault (raw_stages bytes) (raw_sound bundle one none bytes) (raw_passed p bytes s) f
