-- The canonical text of a program is read as the program.
use Rattle.std.proofs.Common.{◌≡◌, ◌∙◌, ℕ, zero, suc, ◌-◌, ◌<◌, ◌≤◌, ◌%◌, true, ◌==◌, List, [], ◌∷◌, ◌++◌, length, map, codes, replicate, Some, None, Ok, refl, sym, ap, subst, arith, append-nil}
use Rattle.std.specs.Prelude.{slice_index}
use Rattle.std.specs.List.{AllByRecursion}
use Rattle.std.specs.Map.{values_of}
use Rattle.std.proofs.lemmas.Bool.{eq-eqb, or_left, or_right}
use Rattle.first_fault.specs.Stages.{ArePassed}
use Rattle.ia_program.specs.declared.limits.TheConstants.{DATA_LIMIT}
use Rattle.bstr.specs.Text.{without_terminator}
use Rattle.bstr.proofs.lemmas.LineLemmas.{lines-nil}
use Rattle.ia_program.specs.Bundles.{Bundle}
use Rattle.ia_program.specs.Places.{EachPlace}
use Rattle.ia_program.specs.declared.relations.Relation.{Relation}
use Rattle.ia_program.specs.Programs.{Program, IsProgram, IsEntryOf, AreBytes, no_relation, relations_at}
use Rattle.ia_program.specs.Runs.{IsWithinRun}
use Rattle.asm_printing.specs.SlotTexts.{label_text}
use Rattle.asm_build.specs.declared.address.Address.TheVariants as address
use Rattle.asm_build.specs.declared.draft.BundleLines.{BundleLines}
use Rattle.asm_build.specs.declared.text_parts.EntryLine.{EntryLine}
use Rattle.asm_build.specs.declared.text_parts.RelationLine.{RelationLine}
use Rattle.asm_build.specs.declared.text_parts.Section.{Section}
use Rattle.asm_build.specs.declared.text_parts.Section.TheVariants as section
use Rattle.asm_build.specs.Addresses.{IsInside}
use Rattle.asm_build.specs.CanonicalText.{line as text_line, is_among, targets_from, bundles_text, words_of, words_text, data_text, canonical_text}
use Rattle.asm_build.specs.Names.{all_declared, bundles_named, earlier, name_fault, or_none, padded, unnamed_bundle}
use Rattle.asm_build.specs.Relations.{all_related, relation_stages}
use Rattle.asm_build.specs.RoundTrip.{CanonicalTextReads}
use Rattle.asm_build.specs.TextParts.{TextParts, Labels, start, address_of, AreLabelsInside}
use Rattle.asm_build.specs.TextReading.{text_lines, ComesTo, AllSay, Reads}
use Rattle.asm_build.proofs.DataBack.{words_small, words_back}
use Rattle.asm_build.proofs.EntriesSoFar.{each_below, entries_rise, declared_in_turn}
use Rattle.asm_build.proofs.KeysBelow.{none_below_zero, all_below}
use Rattle.asm_build.proofs.LabelsSoFar.{no_labels}
use Rattle.asm_build.proofs.NamesPutIn.{AreLabelled, bundles_back, all_names_mean}
use Rattle.asm_build.proofs.RelationSets.{fit_of_relations}
use Rattle.asm_build.proofs.RelationsSoFar.{bundle_of, relations_below, IsPrinted, AreRelationLines, relations_rise, relations_fit, relations_inside, printed_at, related_in_turn}
use Rattle.asm_build.proofs.Taking.{Goes, stays, goes_on}
use Rattle.asm_build.proofs.WrittenBundles.{SlotsSay, outside}
use Rattle.asm_build.proofs.WrittenData.{data_goes}
use Rattle.asm_build.proofs.WrittenTexts.{as_many, SoFar, AreGood, good_of, all_go}

-- Outside a bundle, in either section.
abbrev finished : Section → List BundleLines → List EntryLine → List RelationLine → Labels → List ℕ → TextParts
finished s bs es rs ls bytes =
    record { section = s; current = None; bundles = bs; entries = es; relations = rs; labels = ls; bytes = bytes }

-- Lines that come to the end.
record Finishes (bs : List BundleLines) (es : List EntryLine) (rs : List RelationLine) (ls : Labels) (line : ℕ)
    (text bytes : List ℕ) : Type 0 where
  pub section : Section
  pub next : ℕ
  pub goes : Goes (outside bs es rs ls) line text (finished section bs es rs ls bytes) next

-- The lines of the data.
data_finishes : (bs : List BundleLines) (es : List EntryLine) (rs : List RelationLine) (ls : Labels) (line : ℕ) (bytes : List ℕ)
    → AreBytes bytes → length bytes % 8 ≡ 0 → length bytes ≤ DATA_LIMIT → Finishes bs es rs ls line (data_text bytes) bytes
data_finishes bs es rs ls line [] small eights room =
    record { section = section.Text; next = line; goes = stays (outside bs es rs ls) line }
data_finishes bs es rs ls line (b ∷ bytes) small eights room =
    let back = words_back (b ∷ bytes) small eights in
    let read = data_goes bs es rs ls line (words_of (b ∷ bytes)) (words_small (b ∷ bytes) small) (omega (arith, room, ap length back)) in
    record {
      section = section.Data;
      next = read.next;
      goes =
          subst (λ end. Goes (outside bs es rs ls) line (text_line (codes ".data") ++ words_text 0 (words_of (b ∷ bytes)))
          (finished section.Data bs es rs ls end) read.next) back read.goes;
    }

among_at : (xs : List ℕ) (k : ℕ) → k < length xs → is_among xs (slice_index xs k) ≡ true
among_at [] k h = absurd (omega (arith, h))
among_at (x ∷ xs) zero h = or_left (x == x) (is_among xs x) (eq-eqb x x refl)
among_at (x ∷ xs) (suc k) h = or_right (x == slice_index xs k) (is_among xs (slice_index xs k)) (among_at xs k (omega (arith, h)))

-- Data of whole words stay.
nothing_padded : (bytes : List ℕ) → length bytes % 8 ≡ 0 → padded bytes ≡ bytes
nothing_padded bytes h =
    let none : (8 - length bytes % 8) % 8 ≡ 0 = rw h refl in
    ap (λ n. bytes ++ replicate n 0) none ∙ append-nil bytes

-- The lines come to the state.
all_say : (text : List ℕ) (s : TextParts) (next : ℕ) → Goes start 1 text s next → AllSay text s
all_say text s next goes =
    let none : text_lines [] ≡ [] = ap (map without_terminator) lines-nil in
    subst (λ t. ComesTo start 1 (text_lines t) (Ok s)) (append-nil text)
    (goes [] (Ok s) (subst (λ ls. ComesTo s next ls (Ok s)) (sym none) refl))

abbrev program : List Bundle → List ℕ → List ℕ → List Relation → Program
program bs es bytes rs = record { bundles = bs; entries = es; bytes = bytes; relations = rs }

same_program : (bs cs : List Bundle) (es fs bytes more : List ℕ) (rs qs : List Relation) → bs ≡ cs → es ≡ fs → bytes ≡ more → rs ≡ qs
    → program bs es bytes rs ≡ program cs fs more qs
same_program bs cs es fs bytes more rs qs b e d r =
    ap (λ xs. program xs es bytes rs) b ∙ ap (λ xs. program cs xs bytes rs) e ∙ ap (λ xs. program cs fs xs rs) d
    ∙ ap (λ xs. program cs fs more xs) r

-- What is looked for after the last line isn't found, and the program is given back.
given_back : (p : Program) → IsProgram p → (s : Section) (bs : List BundleLines) (es : List EntryLine) (rs : List RelationLine)
    (ls : Labels) (next : ℕ) → SoFar p.entries (targets_from 0 p.bundles) p.relations (length p.bundles)
    (length p.bundles) p.bundles bs es rs ls
    → AreGood (length p.bundles) 0 p.bundles → Goes start 1 (canonical_text p) (finished s bs es rs ls p.bytes) next
    → Reads (canonical_text p) p
given_back p h s bs es rs ls next so_far good goes =
    let count = length p.bundles in
    let there : length bs ≡ count = as_many 0 p.bundles bs so_far.bundles in
    let labelled : AreLabelled ls count (targets_from 0 p.bundles) =
    λ m less is. so_far.labels.named m less (or_right (is_among p.entries m) (is_among (targets_from 0 p.bundles) m) is) in
    let bundles : bundles_named ls 0 bs ≡ p.bundles = bundles_back ls count 0 p.bundles bs good so_far.bundles labelled in
    let names : unnamed_bundle ls 0 bs ≡ None = all_names_mean ls count 0 p.bundles bs good so_far.bundles labelled in
    let inside : (k : ℕ) → k < length p.entries → slice_index p.entries k < count = λ k less. (h.entries k less).inside in
    let lines : map (λ (e : EntryLine). e.name) es ≡ map label_text p.entries =
    so_far.entry_lines ∙ ap (map label_text) (all_below (λ m. m) count p.entries (each_below count p.entries inside)) in
    let found : (k : ℕ) → k < length p.entries → address_of ls (label_text (slice_index p.entries k))
    ≡ Some (address.Bundle (slice_index p.entries k)) =
    λ k less. so_far.labels.named (slice_index p.entries k) (inside k less)
    (or_left (is_among p.entries (slice_index p.entries k)) (is_among (targets_from 0 p.bundles) (slice_index p.entries k))
    (among_at p.entries k less)) in
    let entries : all_declared ls [] es ≡ Ok p.entries =
    declared_in_turn ls [] p.entries es lines found 1 (omega arith) tt (entries_rise count p.entries h.entries)
    (omega (arith, h.counts.entries)) in
    let no_fault : name_fault (finished s bs es rs ls p.bytes) ≡ None =
    ap (λ o. earlier o (all_declared ls [] es)) names ∙ ap (earlier None) entries in
    let relation_lines : AreRelationLines p.relations rs =
    subst (λ ds. AreRelationLines ds rs) (all_below bundle_of count p.relations
    (relations_inside p.bundles p.entries p.relations h.relations)) so_far.relation_lines in
    let related =
    related_in_turn p.bundles p.entries no_relation [] p.relations rs relation_lines
    (fit_of_relations p.bundles p.entries p.relations h.relations) (λ r after. tt) (omega (arith, h.counts.relations)) in
    let passed : ArePassed (relation_stages (IsEntryOf (bundles_named ls 0 bs) (or_none (all_declared ls [] es))) [] rs) =
    subst (λ cs. ArePassed (relation_stages (IsEntryOf cs (or_none (all_declared ls [] es))) [] rs)) (sym bundles)
    (subst (λ fs. ArePassed (relation_stages (IsEntryOf p.bundles fs) [] rs)) (sym (ap or_none entries)) related.passed) in
    let labels : AreLabelsInside (finished s bs es rs ls p.bytes) =
    subst (λ n. AllByRecursion (IsInside n) (values_of ls)) (sym there) so_far.labels.inside in
    record {
      parts = finished s bs es rs ls p.bytes;
      lines = all_say (canonical_text p) (finished s bs es rs ls p.bytes) next goes;
      whole = (
        (refl, labels),
        (
          omega (arith, there, h.counts.some),
          (
            no_fault,
            (passed, (subst (λ cs. EachPlace cs (IsWithinRun cs)) (sym bundles) h.runs, tt)),
          ),
        ),
      );
      program =
          sym (same_program (bundles_named ls 0 bs) p.bundles (or_none (all_declared ls [] es)) p.entries (padded p.bytes) p.bytes
          (all_related [] rs) p.relations bundles (ap or_none entries) (nothing_padded p.bytes h.counts.words) related.all);
    }

-- The canonical text of a program reads as it.
pub read_back : SlotsSay → (p : Program) → CanonicalTextReads p
read_back say p h =
    let count = length p.bundles in
    let targets = targets_from 0 p.bundles in
    let good = good_of p h in
    let no_lines : AreRelationLines (relations_below 0 p.relations) [] = rw (none_below_zero bundle_of p.relations) tt in
    let none : SoFar p.entries targets p.relations count 0 [] [] [] [] [] =
    record {
      written = refl;
      bundles = tt;
      entry_lines = sym (ap (map label_text) (none_below_zero (λ m. m) p.entries));
      relation_lines = no_lines;
      labels = no_labels p.entries targets count;
    } in
    let printed : (m : ℕ) → AllByRecursion (IsPrinted m) (relations_at p.relations m) =
    λ m. printed_at p.bundles p.entries m p.relations (relations_fit p.bundles p.entries p.relations h.relations) in
    let order = relations_rise p.bundles p.entries p.relations h.relations in
    let all =
    all_go say p.entries targets p.relations count 1 0 [] p.bundles [] [] [] []
    (entries_rise count p.entries h.entries) order printed (omega arith) h.counts.bundles good none in
    let end =
    data_finishes all.bundles all.entry_lines all.relation_lines all.labels all.next p.bytes h.bytes h.counts.words h.counts.bytes in
    given_back p h end.section all.bundles all.entry_lines all.relation_lines all.labels end.next all.so_far good
    (goes_on start (outside all.bundles all.entry_lines all.relation_lines all.labels)
    (finished end.section all.bundles all.entry_lines all.relation_lines all.labels p.bytes) 1 all.next end.next
    (bundles_text p.entries targets p.relations 0 p.bundles) (data_text p.bytes) all.goes end.goes)
