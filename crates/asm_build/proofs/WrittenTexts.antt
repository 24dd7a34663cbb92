-- What the lines of printed bundles come to, with their labels and declared entries.
use Rattle.std.proofs.Common.{◌≡◌, ◌∙◌, ℕ, suc, ◌+◌, ◌<◌, ◌≤◌, ◌^◌, Bool, true, false, ◌||◌, List, [], ◌∷◌, ◌++◌, length, map, codes, None, refl, sym, ap, subst, arith, append_assoc, append-nil, length-append}
use Rattle.std.specs.Prelude.{if◌then◌else◌, IfSome, slice_get}
use Rattle.std.specs.BTreeMap.{insert_entry}
use Rattle.std.specs.List.{AllByRecursion}
use Rattle.std.specs.Cmp.Lexicographic.{slice_cmp}
use Rattle.std.specs.Ordering.{nat_cmp}
use Rattle.std.proofs.lemmas.List.{map-append}
use Rattle.ia_program.specs.declared.limits.TheConstants.{BUNDLE_LIMIT}
use Rattle.ia_program.specs.Bundles.{Bundle, IsBundle}
use Rattle.ia_program.specs.declared.relations.Relation.{Relation}
use Rattle.ia_program.specs.Programs.{Program, IsProgram, relations_at}
use Rattle.asm_reading.specs.declared.line.Line.TheVariants as line
use Rattle.asm_printing.specs.SlotTexts.{label_text}
use Rattle.asm_build.specs.declared.address.Address.TheVariants as address
use Rattle.asm_build.specs.declared.draft.BundleLines.{BundleLines}
use Rattle.asm_build.specs.declared.text_parts.EntryLine.{EntryLine}
use Rattle.asm_build.specs.declared.text_parts.RelationLine.{RelationLine}
use Rattle.asm_build.specs.CanonicalText.{line as text_line, is_among, relations_text, head_text, slots_text, bundle_text, bundles_text}
use Rattle.asm_build.specs.Marks.{AreSound}
use Rattle.asm_build.specs.TextParts.{Labels, address_of}
use Rattle.asm_build.proofs.EntriesSoFar.{Rise, entries_below, one_below}
use Rattle.asm_build.proofs.KeysBelow.{next_below}
use Rattle.asm_build.proofs.LabelsSoFar.{HasLabels, one_label, same_labels}
use Rattle.asm_build.proofs.PrintedLines.{label_says, entry_says}
use Rattle.asm_build.proofs.RelationsSoFar.{bundle_of, relations_below, BundlesFrom, IsPrinted, AreRelationLines, relations_go}
use Rattle.asm_build.proofs.Soundness.{all_sound}
use Rattle.asm_build.proofs.Taking.{Goes, stays, goes_on, line_goes}
use Rattle.asm_build.proofs.WrittenBundles.{SlotsSay, outside, AreLinesOf, bundle_goes}

-- Lines of bundles, the first of which is the n-th.
abbrev pub AreAllLinesOf : ℕ → List Bundle → List BundleLines → Type 0
AreAllLinesOf n [] [] = Unit {0}
AreAllLinesOf n (b ∷ bs) (l ∷ ls) = AreLinesOf n b l × AreAllLinesOf (n + 1) bs ls
AreAllLinesOf n bs ls = ⊥

pub as_many : (n : ℕ) (bs : List Bundle) (ls : List BundleLines) → AreAllLinesOf n bs ls → length ls ≡ length bs
as_many n [] [] h = refl
as_many n (b ∷ bs) [] h = absurd h
as_many n [] (l ∷ ls) h = absurd h
as_many n (b ∷ bs) (l ∷ ls) h = ap suc (as_many (n + 1) bs ls h.1)

one_more : (n m : ℕ) (bs : List Bundle) (ls : List BundleLines) (b : Bundle) (l : BundleLines) → m ≡ n + length bs → AreAllLinesOf n bs ls
    → AreLinesOf m b l → AreAllLinesOf n (bs ++ b ∷ []) (ls ++ l ∷ [])
one_more n m [] [] b l e h one = (subst (λ k. AreLinesOf k b l) (e ∙ omega arith) one, tt)
one_more n m (c ∷ bs) [] b l e h one = absurd h
one_more n m [] (k ∷ ls) b l e h one = absurd h
one_more n m (c ∷ bs) (k ∷ ls) b l e h one = (h.0, one_more (n + 1) m bs ls b l (omega (arith, e)) h.1 one)

-- What the lines of the first n bundles come to.
pub record SoFar (entries targets : List ℕ) (relations : List Relation) (count n : ℕ) (done : List Bundle) (bs : List BundleLines)
    (es : List EntryLine) (rs : List RelationLine) (ls : Labels) : Type 0 where
  pub written : length done ≡ n
  pub bundles : AreAllLinesOf 0 done bs
  pub entry_lines : map (λ e. e.name) es ≡ map label_text (entries_below n entries)
  pub relation_lines : AreRelationLines (relations_below n relations) rs
  pub labels : HasLabels entries targets count n ls

abbrev next_if : Bool → ℕ → ℕ
next_if true k = k + 1
next_if false k = k

abbrev entry_if : Bool → List EntryLine → ℕ → ℕ → List EntryLine
entry_if true es k n = es ++ record { line = k; name = label_text n } ∷ []
entry_if false es k n = es

abbrev label_if : Bool → Labels → ℕ → ℕ → Labels
label_if true ls n at = insert_entry (slice_cmp nat_cmp) ls (label_text n) (address.Bundle at)
label_if false ls n at = ls

entry_goes : (is : Bool) (bs : List BundleLines) (es : List EntryLine) (rs : List RelationLine) (ls : Labels) (k n : ℕ) → n < 2 ^ 32
    → Goes (outside bs es rs ls) k (if is then text_line (codes ".entry " ++ label_text n) else []) (outside bs (entry_if is es k n) rs ls)
    (next_if is k)
entry_goes true bs es rs ls k n low =
    line_goes (outside bs es rs ls) k (codes ".entry " ++ label_text n) (line.Entry (label_text n)) (entry_says n low)
    (refl, (tt, (tt, (tt, (tt, tt)))))
entry_goes false bs es rs ls k n low = stays (outside bs es rs ls) k

label_goes : (is : Bool) (bs : List BundleLines) (es : List EntryLine) (rs : List RelationLine) (ls : Labels) (k n : ℕ) → n < 2 ^ 32
    → address_of ls (label_text n) ≡ None
    → Goes (outside bs es rs ls) k (if is then text_line (label_text n ++ codes ":") else [])
    (outside bs es rs (label_if is ls n (length bs))) (next_if is k)
label_goes true bs es rs ls k n low new =
    line_goes (outside bs es rs ls) k (label_text n ++ codes ":") (line.Label (label_text n)) (label_says n low)
    (refl, (new, (tt, (tt, (tt, tt)))))
label_goes false bs es rs ls k n low new = stays (outside bs es rs ls) k

-- The entry lines with that of the n-th bundle.
entry_lines_next : (is : Bool) (es : List EntryLine) (before after : List ℕ) (k n : ℕ)
    → map (λ (e : EntryLine). e.name) es ≡ map label_text before → after ≡ before ++ (if is then n ∷ [] else [])
    → map (λ (e : EntryLine). e.name) (entry_if is es k n) ≡ map label_text after
entry_lines_next true es before after k n h grown =
    map-append (λ (e : EntryLine). e.name) es (record { line = k; name = label_text n } ∷ []) ∙ ap (λ xs. xs ++ label_text n ∷ []) h
    ∙ sym (ap (map label_text) grown ∙ map-append label_text before (n ∷ []))
entry_lines_next false es before after k n h grown = h ∙ sym (ap (map label_text) (grown ∙ append-nil before))

labels_next : (entries targets : List ℕ) (count n : ℕ) (is : Bool) (ls : Labels) → (is_among entries n || is_among targets n) ≡ is
    → n < count → count ≤ BUNDLE_LIMIT → HasLabels entries targets count n ls → HasLabels entries targets count (n + 1) (label_if is ls n n)
labels_next entries targets count n true ls e less few h = one_label entries targets count n ls less few h
labels_next entries targets count n false ls e less few h = same_labels entries targets count n ls e h

-- Lines that come to what the first bundles have.
pub record ReadsOn (entries targets : List ℕ) (relations : List Relation) (count k : ℕ) (bs : List BundleLines) (es : List EntryLine)
    (rs : List RelationLine) (ls : Labels) (text : List ℕ) (n : ℕ) (done : List Bundle) : Type 0 where
  pub next : ℕ
  pub bundles : List BundleLines
  pub entry_lines : List EntryLine
  pub relation_lines : List RelationLine
  pub labels : Labels
  pub goes : Goes (outside bs es rs ls) k text (outside bundles entry_lines relation_lines labels) next
  pub so_far : SoFar entries targets relations count n done bundles entry_lines relation_lines labels

-- One bundle more.
one_goes : SlotsSay → (entries targets : List ℕ) (relations : List Relation) (count k n : ℕ) (done : List Bundle) (bs : List BundleLines)
    (es : List EntryLine) (rs : List RelationLine) (ls : Labels) (b : Bundle) → Rise 1 entries → BundlesFrom 0 relations
    → AllByRecursion (IsPrinted n) (relations_at relations n) → n < count → count ≤ BUNDLE_LIMIT → IsBundle b → AreSound count n b.slots
    → SoFar entries targets relations count n done bs es rs ls → ReadsOn entries targets relations count k bs es rs ls
    (bundle_text entries targets relations n b) (n + 1) (done ++ b ∷ [])
one_goes say entries targets relations count k n done bs es rs ls b rise order printed less few fit sound h =
    let entry = is_among entries n in
    let labelled = is_among entries n || is_among targets n in
    let low : n < 2 ^ 32 = omega (arith, less, few) in
    let there : length bs ≡ n = as_many 0 done bs h.bundles ∙ h.written in
    let es_next = entry_if entry es k n in
    let ls_next = label_if labelled ls n (length bs) in
    let k_label = next_if entry k in
    let k_relations = next_if labelled k_label in
    let related =
    relations_go bs es_next rs ls_next k_relations n (relations_below n relations)
    (relations_at relations n) there printed h.relation_lines in
    let rs_next = related.lines in
    let body = bundle_goes say bs es_next rs_next ls_next related.next n count b low (omega (arith, there, less, few)) fit sound in
    let rest = head_text b.template ++ (slots_text n b.template b.slots ++ text_line (codes "}")) in
    let relation_part = relations_text (relations_at relations n) in
    let label_part = if labelled then text_line (label_text n ++ codes ":") else [] in
    record {
      next = body.next;
      bundles = bs ++ body.read ∷ [];
      entry_lines = es_next;
      relation_lines = rs_next;
      labels = ls_next;
      goes =
          goes_on (outside bs es rs ls) (outside bs es_next rs ls) (outside (bs ++ body.read ∷ []) es_next rs_next ls_next) k k_label
          body.next (if entry then text_line (codes ".entry " ++ label_text n) else []) (label_part ++ (relation_part ++ rest))
          (entry_goes entry bs es rs ls k n low)
          (goes_on (outside bs es_next rs ls) (outside bs es_next rs ls_next)
          (outside (bs ++ body.read ∷ []) es_next rs_next ls_next) k_label k_relations body.next label_part (relation_part ++ rest)
          (label_goes labelled bs es_next rs ls k_label n low (h.labels.later n (omega arith) low))
          (goes_on (outside bs es_next rs ls_next) (outside bs es_next rs_next ls_next)
          (outside (bs ++ body.read ∷ []) es_next rs_next ls_next) k_relations related.next body.next relation_part rest
          related.goes
          body.goes));
      so_far = record {
        written = length-append done (b ∷ []) ∙ ap (λ m. m + 1) h.written;
        bundles = one_more 0 n done bs b body.read (omega (arith, h.written)) h.bundles body.same;
        entry_lines =
            entry_lines_next entry es (entries_below n entries) (entries_below (n + 1) entries) k n h.entry_lines
            (one_below 1 n entries rise);
        relation_lines = subst (λ ds. AreRelationLines ds rs_next) (sym (next_below bundle_of n 0 relations order)) related.are;
        labels =
            subst (λ at. HasLabels entries targets count (n + 1) (label_if labelled ls n at)) (sym there)
            (labels_next entries targets count n labelled ls refl less few h.labels);
      };
    }

-- Bundles, the first of which is the n-th, fit and are sound.
abbrev pub AreGood : ℕ → ℕ → List Bundle → Type 0
AreGood count n [] = Unit {0}
AreGood count n (b ∷ bs) = (IsBundle b × AreSound count n b.slots) × AreGood count (n + 1) bs

good_from : (count n : ℕ) (bs : List Bundle) → ((i : ℕ) → IfSome (slice_get bs i) IsBundle)
    → ((i : ℕ) → IfSome (slice_get bs i) (λ b. AreSound count (n + i) b.slots)) → AreGood count n bs
good_from count n [] fit sound = tt
good_from count n (b ∷ bs) fit sound =
    let here : n + 0 ≡ n = omega arith in (
      (fit 0, subst (λ m. AreSound count m b.slots) here (sound 0)),
      good_from count (n + 1) bs (λ i. fit (suc i)) (λ i. subst (λ m. IfSome (slice_get bs i) (λ c. AreSound count m c.slots)) (after i)
          (sound (suc i))),
    )
  where
    after : (i : ℕ) → n + suc i ≡ n + 1 + i
    after i = omega arith

zero_more : (n : ℕ) → n ≡ 0 + n
zero_more n = omega arith

-- Those of a program do.
pub good_of : (p : Program) → IsProgram p → AreGood (length p.bundles) 0 p.bundles
good_of p h =
    good_from (length p.bundles) 0 p.bundles h.fit (λ i. subst (λ m.
    IfSome (slice_get p.bundles i) (λ b. AreSound (length p.bundles) m b.slots)) (zero_more i) (all_sound p h i))

-- The lines of the bundles from the n-th on.
pub all_go : SlotsSay → (entries targets : List ℕ) (relations : List Relation) (count k n : ℕ) (done rest : List Bundle)
    (bs : List BundleLines) (es : List EntryLine) (rs : List RelationLine) (ls : Labels) → Rise 1 entries → BundlesFrom 0 relations
    → ((m : ℕ) → AllByRecursion (IsPrinted m) (relations_at relations m)) → n + length rest ≡ count → count ≤ BUNDLE_LIMIT
    → AreGood count n rest
    → SoFar entries targets relations count n done bs es rs ls → ReadsOn entries targets relations count k bs es rs ls
    (bundles_text entries targets relations n rest) count (done ++ rest)
all_go say entries targets relations count k n done [] bs es rs ls rise order printed e few good h =
    let same : n ≡ count = omega (arith, e) in
    record {
      next = k;
      bundles = bs;
      entry_lines = es;
      relation_lines = rs;
      labels = ls;
      goes = stays (outside bs es rs ls) k;
      so_far =
          subst (λ ds. SoFar entries targets relations count count ds bs es rs ls) (sym (append-nil done))
          (subst (λ m. SoFar entries targets relations count m done bs es rs ls) same h);
    }
all_go say entries targets relations count k n done (b ∷ rest) bs es rs ls rise order printed e few good h =
    let one =
    one_goes say entries targets relations count k n done bs es rs ls b rise order (printed n)
    (omega (arith, e)) few good.0.0 good.0.1 h in
    let more =
    all_go say entries targets relations count one.next (n + 1)
    (done ++ b ∷ []) rest one.bundles one.entry_lines one.relation_lines one.labels rise order printed (omega (arith, e)) few good.1
    one.so_far in
    record {
      next = more.next;
      bundles = more.bundles;
      entry_lines = more.entry_lines;
      relation_lines = more.relation_lines;
      labels = more.labels;
      goes =
          goes_on (outside bs es rs ls) (outside one.bundles one.entry_lines one.relation_lines one.labels)
          (outside more.bundles more.entry_lines more.relation_lines more.labels) k one.next more.next
          (bundle_text entries targets relations n b) (bundles_text entries targets relations (n + 1) rest) one.goes more.goes;
      so_far =
          subst (λ ds. SoFar entries targets relations count count ds more.bundles more.entry_lines more.relation_lines more.labels)
          (append_assoc done (b ∷ []) rest) more.so_far;
    }
