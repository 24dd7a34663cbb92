-- The length of canonical texts, by the length of their slot lines.
use Rattle.std.proofs.Common.{◌≡◌, ℕ, ◌+◌, ◌*◌, ◌/◌, ◌<◌, ◌≤◌, ◌%◌, ◌^◌, Bool, true, false, ◌||◌, ◌==◌, List, [], ◌∷◌, ◌++◌, length, map, codes, refl, sym, ap, subst, arith, length-append, lit<, mul-suc}
use Rattle.std.specs.Prelude.{nat_lt, if◌then◌else◌}
use Rattle.std.specs.List.{AllByRecursion}
use Rattle.std.proofs.lemmas.List.Sums.{length-filter, count_by-le-length}
use Rattle.std.specs.Fmt.{digits}
use Rattle.std.proofs.lemmas.Bool.Decides.{nat_tests}
use Rattle.std.proofs.lemmas.Fmt.{length-decimal-le}
use Rattle.ia_insn.specs.declared.choices.Unit.{Unit as ExecutionUnit}
use Rattle.ia_insn.specs.declared.insn.Insn.{Insn}
use Rattle.ia_program.specs.declared.limits.TheConstants.{BUNDLE_LIMIT}
use Rattle.ia_program.specs.declared.bundle.Slots.{Slots}
use Rattle.ia_program.specs.declared.bundle.Slots.TheVariants as slots
use Rattle.ia_program.specs.Bundles.{Bundle, IsBundle}
use Rattle.ia_program.specs.Listed.{IsListed}
use Rattle.ia_program.specs.declared.relations.Relation.{Relation}
use Rattle.ia_program.specs.Programs.{Program, IsProgram, AreBytes, relations_at}
use Rattle.asm_reading.specs.declared.line.TemplateName.{TemplateName}
use Rattle.asm_reading.specs.declared.line.TemplateName.TheVariants as template_name
use Rattle.asm_printing.specs.declared.limits.TheConstants.{SLOT_LINE_LIMIT}
use Rattle.asm_printing.specs.SlotTexts.{label_text, slot_text}
use Rattle.asm_printing.proofs.Rooms.{hex_is_short}
use Rattle.asm_build.specs.CanonicalText.{line as text_line, has_stop, is_among, unit_letter, relation_text, relations_text, head_text, slots_text, bundle_text, bundles_text, targets_from, words_of, words_text, data_text, canonical_text}
use Rattle.asm_build.specs.Marks.{AreSound}
use Rattle.asm_build.specs.RoundTrip.{CanonicalTextIsShort, CanonicalTextFits}
use Rattle.asm_build.specs.TemplateNames.{units_named}
use Rattle.asm_build.proofs.DataBack.{AreWords, words_small}
use Rattle.asm_build.proofs.NamedTemplates.{has_name}
use Rattle.asm_build.proofs.KeysBelow.{next_below}
use Rattle.asm_build.proofs.RelationsSoFar.{bundle_of, relations_below, BundlesFrom, relations_rise, relations_fit, IsPrinted, printed_at, relation_is_short}
use Rattle.asm_build.proofs.WrittenTexts.{AreGood, good_of}

-- The slot lines of listed instructions have at most this many bytes.
abbrev pub AreSlotLinesWithin : ℕ → Type 0
AreSlotLinesWithin most = (i : Insn) (bundle : ℕ) (stop : Bool) → IsListed i → bundle < 2 ^ 32 → length (slot_text i bundle stop) ≤ most

both_short : (xs ys : List ℕ) (m n : ℕ) → length xs ≤ m → length ys ≤ n → length (xs ++ ys) ≤ m + n
both_short xs ys m n a b = omega (arith, a, b, length-append xs ys)

line_short : (text : List ℕ) (m : ℕ) → length text ≤ m → length (text_line text) ≤ m + 1
line_short text m h = both_short text (10 ∷ []) m 1 h (omega arith)

if_short : (is : Bool) (text : List ℕ) (n : ℕ) → length text ≤ n → length (if is then text else []) ≤ n
if_short true text n h = h
if_short false text n h = omega arith

-- `{ .mii`
name_short : (s : TemplateName) → length (text_line (codes "{ ." ++ map unit_letter (units_named s))) ≤ 7
name_short template_name.Mii = omega arith
name_short template_name.Mlx = omega arith
name_short template_name.Mmi = omega arith
name_short template_name.Mfi = omega arith
name_short template_name.Mmf = omega arith
name_short template_name.Mib = omega arith
name_short template_name.Mbb = omega arith
name_short template_name.Bbb = omega arith
name_short template_name.Mmb = omega arith
name_short template_name.Mfb = omega arith

head_short : (b : Bundle) → IsBundle b → length (head_text b.template) ≤ 7
head_short b fit =
    let name = has_name b.template b.slots fit in
    subst (λ (us : List ExecutionUnit). length (text_line (codes "{ ." ++ map unit_letter us)) ≤ 7) (sym name.1.units) (name_short name.0)

-- `L32767`
label_short : (n : ℕ) → n < BUNDLE_LIMIT → length (label_text n) ≤ 6
label_short n h = omega (arith, length-decimal-le 5 n (lit< tt) (omega arith) (omega (arith, h)))

slots_short : (most : ℕ) → AreSlotLinesWithin most → (count n template : ℕ) (contents : Slots) → n < 2 ^ 32 → AreSound count n contents
    → length (slots_text n template contents) ≤ 3 * (most + 1)
slots_short most within count n template (slots.Three a b c) low sound =
    let la = line_short (slot_text a n (has_stop template 0)) most (within a n (has_stop template 0) sound.0.listed low) in
    let lb = line_short (slot_text b n (has_stop template 1)) most (within b n (has_stop template 1) sound.1.0.listed low) in
    let lc = line_short (slot_text c n (has_stop template 2)) most (within c n (has_stop template 2) sound.1.1.listed low) in
    let later =
    both_short (text_line (slot_text b n (has_stop template 1))) (text_line (slot_text c n (has_stop template 2))) (most + 1)
    (most + 1) lb lc in
    omega (
      arith,
      both_short (text_line (slot_text a n (has_stop template 0)))
          (text_line (slot_text b n (has_stop template 1)) ++ text_line (slot_text c n (has_stop template 2))) (most + 1)
          ((most + 1) + (most + 1)) la later,
    )
slots_short most within count n template (slots.Long a b) low sound =
    let la = line_short (slot_text a n false) most (within a n false sound.0.listed low) in
    let lb = line_short (slot_text b n (has_stop template 2)) most (within b n (has_stop template 2) sound.1.listed low) in
    omega (
      arith,
      both_short (text_line (slot_text a n false)) (text_line (slot_text b n (has_stop template 2))) (most + 1)
          (most + 1) la lb,
    )

-- The lines of relations.
relations_short : (n : ℕ) (rs : List Relation) → AllByRecursion (IsPrinted n) rs → length (relations_text rs) ≤ 26 * length rs
relations_short n [] h = omega arith
relations_short n (r ∷ rs) h =
    let here = line_short (relation_text r.p r.q) 25 (relation_is_short r.p r.q (omega (arith, h.0.apart, h.0.static)) h.0.static) in
    omega (arith, here, relations_short n rs h.1, length-append (text_line (relation_text r.p r.q)) (relations_text rs))

-- The bytes of a bundle without relations, with its entry and its label.
abbrev bundle_bytes : ℕ → ℕ
bundle_bytes most = 3 * (most + 1) + 31

bundle_short : (most : ℕ) → AreSlotLinesWithin most → (entries targets : List ℕ) (relations : List Relation) (count n : ℕ) (b : Bundle)
    → n < BUNDLE_LIMIT → IsBundle b → AreSound count n b.slots → AllByRecursion (IsPrinted n) (relations_at relations n)
    → length (bundle_text entries targets relations n b) ≤ bundle_bytes most + 26 * length (relations_at relations n)
bundle_short most within entries targets relations count n b low fit sound printed =
    let entry = is_among entries n in
    let labelled = is_among entries n || is_among targets n in
    let label = label_short n low in
    let entry_line =
    line_short (codes ".entry " ++ label_text n) 13 (both_short (codes ".entry ") (label_text n) 7 6 (omega arith) label) in
    let label_line = line_short (label_text n ++ codes ":") 7 (both_short (label_text n) (codes ":") 6 1 label (omega arith)) in
    let first = if_short entry (text_line (codes ".entry " ++ label_text n)) 14 (omega (arith, entry_line)) in
    let second = if_short labelled (text_line (label_text n ++ codes ":")) 8 (omega (arith, label_line)) in
    let body = slots_text n b.template b.slots ++ text_line (codes "}") in
    let contents =
    both_short (slots_text n b.template b.slots) (text_line (codes "}"))
    (3 * (most + 1)) 2 (slots_short most within count n b.template b.slots (omega (arith, low)) sound) (omega arith) in
    let headed = both_short (head_text b.template) body 7 (3 * (most + 1) + 2) (head_short b fit) contents in
    let lines = relations_text (relations_at relations n) in
    let many = 26 * length (relations_at relations n) in
    let related =
    both_short lines (head_text b.template ++ body) many (7 + (3 * (most + 1) + 2))
    (relations_short n (relations_at relations n) printed) headed in
    let named =
    both_short (if labelled then text_line (label_text n ++ codes ":") else [])
    (lines ++ (head_text b.template ++ body)) 8 (many + (7 + (3 * (most + 1) + 2))) second related in
    omega (
      arith,
      both_short (if entry then text_line (codes ".entry " ++ label_text n) else [])
          ((if labelled then text_line (label_text n ++ codes ":") else []) ++ (lines ++ (head_text b.template ++ body))) 14
          (8 + (many + (7 + (3 * (most + 1) + 2)))) first named,
    )

few_below : (n : ℕ) (rs : List Relation) → length (relations_below n rs) ≤ length rs
few_below n rs =
    omega (arith, length-filter (λ (r : Relation). nat_lt r.bundle n) rs, count_by-le-length (λ (r : Relation). nat_lt r.bundle n) rs)

bundles_short : (most : ℕ) → AreSlotLinesWithin most → (entries targets : List ℕ) (relations : List Relation) (count n : ℕ)
    (bs : List Bundle) → BundlesFrom 0 relations → ((m : ℕ) → AllByRecursion (IsPrinted m) (relations_at relations m))
    → n + length bs ≤ BUNDLE_LIMIT → AreGood count n bs
    → length (bundles_text entries targets relations n bs) + 26 * length (relations_below n relations)
    ≤ bundle_bytes most * length bs + 26 * length relations
bundles_short most within entries targets relations count n [] order printed few good = omega (arith, few_below n relations)
bundles_short most within entries targets relations count n (b ∷ bs) order printed few good =
    let here = bundle_short most within entries targets relations count n b (omega (arith, few)) good.0.0 good.0.1 (printed n) in
    let later = bundles_short most within entries targets relations count (n + 1) bs order printed (omega (arith, few)) good.1 in
    let more = length-append (relations_below n relations) (relations_at relations n) in
    let next = ap length (next_below bundle_of n 0 relations order) in
    rw (mul-suc (bundle_bytes most) (length bs)) (omega (
      arith,
      here,
      later,
      more,
      next,
      length-append (bundle_text entries targets relations n b) (bundles_text entries targets relations (n + 1) bs),
    ))

-- The k-th word begins with `data8 ` where it is the first of its line, and ends the line where it is the last.
begin_short : (k : ℕ) (b : Bool) → (k % 8 == 0) ≡ b → length {A = ℕ} (if b then codes "data8 " else codes ",") + 5 * ((k + 7) / 8)
    ≤ 1 + 5 * ((k + 8) / 8)
begin_short k true e = let first : k % 8 ≡ 0 = grind (arith, nat_tests) in omega (arith, first)
begin_short k false e = omega arith

end_short : (k : ℕ) (b : Bool) → (k % 8 == 7) ≡ b → length {A = ℕ} (if b then 10 ∷ [] else []) + k / 8 ≤ (k + 1) / 8
end_short k true e = let last : k % 8 ≡ 7 = grind (arith, nat_tests) in omega (arith, last)
end_short k false e = omega arith

one_word_short : (w : ℕ) → w < 2 ^ 64 → length (48 ∷ 120 ∷ digits 16 false w) ≤ 18
one_word_short w h = omega (arith, hex_is_short 15 w h h)

-- Of words of at most 18 bytes, all but the first of a line with a comma, and each line with its head and its end.
words_short : (k : ℕ) (ws : List ℕ) → AreWords ws → length (words_text k ws) + 5 * ((k + 7) / 8) + k / 8
    ≤ 19 * length ws + 6 * ((k + length ws + 7) / 8)
words_short k [] small = omega arith
words_short k (w ∷ []) small =
    let begin : List ℕ = if k % 8 == 0 then codes "data8 " else codes "," in
    let end : List ℕ = if (k % 8 == 7) || true then 10 ∷ [] else [] in
    let word = one_word_short w small.0 in
    let stop = if_short ((k % 8 == 7) || true) (10 ∷ []) 1 (omega arith) in
    omega (
      arith,
      begin_short k (k % 8 == 0) refl,
      word,
      stop,
      length-append (begin ++ (48 ∷ 120 ∷ digits 16 false w)) (end ++ []),
      length-append begin (48 ∷ 120 ∷ digits 16 false w),
      length-append end [],
    )
words_short k (w ∷ v ∷ ws) small =
    let begin : List ℕ = if k % 8 == 0 then codes "data8 " else codes "," in
    let end : List ℕ = if (k % 8 == 7) || false then 10 ∷ [] else [] in
    let word = one_word_short w small.0 in
    let rest = words_short (k + 1) (v ∷ ws) small.1 in
    let stop = end_short k ((k % 8 == 7) || false) (or_false (k % 8 == 7)) in
    omega (
      arith,
      begin_short k (k % 8 == 0) refl,
      word,
      stop,
      rest,
      length-append (begin ++ (48 ∷ 120 ∷ digits 16 false w)) (end ++ words_text (k + 1) (v ∷ ws)),
      length-append begin (48 ∷ 120 ∷ digits 16 false w),
      length-append end (words_text (k + 1) (v ∷ ws)),
    )
  where
    or_false : (b : Bool) → b ≡ (b || false)
    or_false true = refl
    or_false false = refl

few_words : (bytes : List ℕ) → 8 * length (words_of bytes) ≤ length bytes
few_words (a ∷ b ∷ c ∷ d ∷ e ∷ f ∷ g ∷ h ∷ rest) = omega (arith, few_words rest)
few_words _ = omega arith

-- The number of bytes of n words of data, with their directive.
abbrev data_bytes : ℕ → ℕ
data_bytes words = 6 + 19 * words + 6 * ((words + 7) / 8)

data_short : (bytes : List ℕ) → AreBytes bytes → length (data_text bytes) ≤ data_bytes (length (words_of bytes))
data_short [] small = omega arith
data_short (b ∷ bytes) small =
    omega (
      arith,
      words_short 0 (words_of (b ∷ bytes)) (words_small (b ∷ bytes) small),
      length-append (text_line (codes ".data")) (words_text 0 (words_of (b ∷ bytes))),
    )

text_short : (most : ℕ) → AreSlotLinesWithin most → (p : Program) → IsProgram p
    → length (canonical_text p) ≤ bundle_bytes most * length p.bundles + 26 * length p.relations + data_bytes (length (words_of p.bytes))
text_short most within p h =
    let targets = targets_from 0 p.bundles in
    let printed : (m : ℕ) → AllByRecursion (IsPrinted m) (relations_at p.relations m) =
    λ m. printed_at p.bundles p.entries m p.relations (relations_fit p.bundles p.entries p.relations h.relations) in
    let order = relations_rise p.bundles p.entries p.relations h.relations in
    let bundles =
    bundles_short most within p.entries targets p.relations (length p.bundles) 0 p.bundles order printed
    (omega (arith, h.counts.bundles)) (good_of p h) in
    omega (
      arith,
      bundles,
      data_short p.bytes h.bytes,
      length-append (bundles_text p.entries targets p.relations 0 p.bundles)
          (data_text p.bytes),
    )

-- The canonical text of a program fits in what a command takes.
pub text_fits : AreSlotLinesWithin SLOT_LINE_LIMIT → (p : Program) → CanonicalTextFits p
text_fits within p h =
    omega (arith, text_short SLOT_LINE_LIMIT within p h, few_words p.bytes, h.counts.bundles, h.counts.relations, h.counts.bytes)

-- The canonical text of a program is short enough to be read.
pub text_is_short : AreSlotLinesWithin SLOT_LINE_LIMIT → (p : Program) → CanonicalTextIsShort p
text_is_short within p h = omega (arith, text_fits within p h)
