-- What the lines of a printed bundle come to.
use Rattle.std.proofs.Common.{◌≡◌, ◌≢◌, ◌∙◌, ℕ, ◌+◌, ◌<◌, ◌^◌, Bool, false, List, [], ◌∷◌, ◌++◌, length, map, codes, Option, Some, None, refl, sym, ap, subst}
use Rattle.std.specs.Prelude.{IsSomeAnd, slice_index_or}
use Rattle.std.specs.Option.{option_map}
use Rattle.ia_insn.specs.declared.choices.Unit.{Unit as ExecutionUnit}
use Rattle.ia_insn.specs.declared.choices.Unit.TheVariants.{L, X}
use Rattle.ia_insn.specs.declared.insn.Insn.{Insn}
use Rattle.ia_program.specs.declared.limits.TheConstants.{BUNDLE_LIMIT}
use Rattle.ia_program.specs.declared.bundle.Slots.{Slots}
use Rattle.ia_program.specs.declared.bundle.Slots.TheVariants as slots
use Rattle.ia_program.specs.Bundles.{Bundle, FitUnits, IsBundle}
use Rattle.ia_program.specs.Fits.{Fits}
use Rattle.ia_program.specs.Listed.{IsListed}
use Rattle.ia_program.specs.Templates.{units_of}
use Rattle.asm_reading.specs.declared.line.Line.TheVariants as line
use Rattle.asm_reading.specs.declared.line.TemplateName.{TemplateName}
use Rattle.asm_reading.specs.declared.line.TemplateName.TheVariants as template_name
use Rattle.asm_printing.specs.SlotTexts.{label_text, target_of, slot_text}
use Rattle.asm_text.specs.ReadBack.{printed_line}
use Rattle.asm_build.specs.declared.draft.BundleLines.{BundleLines}
use Rattle.asm_build.specs.declared.draft.SlotLine.{SlotLine}
use Rattle.asm_build.specs.OpenSlots.{SlotLines}
use Rattle.asm_build.specs.OpenSlots as lines
use Rattle.asm_build.specs.declared.text_parts.EntryLine.{EntryLine}
use Rattle.asm_build.specs.declared.text_parts.RelationLine.{RelationLine}
use Rattle.asm_build.specs.declared.text_parts.Section.TheVariants as section
use Rattle.asm_build.specs.CanonicalText.{line as text_line, has_stop, unit_letter, head_text, slots_text}
use Rattle.asm_build.specs.Drafts.{OpenBundle, HasSlotRoom, IsWhole, next_unit, count_of, one_more, closed, closed_as, three, long}
use Rattle.asm_build.specs.Marks.{AreSound}
use Rattle.asm_build.specs.TextParts.{TextParts, Labels, with_bundle}
use Rattle.asm_build.specs.TemplateNames.{units_named, template_of}
use Rattle.asm_build.specs.TextReading.{Says}
use Rattle.asm_build.proofs.NamedTemplates.{IsNamedBy, has_name, same_named, short_of, long_of}
use Rattle.asm_build.proofs.PrintedLines.{head_says, end_says}
use Rattle.asm_build.proofs.Taking.{Goes, goes_on, line_goes}
use Rattle.asm_build.proofs.UntargetedSlots.{until_named, fits_until}

-- The slot lines of listed instructions say them.
abbrev pub SlotsSay : Type 0
SlotsSay = (i : Insn) (n : ℕ) (stop : Bool) → IsListed i → n < 2 ^ 32 → Says (slot_text i n stop) (printed_line i n stop)

-- Outside a bundle and within one, where bundles are being written.
abbrev pub outside : List BundleLines → List EntryLine → List RelationLine → Labels → TextParts
outside bs es rs ls = record { section = section.Text; current = None; bundles = bs; entries = es; relations = rs; labels = ls; bytes = [] }

abbrev pub inside : OpenBundle → List BundleLines → List EntryLine → List RelationLine → Labels → TextParts
inside o bs es rs ls =
    record { section = section.Text; current = Some o; bundles = bs; entries = es; relations = rs; labels = ls; bytes = [] }

-- The name of the target of an instruction in the n-th bundle.
abbrev pub name_in : ℕ → Insn → Option (List ℕ)
name_in n i = option_map label_text (target_of n i.op)

-- A slot as its printed line has it.
abbrev slot_line : ℕ → ℕ → Insn → Bool → SlotLine
slot_line k n i stop = record { line = k; insn = until_named i; target = name_in n i; stop = stop }

abbrev opened : TemplateName → SlotLines → OpenBundle
opened s ls = record { name = s; slots = ls }

-- The slots as they are until the names of their targets are put in.
abbrev pub slots_until : Slots → Slots
slots_until (slots.Three a b c) = slots.Three (until_named a) (until_named b) (until_named c)
slots_until (slots.Long a b) = slots.Long (until_named a) (until_named b)

abbrev pub HasNames : ℕ → Slots → BundleLines → Type 0
HasNames n (slots.Three a b c) l = (l.first.target ≡ name_in n a) × ((l.second.target ≡ name_in n b) × (l.third.target ≡ name_in n c))
HasNames n (slots.Long a b) l = (l.first.target ≡ name_in n a) × (l.second.target ≡ name_in n b)

-- The lines of the n-th bundle: its instructions without displacements, and the names of their targets.
pub record AreLinesOf (n : ℕ) (b : Bundle) (l : BundleLines) : Type 0 where
  pub bundle : l.bundle ≡ record { template = b.template; slots = slots_until b.slots }
  pub names : HasNames n b.slots l

-- One slot line.
slot_goes : SlotsSay → (bs : List BundleLines) (es : List EntryLine) (rs : List RelationLine) (ls : Labels) (k n : ℕ) (o : OpenBundle)
    (i : Insn) (stop : Bool) → IsListed i → n < 2 ^ 32 → HasSlotRoom o → Fits (until_named i) (next_unit o) (count_of o.slots)
    → Goes (inside o bs es rs ls) k (text_line (slot_text i n stop))
    (inside (opened o.name (one_more o.slots (slot_line k n i stop))) bs es rs ls) (k + 1)
slot_goes say bs es rs ls k n o i stop listed low room fits =
    line_goes (inside o bs es rs ls) k (slot_text i n stop) (printed_line i n stop) (say i n stop listed low)
    (refl, (tt, (room, (fits, (tt, tt)))))

-- `{` and the template name
head_goes : (bs : List BundleLines) (es : List EntryLine) (rs : List RelationLine) (ls : Labels) (k : ℕ) (s : TemplateName) (template : ℕ)
    → units_of template ≡ units_named s → length bs < BUNDLE_LIMIT
    → Goes (outside bs es rs ls) k (head_text template) (inside (opened s lines.Zero) bs es rs ls) (k + 1)
head_goes bs es rs ls k s template units room =
    subst (λ (us : List ExecutionUnit). Goes (outside bs es rs ls) k (text_line (codes "{ ." ++ map unit_letter us))
    (inside (opened s lines.Zero) bs es rs ls) (k + 1)) (sym units)
    (line_goes (outside bs es rs ls) k (codes "{ ." ++ map unit_letter (units_named s)) (line.Open s) (head_says s)
    (record { closed = refl; same = refl }, (tt, (tt, (tt, (room, tt))))))

-- `}`
close_goes : (bs : List BundleLines) (es : List EntryLine) (rs : List RelationLine) (ls : Labels) (k : ℕ) (o : OpenBundle) (l : BundleLines)
    → closed o ≡ Some l → IsBundle l.bundle
    → Goes (inside o bs es rs ls) k (text_line (codes "}")) (outside (bs ++ l ∷ []) es rs ls) (k + 1)
close_goes bs es rs ls k o l e is =
    let whole : IsWhole o = subst (λ r. IsSomeAnd r (λ b. IsBundle b.bundle)) (sym e) is in
    subst (λ r. Goes (inside o bs es rs ls) k (text_line (codes "}")) (with_bundle (inside o bs es rs ls) r) (k + 1)) e
    (line_goes (inside o bs es rs ls) k (codes "}") line.Close end_says (refl, (tt, (whole, (tt, (tt, tt))))))

unit_at : (s : TemplateName) (us : List ExecutionUnit) (n : ℕ) → units_named s ≡ us
    → slice_index_or us n X ≡ slice_index_or (units_named s) n X
unit_at s us n e = ap (λ (vs : List ExecutionUnit). slice_index_or vs n X) (sym e)

-- The lines of three slots.
three_goes : SlotsSay → (bs : List BundleLines) (es : List EntryLine) (rs : List RelationLine) (ls : Labels) (k n template : ℕ)
    (s : TemplateName) (a b c : Insn) (u v w : ExecutionUnit) → units_named s ≡ u ∷ v ∷ w ∷ [] → v ≢ L
    → Fits a u 0 → Fits b v 1 → Fits c w 2 → IsListed a → IsListed b → IsListed c → n < 2 ^ 32
    → Goes (inside (opened s lines.Zero) bs es rs ls) k (slots_text n template (slots.Three a b c))
    (inside (opened s (lines.Three (slot_line k n a (has_stop template 0)) (slot_line (k + 1) n b (has_stop template 1))
    (slot_line (k + 1 + 1) n c (has_stop template 2)))) bs es rs ls) (k + 1 + 1 + 1)
three_goes say bs es rs ls k n template s a b c u v w units other f g h la lb lc low =
    let first = slot_line k n a (has_stop template 0) in
    let second = slot_line (k + 1) n b (has_stop template 1) in
    let third = slot_line (k + 1 + 1) n c (has_stop template 2) in
    let f_ = subst (λ (x : ExecutionUnit). Fits (until_named a) x 0) (unit_at s (u ∷ v ∷ w ∷ []) 0 units) (fits_until a u 0 f) in
    let g_ = subst (λ (x : ExecutionUnit). Fits (until_named b) x 1) (unit_at s (u ∷ v ∷ w ∷ []) 1 units) (fits_until b v 1 g) in
    let h_ = subst (λ (x : ExecutionUnit). Fits (until_named c) x 2) (unit_at s (u ∷ v ∷ w ∷ []) 2 units) (fits_until c w 2 h) in
    goes_on (inside (opened s lines.Zero) bs es rs ls) (inside (opened s (lines.One first)) bs es rs ls)
    (inside (opened s (lines.Three first second third)) bs es rs ls) k (k + 1) (k + 1 + 1 + 1)
    (text_line (slot_text a n (has_stop template 0))) (text_line (slot_text b n (has_stop template 1)) ++ text_line
    (slot_text c n (has_stop template 2)))
    (slot_goes say bs es rs ls k n (opened s lines.Zero) a (has_stop template 0) la low tt f_)
    (goes_on (inside (opened s (lines.One first)) bs es rs ls) (inside (opened s (lines.Two first second)) bs es rs ls)
    (inside (opened s (lines.Three first second third)) bs es rs ls) (k + 1) (k + 1 + 1) (k + 1 + 1 + 1)
    (text_line (slot_text b n (has_stop template 1))) (text_line (slot_text c n (has_stop template 2)))
    (slot_goes say bs es rs ls (k + 1) n (opened s (lines.One first)) b (has_stop template 1) lb low tt g_)
    (slot_goes say bs es rs ls (k + 1 + 1) n (opened s (lines.Two first second)) c (has_stop template 2) lc low
    (short_of s u v w units other) h_))

-- The lines of a bundle with a long instruction are taken one after the other.
long_goes : SlotsSay → (bs : List BundleLines) (es : List EntryLine) (rs : List RelationLine) (ls : Labels) (k n template : ℕ)
    (s : TemplateName) (a b : Insn) (u v w : ExecutionUnit) → units_named s ≡ u ∷ v ∷ w ∷ []
    → Fits a u 0 → Fits b v 1 → IsListed a → IsListed b → n < 2 ^ 32
    → Goes (inside (opened s lines.Zero) bs es rs ls) k (slots_text n template (slots.Long a b))
    (inside (opened s (lines.Two (slot_line k n a false) (slot_line (k + 1) n b (has_stop template 2)))) bs es rs ls) (k + 1 + 1)
long_goes say bs es rs ls k n template s a b u v w units f g la lb low =
    let first = slot_line k n a false in
    let second = slot_line (k + 1) n b (has_stop template 2) in
    let f_ = subst (λ (x : ExecutionUnit). Fits (until_named a) x 0) (unit_at s (u ∷ v ∷ w ∷ []) 0 units) (fits_until a u 0 f) in
    let g_ = subst (λ (x : ExecutionUnit). Fits (until_named b) x 1) (unit_at s (u ∷ v ∷ w ∷ []) 1 units) (fits_until b v 1 g) in
    goes_on (inside (opened s lines.Zero) bs es rs ls) (inside (opened s (lines.One first)) bs es rs ls)
    (inside (opened s (lines.Two first second)) bs es rs ls) k (k + 1) (k + 1 + 1)
    (text_line (slot_text a n false)) (text_line (slot_text b n (has_stop template 2)))
    (slot_goes say bs es rs ls k n (opened s lines.Zero) a false la low tt f_)
    (slot_goes say bs es rs ls (k + 1) n (opened s (lines.One first)) b (has_stop template 2) lb low tt g_)

at_long : (template : ℕ) → IsNamedBy template_name.Mlx template
    → template_of template_name.Mlx false false (has_stop template 2) ≡ Some template
at_long template named =
    ap (λ a. template_of template_name.Mlx a false (has_stop template 2)) (sym named.long.0)
    ∙ ap (λ b. template_of template_name.Mlx (has_stop template 0) b (has_stop template 2)) (sym named.long.1)
    ∙ same_named template_name.Mlx template named

closed_long : (s : TemplateName) (template : ℕ) (a b : SlotLine) → s ≡ template_name.Mlx → IsNamedBy s template → a.stop ≡ false
    → b.stop ≡ has_stop template 2 → closed_as (lines.Two a b) s ≡ Some (long a b template)
closed_long template_name.Mlx template a b is named none last =
    let same : template_of template_name.Mlx a.stop false b.stop ≡ Some template =
    ap (λ x. template_of template_name.Mlx x false b.stop) none ∙ ap (λ x. template_of template_name.Mlx false false x) last
    ∙ at_long template named in
    ap (option_map (long a b)) same
closed_long s template a b is named none last = absurd cc

-- The lines of the slots come to an open bundle that is closed as this one.
pub record SlotsGo (bs : List BundleLines) (es : List EntryLine) (rs : List RelationLine) (ls : Labels) (k n template : ℕ)
    (s : TemplateName) (contents : Slots) : Type 0 where
  pub open_bundle : OpenBundle
  pub next : ℕ
  pub read : BundleLines
  pub goes : Goes (inside (opened s lines.Zero) bs es rs ls) k (slots_text n template contents) (inside open_bundle bs es rs ls) next
  pub whole : closed open_bundle ≡ Some read
  pub same : AreLinesOf n (record { template = template; slots = contents }) read

slots_go : SlotsSay → (bs : List BundleLines) (es : List EntryLine) (rs : List RelationLine) (ls : Labels) (k n count template : ℕ)
    (s : TemplateName) (contents : Slots) → n < 2 ^ 32 → IsNamedBy s template
    → (units : List ExecutionUnit) → units_named s ≡ units → FitUnits units contents → AreSound count n contents
    → SlotsGo bs es rs ls k n template s contents
slots_go say bs es rs ls k n count template s (slots.Three a b c) low named (u ∷ v ∷ w ∷ []) e fit sound =
    let first = slot_line k n a (has_stop template 0) in
    let second = slot_line (k + 1) n b (has_stop template 1) in
    let third = slot_line (k + 1 + 1) n c (has_stop template 2) in
    record {
      open_bundle = opened s (lines.Three first second third);
      next = k + 1 + 1 + 1;
      read = three first second third template;
      goes =
          three_goes say bs es rs ls k n template s a b c u v w e fit.3 fit.0 fit.1 fit.2 sound.0.listed sound.1.0.listed sound.1.1.listed
          low;
      whole = ap (option_map (three first second third)) (same_named s template named);
      same = record { bundle = refl; names = (refl, (refl, refl)) };
    }
slots_go say bs es rs ls k n count template s (slots.Long a b) low named (u ∷ v ∷ w ∷ []) e fit sound =
    let first = slot_line k n a false in
    let second = slot_line (k + 1) n b (has_stop template 2) in
    record {
      open_bundle = opened s (lines.Two first second);
      next = k + 1 + 1;
      read = long first second template;
      goes = long_goes say bs es rs ls k n template s a b u v w e fit.0 fit.1 sound.0.listed sound.1.listed low;
      whole = closed_long s template first second (long_of s u v w e fit.2) named refl refl;
      same = record { bundle = refl; names = (refl, refl) };
    }
slots_go say bs es rs ls k n count template s contents low named units e fit sound = absurd fit

bundle_until : (units : List ExecutionUnit) (contents : Slots) → FitUnits units contents → FitUnits units (slots_until contents)
bundle_until (u ∷ v ∷ w ∷ []) (slots.Three a b c) fit = (fits_until a u 0 fit.0, fits_until b v 1 fit.1, fits_until c w 2 fit.2, fit.3)
bundle_until (u ∷ v ∷ w ∷ []) (slots.Long a b) fit = (fits_until a u 0 fit.0, fits_until b v 1 fit.1, fit.2)
bundle_until units contents fit = absurd fit

-- The lines of a bundle within its brackets come to the bundle.
pub record BundleGoes (bs : List BundleLines) (es : List EntryLine) (rs : List RelationLine) (ls : Labels) (k n : ℕ)
    (b : Bundle) : Type 0 where
  pub next : ℕ
  pub read : BundleLines
  pub goes : Goes (outside bs es rs ls) k (head_text b.template ++ (slots_text n b.template b.slots ++ text_line (codes "}")))
      (outside (bs ++ read ∷ []) es rs ls) next
  pub same : AreLinesOf n b read

pub bundle_goes : SlotsSay → (bs : List BundleLines) (es : List EntryLine) (rs : List RelationLine) (ls : Labels) (k n count : ℕ)
    (b : Bundle) → n < 2 ^ 32 → length bs < BUNDLE_LIMIT → IsBundle b → AreSound count n b.slots → BundleGoes bs es rs ls k n b
bundle_goes say bs es rs ls k n count b low room fit sound =
    let name = has_name b.template b.slots fit in
    let s = name.0 in
    let units : units_of b.template ≡ units_named s = name.1.units in
    let contents = slots_go say bs es rs ls (k + 1) n count b.template s b.slots low name.1 (units_of b.template) (sym units) fit sound in
    let is : IsBundle contents.read.bundle = subst IsBundle (sym contents.same.bundle) (bundle_until (units_of b.template) b.slots fit) in
    record {
      next = contents.next + 1;
      read = contents.read;
      goes =
          goes_on (outside bs es rs ls) (inside (opened s lines.Zero) bs es rs ls) (outside (bs ++ contents.read ∷ []) es rs ls) k (k + 1)
          (contents.next + 1) (head_text b.template) (slots_text n b.template b.slots ++ text_line (codes "}"))
          (head_goes bs es rs ls k s b.template units room)
          (goes_on (inside (opened s lines.Zero) bs es rs ls) (inside contents.open_bundle bs es rs ls)
          (outside (bs ++ contents.read ∷ []) es rs ls) (k + 1) contents.next (contents.next + 1) (slots_text n b.template b.slots)
          (text_line (codes "}"))
          contents.goes
          (close_goes bs es rs ls contents.next contents.open_bundle contents.read contents.whole is));
      same = contents.same;
    }
