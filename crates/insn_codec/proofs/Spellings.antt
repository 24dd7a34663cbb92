-- Bundles and their bytes correspond one to one.
use Rattle.std.proofs.Common.{◌≡◌, ℕ, List, [], ◌∷◌, length, refl, sym, ◌∙◌}
use Rattle.std.specs.Prelude.{slice_index}
use Rattle.bundle_bits.specs.declared.bundle.RawBundle.{RawBundle}
use Rattle.bundle_bits.specs.Laws.{OneRaw, OneBytes}
use Rattle.ia_insn.specs.declared.choices.Unit.{Unit as ExecutionUnit}
use Rattle.formats_b.specs.ListedX.{OneLongInstruction, OneLongWord}
use Rattle.ia_program.specs.declared.bundle.Slots.{Slots}
use Rattle.ia_program.specs.declared.bundle.Slots.TheVariants.{Three, Long}
use Rattle.ia_program.specs.Templates.{units_of}
use Rattle.insn_codec.specs.Spelling.{StandIn, IsRawOf}
use Rattle.insn_codec.specs.Laws.{OneInstructionOfUnit, OneWordOfUnit, OneBundle, OneSpelling}
use Rattle.insn_codec.proofs.Slots.{not_of_l, three_items, parts_of, same_bundle, same_number}

-- Bytes have one template and one choice of words.
pub same_raw : OneRaw → (bytes : List ℕ) (x y : RawBundle) → IsRawOf bytes x → IsRawOf bytes y → x ≡ y
same_raw raws bytes x y first second = raws x y first.widths second.widths (first.number ∙ sym second.number)

-- The words of slots are those of one choice of instructions.
same_slots : OneInstructionOfUnit → OneLongInstruction → (units : List ExecutionUnit) (s t : Slots) (words : List ℕ) → StandIn units s words
    → StandIn units t words → s ≡ t
same_slots one long (u ∷ v ∷ w ∷ []) (Three a b c) (Three x y z) words p q =
    let e = one u (slice_index words 0) a x p.0.code q.0.code in
    let f = one v (slice_index words 1) b y p.1.code q.1.code in
    let g = one w (slice_index words 2) c z p.2.code q.2.code in cc
same_slots one long (u ∷ v ∷ w ∷ []) (Three a b c) (Long x y) words p q =
    absurd (not_of_l v b (slice_index words 1) p.1.code q.2)
same_slots one long (u ∷ v ∷ w ∷ []) (Long a b) (Three x y z) words p q =
    absurd (not_of_l v y (slice_index words 1) q.1.code p.2)
same_slots one long (u ∷ v ∷ w ∷ []) (Long a b) (Long x y) words p q =
    let e = one u (slice_index words 0) a x p.0.code q.0.code in
    let f = long (slice_index words 1) (slice_index words 2) b y p.1.code q.1.code in cc
same_slots one long units s t words p q = absurd p

-- Bytes are those of one bundle.
pub one_bundle : OneRaw → OneInstructionOfUnit → OneLongInstruction → OneBundle
one_bundle raws one long bytes b c s t =
    let p = parts_of b bytes t.raw s (same_raw raws bytes s.raw t.raw s.parts t.parts) in
    let q = parts_of c bytes t.raw t refl in
    same_bundle c b.template b.slots (sym p.code ∙ q.code) (same_slots one long (units_of t.raw.template) b.slots c.slots t.raw.slots
    p.slots q.slots)

-- Three words that agree one by one are the same.
same_three : (x y : List ℕ) → length x ≡ 3 → length y ≡ 3 → slice_index x 0 ≡ slice_index y 0 → slice_index x 1 ≡ slice_index y 1
    → slice_index x 2 ≡ slice_index y 2 → x ≡ y
same_three x y m n first second third =
    sym (three_items 0 x m) ∙ (λ i. first i ∷ second i ∷ third i ∷ []) ∙ three_items 0 y n

-- Instructions have one choice of words.
same_words : OneWordOfUnit → OneLongWord → (units : List ExecutionUnit) (s : Slots) (x y : List ℕ) → length x ≡ 3 → length y ≡ 3
    → StandIn units s x → StandIn units s y → x ≡ y
same_words one long (u ∷ v ∷ w ∷ []) (Three a b c) x y m n p q =
    same_three x y m n (one u a _ _ p.0.code q.0.code) (one v b _ _ p.1.code q.1.code) (one w c _ _ p.2.code q.2.code)
same_words one long (u ∷ v ∷ w ∷ []) (Long a b) x y m n p q =
    let e = long b (slice_index x 1) (slice_index y 1) (slice_index x 2) (slice_index y 2) p.1.code q.1.code in
    same_three x y m n (one u a _ _ p.0.code q.0.code) e.0 e.1
same_words one long units s x y m n p q = absurd p

-- A bundle has one spelling.
pub one_spelling : OneBytes → OneWordOfUnit → OneLongWord → OneSpelling
one_spelling bytes one long b x y s t =
    let words =
    same_words one long (units_of b.template) b.slots s.raw.slots t.raw.slots s.parts.widths.count t.parts.widths.count s.slots
    t.slots in
    bytes x y s.are t.are (sym s.parts.number ∙ same_number s.raw t.raw.template t.raw.slots (s.code ∙ sym t.code) words ∙ t.parts.number)
