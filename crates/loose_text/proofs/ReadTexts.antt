-- What a text reads as is a loose text.
use Rattle.std.proofs.Common.{◌≡◌, ◌∙◌, refl, sym, ap, subst, inl, inr, ℕ, zero, suc, ◌+◌, ◌-◌, ◌*◌, ◌/◌, ◌^◌, ◌%◌, ◌<◌, ◌≤◌, false, List, [], ◌∷◌, ◌++◌, take, length, Result, Ok, append-nil, mod-lt, arith}
use Rattle.std.specs.Prelude.{replicate}
use Rattle.std.specs.Int.{w64, to_le_bytes, byte_at, bytes_low_first}
use Rattle.std.specs.List.{All, AllByRecursion}
use Rattle.first_fault.specs.Stages.{ArePassed}
use Rattle.ia_program.specs.declared.limits.TheConstants.{BUNDLE_LIMIT}
use Rattle.ia_program.specs.declared.relations.Relation.{Relation}
use Rattle.ia_program.specs.Programs.{AreBytes}
use Rattle.asm_matching.specs.Related.{IsRelated}
use Rattle.asm_reading.specs.declared.line.Line.{Line}
use Rattle.asm_reading.specs.declared.line.Line.TheVariants as line
use Rattle.asm_build.specs.declared.reason.TextError.{TextError}
use Rattle.asm_build.specs.declared.text_parts.RelationLine.{RelationLine}
use Rattle.asm_build.specs.Names.{padded}
use Rattle.asm_build.specs.Relations.{related, all_related, relation_stages, AreRelationsOf}
use Rattle.asm_build.specs.TextParts.{numbers_bytes}
use Rattle.asm_build.specs.TextReading.{text_lines, ComesToBy, AllSayBy}
use Rattle.asm_build.proofs.Membership.{all_both}
use Rattle.asm_build.proofs.RelationSets.{related_stay}
use Rattle.slot_layouts.specs.declared.layout.Wanted.{Wanted}
use Rattle.loose_items.specs.declared.item.Item.{Item}
use Rattle.loose_items.specs.Packings.{plain_of}
use Rattle.loose_items.proofs.PlainPackings.{other_line, items_few}
use Rattle.loose_text.specs.declared.item.ItemLine.{ItemLine}
use Rattle.loose_text.specs.LooseParts.{LooseParts, start, items_of, item_of, after, last_written, value_stages}
use Rattle.loose_text.specs.LooseReading.{loose_of, loose_reading, ReadsLoose}
use Rattle.loose_text.specs.LooseTexts.{IsItemEntry, Loose, IsLoose}
use Rattle.loose_text.proofs.EndOfText.{loose_is}
use Rattle.loose_text.proofs.RelationLines.{NamesRelated, line_relates}
use Rattle.loose_text.proofs.SoundLines.{all_sound}
use Rattle.loose_text.proofs.StoppedItems.{stopped_of, items_with}

-- Data are bytes.
abbrev IsByte : ℕ → Type 0
IsByte b = b < 256

byte_small : (i n : ℕ) → byte_at i n < 256
byte_small zero n = omega arith
byte_small (suc i) n = mod-lt (n / 256 ^ suc i) (omega arith)

low_small : (from count n : ℕ) → AllByRecursion IsByte (bytes_low_first from count n)
low_small from zero n = tt
low_small from (suc count) n = (byte_small from n, low_small (suc from) count n)

taken_small : (n : ℕ) (xs : List ℕ) → AllByRecursion IsByte xs → AllByRecursion IsByte (take n xs)
taken_small zero xs all = tt
taken_small (suc n) [] all = tt
taken_small (suc n) (x ∷ xs) all = (all.0, taken_small n xs all.1)

numbers_small : (size : ℕ) (values : List ℕ) → AllByRecursion IsByte (numbers_bytes size values)
numbers_small size [] = tt
numbers_small size (v ∷ vs) =
    all_both IsByte (take size (to_le_bytes w64 v)) (numbers_bytes size vs) (taken_small size (to_le_bytes w64 v) (low_small 0 8 v))
    (numbers_small size vs)

zeros_small : (n : ℕ) → AllByRecursion IsByte (replicate n 0)
zeros_small zero = tt
zeros_small (suc n) = (omega arith, zeros_small n)

are_bytes : (xs : List ℕ) → AllByRecursion IsByte xs → AreBytes xs
are_bytes [] all i = omega arith
are_bytes (x ∷ xs) all zero = all.0
are_bytes (x ∷ xs) all (suc i) = are_bytes xs all.1 i

-- The bundles of the plain packing are within their limit, relations name predicates that they may name, and data are
-- bytes.
record IsFit (s : LooseParts) : Type 0 where
  room : length (plain_of (items_of s.items)) ≤ BUNDLE_LIMIT
  related : AllByRecursion (λ (l : RelationLine). All IsRelated l.predicates) s.declared.relations
  bytes : AllByRecursion IsByte s.declared.bytes

same_fit : (s t : LooseParts) → IsFit s → t.items ≡ s.items → t.declared.relations ≡ s.declared.relations
    → t.declared.bytes ≡ s.declared.bytes → IsFit t
same_fit s t h items relations bytes = record { room = rw items h.room; related = rw relations h.related; bytes = rw bytes h.bytes }

-- An instruction more, for which there is room.
slot_fit : (s : LooseParts) (l : ItemLine) (k : ℕ) → IsFit s
    → length (plain_of (items_of s.items ++ record { line = k; insn = l.item.insn; breaks = l.item.breaks; written = l.item.written } ∷ []))
    ≤ BUNDLE_LIMIT
    → IsFit (record { declared = s.declared; items = s.items ++ l ∷ []; fresh = false })
slot_fit s l k h room = record {
  room =
      let same = ap (λ (is : List Item). length (plain_of is)) (items_with s.items l)
      ∙ ap (length {A = List Wanted}) (other_line (items_of s.items) l.item k) in omega (arith, same, room);
  related = h.related;
  bytes = h.bytes;
}

stop_fit : (s : LooseParts) → IsFit s → IsFit (record { declared = s.declared; items = last_written s.items; fresh = s.fresh })
stop_fit s h = record {
  room =
      let same = ap plain_of (sym (append-nil (items_of (last_written s.items)))) ∙ stopped_of s.items []
      ∙ ap plain_of (append-nil (items_of s.items)) in rw same h.room;
  related = h.related;
  bytes = h.bytes;
}

fit_after : (s : LooseParts) (n : ℕ) (value : Line) → NamesRelated value → ArePassed (value_stages s value) → IsFit s
    → IsFit (after s n value)
fit_after s n line.Empty related passed h = same_fit s (after s n line.Empty) h refl refl refl
fit_after s n (line.Label name) related passed h = same_fit s (after s n (line.Label name)) h refl refl refl
fit_after s n line.Text related passed h = same_fit s (after s n line.Text) h refl refl refl
fit_after s n line.Data related passed h = same_fit s (after s n line.Data) h refl refl refl
fit_after s n (line.Entry name) related passed h = same_fit s (after s n (line.Entry name)) h refl refl refl
fit_after s n (line.Relation predicates) related passed h = record {
  room = h.room;
  related =
      all_both (λ (l : RelationLine). All IsRelated l.predicates) s.declared.relations
      (record { line = n; bundle = length s.items; predicates = predicates } ∷ []) h.related (related, tt);
  bytes = h.bytes;
}
fit_after s n line.Ignored related passed h = same_fit s (after s n line.Ignored) h refl refl refl
fit_after s n (line.Numbers size values) related passed h = record {
  room = h.room;
  related = h.related;
  bytes = all_both IsByte s.declared.bytes (numbers_bytes size values) h.bytes (numbers_small size values);
}
fit_after s n (line.Skip count) related passed h = record {
  room = h.room;
  related = h.related;
  bytes = all_both IsByte s.declared.bytes (replicate count 0) h.bytes (zeros_small count);
}
fit_after s n (line.Open name) related passed h = absurd passed.1.0
fit_after s n (line.Slot draft stop) related passed h =
    slot_fit s (record { item = item_of s.fresh n draft stop; target = draft.target }) 0 h passed.1.1.1.0
fit_after s n line.Stop related passed h = stop_fit s h
fit_after s n line.Close related passed h = absurd passed.1.0

comes_fit : (s : LooseParts) (n : ℕ) (lines : List (List ℕ)) (r : Result LooseParts TextError) (t : LooseParts) → IsFit s → r ≡ Ok t
    → ComesToBy loose_reading s n lines r → IsFit t
comes_fit s n [] r t h is comes = subst IsFit (let same : s ≡ t = cc in same) h
comes_fit s n (line ∷ lines) r t h is (inl (why, refused, err)) = absurd cc
comes_fit s n (line ∷ lines) r t h is (inr (value, (says, passed), rest)) =
    comes_fit (after s n value) (n + 1) lines r t (fit_after s n value (line_relates line value says.reads.reading) passed h) is rest

all_fit : (text : List ℕ) (s : LooseParts) → AllSayBy loose_reading text s → IsFit s
all_fit text s says = comes_fit start 1 (text_lines text) (Ok s) s (record { room = omega arith; related = tt; bytes = tt }) refl says

-- The relations that lines declare are relations.
all_stay : (IsEntry : ℕ → Type 0) (before : List Relation) (lines : List RelationLine) → ArePassed (relation_stages IsEntry before lines)
    → AllByRecursion (λ (l : RelationLine). All IsRelated l.predicates) lines
    → AreRelationsOf IsEntry before → AreRelationsOf IsEntry (all_related before lines)
all_stay IsEntry before [] passed all h = h
all_stay IsEntry before (l ∷ ls) passed all h =
    all_stay IsEntry (related before l) ls passed.1.1 all.1 (related_stay IsEntry before (related before l) l.bundle l.predicates passed.0
    all.0 refl h)

pub read_is_loose : (text : List ℕ) (t : Loose) → ReadsLoose text t → IsLoose t
read_is_loose text t reads =
    let s = reads.parts in
    let fit = all_fit text s reads.lines in
    let passed = reads.whole in
    let IsEntry = IsItemEntry (loose_of s).items (loose_of s).entries in
    let related = passed.1.1.1.0 in
    let few : length (items_of s.items) ≤ 3 * BUNDLE_LIMIT = omega (arith, items_few (items_of s.items), fit.room) in
    let relations = all_stay IsEntry [] s.declared.relations related fit.related (λ n less. absurd (omega (arith, less))) in
    let bytes =
    are_bytes (padded s.declared.bytes) (all_both IsByte s.declared.bytes (replicate ((8 - length s.declared.bytes % 8) % 8) 0)
    fit.bytes (zeros_small ((8 - length s.declared.bytes % 8) % 8))) in
    subst IsLoose (sym reads.loose) (loose_is s (all_sound text s reads.lines) few fit.room passed.0 passed.1.0 passed.1.1.0 related
    relations bytes)
