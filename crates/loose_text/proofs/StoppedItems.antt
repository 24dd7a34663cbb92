-- The items of lines, with a stop after the last.
use Rattle.std.proofs.Common.{◌≡◌, ◌∙◌, refl, sym, ap, ℕ, zero, suc, ◌-◌, ◌≤◌, true, false, List, [], ◌∷◌, ◌++◌, length, get_or, set, Option, Some, None, arith}
use Rattle.std.specs.Prelude.{if◌then◌else◌}
use Rattle.std.proofs.lemmas.List.{length-map}
use Rattle.slot_layouts.specs.declared.layout.Wanted.{Wanted}
use Rattle.loose_items.specs.declared.item.Item.{Item}
use Rattle.loose_items.specs.declared.packing.PlainPacking.{PlainPacking}
use Rattle.loose_items.specs.Packings.{wanted_as, joins, plain_on, plain_of}
use Rattle.loose_items.specs.PlainPackings.{ArePacked}
use Rattle.loose_text.specs.declared.item.ItemLine.{ItemLine}
use Rattle.loose_text.specs.LooseParts.{items_of, last_written}

-- It changes nothing of the plain packing.
stopped_on : (current : List Wanted) (before : Item) (lines : List ItemLine) (more : List Item)
    → plain_on current before (items_of (last_written lines) ++ more) ≡ plain_on current before (items_of lines ++ more)
stopped_on current before [] more = refl
stopped_on current before (l ∷ []) more = by more
  where
    by : (more : List Item) → plain_on current before (items_of (last_written (l ∷ [])) ++ more) ≡ plain_on current before (l.item ∷ more)
    by [] = refl
    by (m ∷ ms) = refl
stopped_on current before (l ∷ m ∷ ls) more =
    ap (λ x. if joins current before l.item false then x else current ∷ plain_on (wanted_as l.item false ∷ []) l.item
    (items_of (last_written (m ∷ ls)) ++ more)) (stopped_on (current ++ wanted_as l.item false ∷ []) l.item (m ∷ ls) more)
    ∙ ap (λ x. if joins current before l.item false then plain_on (current ++ wanted_as l.item false ∷ []) l.item
    (items_of (m ∷ ls) ++ more) else current ∷ x) (stopped_on (wanted_as l.item false ∷ []) l.item (m ∷ ls) more)

pub stopped_of : (lines : List ItemLine) (more : List Item) → plain_of (items_of (last_written lines) ++ more)
    ≡ plain_of (items_of lines ++ more)
stopped_of [] more = refl
stopped_of (l ∷ []) more = by more
  where
    by : (more : List Item) → plain_of (items_of (last_written (l ∷ [])) ++ more) ≡ plain_of (l.item ∷ more)
    by [] = refl
    by (m ∷ ms) = refl
stopped_of (l ∷ m ∷ ls) more = stopped_on (wanted_as l.item false ∷ []) l.item (m ∷ ls) more

pub stopped_length : (lines : List ItemLine) → length (last_written lines) ≡ length lines
stopped_length [] = refl
stopped_length (l ∷ []) = refl
stopped_length (l ∷ m ∷ ls) = ap suc (stopped_length (m ∷ ls))

same_count : (lines : List ItemLine) → length (items_of (last_written lines)) ≡ length (items_of lines)
same_count lines = length-map (last_written lines) (λ l. l.item) ∙ stopped_length lines ∙ sym (length-map lines (λ l. l.item))

none_stopped : (lines : List ItemLine) → items_of lines ≡ [] → items_of (last_written lines) ≡ []
none_stopped [] h = refl
none_stopped (l ∷ ls) h = cc

pub stopped_packed : (lines : List ItemLine) (p : Option PlainPacking) → ArePacked (items_of lines) p
    → ArePacked (items_of (last_written lines)) p
stopped_packed lines None h = none_stopped lines h
stopped_packed lines (Some p) h = (
  record {
    closed = h.0.closed;
    count = h.0.count;
    few = omega (arith, h.0.few, same_count lines);
    rest = λ more. stopped_of lines more ∙ h.0.rest more;
  },
  h.1,
)

-- The instructions with a stop after the last, where that one is changed.
abbrev pub stopped_line : ItemLine → ItemLine
stopped_line l =
    record { item = record { line = l.item.line; insn = l.item.insn; breaks = l.item.breaks; written = true }; target = l.target }

pub stopped_is : (lines : List ItemLine) (n : ℕ) (l : ItemLine) → 1 ≤ length lines → n ≡ length lines - 1 → l ≡ get_or lines n l
    → set lines n (stopped_line l) ≡ last_written lines
stopped_is [] n l some last is = absurd (omega (arith, some))
stopped_is (k ∷ []) zero l some last is = ap (λ x. stopped_line x ∷ []) is
stopped_is (k ∷ []) (suc n) l some last is = absurd (omega (arith, last))
stopped_is (k ∷ m ∷ ls) zero l some last is = absurd (omega (arith, last))
stopped_is (k ∷ m ∷ ls) (suc n) l some last is = ap (λ xs. k ∷ xs) (stopped_is (m ∷ ls) n l (omega arith) (omega (arith, last)) is)

-- The instructions of lines, with one line more.
pub items_with : (lines : List ItemLine) (l : ItemLine) → items_of (lines ++ l ∷ []) ≡ items_of lines ++ l.item ∷ []
items_with [] l = refl
items_with (k ∷ ks) l = ap (λ is. k.item ∷ is) (items_with ks l)
