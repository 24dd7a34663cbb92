-- The labels of a text name what stands before their lines.
use Rattle.std.proofs.Common.{◌≡◌, ◌∙◌, refl, sym, ap, inl, inr, ◌⊎◌, ℕ, ◌+◌, false, List, [], ◌∷◌, ◌++◌, length, Option, Some, None, Ordering, Less, Equal, Greater, arith, length-append}
use Rattle.std.specs.Prelude.{IsSome, IsSomeAnd, IfSome}
use Rattle.std.specs.Option.{option_map}
use Rattle.std.specs.Cmp.Lexicographic.{slice_cmp}
use Rattle.std.specs.BTreeMap.{insert_entry}
use Rattle.std.specs.Ordering.{nat_cmp, is_eq}
use Rattle.std.proofs.lemmas.Cmp.{nat_list_cmp_total, tied_itself}
use Rattle.std.proofs.lemmas.Map.Lookups.{exact_bytes}
use Rattle.first_fault.specs.Stages.{ArePassed}
use Rattle.ia_program.specs.Bundles.{IsBundle}
use Rattle.asm_reading.specs.declared.line.Line.{Line}
use Rattle.asm_reading.specs.declared.line.Line.TheVariants as line
use Rattle.asm_build.specs.declared.address.Address.{Address}
use Rattle.asm_build.specs.declared.address.Address.TheVariants as address
use Rattle.asm_build.specs.declared.draft.BundleLines.{BundleLines}
use Rattle.asm_build.specs.declared.text_parts.Section.{Section}
use Rattle.asm_build.specs.declared.text_parts.Section.TheVariants as section
use Rattle.asm_build.specs.Drafts.{OpenBundle, IsWhole, stopped, added}
use Rattle.asm_build.specs.TextParts.{TextParts, Labels, start, address_of, after, value_stages, closed_of, with_bundle, address_in, here}
use Rattle.asm_build.specs.WholeTexts.{bundles_in, data_in, section_after, section_address, address_after, IsLabel}
use Rattle.asm_build.proofs.PutIn.{put_here, put_elsewhere}
use Rattle.asm_build.proofs.SaidLines.{Follow}

-- A label among labels, and one more that isn't there yet.
abbrev with_one : Labels → List ℕ → Address → Labels
with_one labels name a = insert_entry (slice_cmp nat_cmp) labels name a

there : (labels : Labels) (name : List ℕ) (a : Address) → address_of (with_one labels name a) name ≡ Some a
there labels name a = put_here (slice_cmp nat_cmp) labels name a (tied_itself nat_list_cmp_total name)

elsewhere : (labels : Labels) (name other : List ℕ) (a : Address) → is_eq (slice_cmp nat_cmp name other) ≡ false
    → address_of (with_one labels other a) name ≡ address_of labels name
elsewhere labels name other a differ = put_elsewhere (slice_cmp nat_cmp) nat_list_cmp_total labels other a name differ

-- It is the new one or another.
record Which (name other : List ℕ) : Type 0 where
  which : (name ≡ other) ⊎ (is_eq (slice_cmp nat_cmp name other) ≡ false)

which : (name other : List ℕ) → Which name other
which name other = by (slice_cmp nat_cmp name other) refl
  where
    by : (r : Ordering) → slice_cmp nat_cmp name other ≡ r → Which name other
    by Less h = record { which = inr (ap is_eq h) }
    by Equal h = record { which = inl (exact_bytes name other h) }
    by Greater h = record { which = inr (ap is_eq h) }

not_new : (a : Address) (o : Option Address) → o ≡ Some a → o ≡ None → ⊥
not_new a o is none = cc

kept_with : (labels : Labels) (name other : List ℕ) (a b : Address) → address_of labels other ≡ None → address_of labels name ≡ Some a
    → address_of (with_one labels other b) name ≡ Some a
kept_with labels name other a b new is = elim ((which name other).which) [
  | inl same ↦ absurd (not_new a (address_of labels name) is (ap (address_of labels) same ∙ new))
  | inr differ ↦ elsewhere labels name other b differ ∙ is
]

closed_labels : (s : TextParts) (o : Option BundleLines) → (with_bundle s o).labels ≡ s.labels
closed_labels s None = refl
closed_labels s (Some b) = refl

-- A label stays.
one_kept : (s : TextParts) (n : ℕ) (v : Line) (name : List ℕ) (a : Address) → ArePassed (value_stages s v)
    → address_of s.labels name ≡ Some a → address_of (after s n v).labels name ≡ Some a
one_kept s n (line.Label other) name a passed is = kept_with s.labels name other a (here s) passed.1.0 is
one_kept s n line.Close name a passed is = ap (λ labels. address_of labels name) (closed_labels s (closed_of s.current)) ∙ is
one_kept s n v name a passed is = is

all_kept : (s : TextParts) (n : ℕ) (values : List Line) (t : TextParts) (name : List ℕ) (a : Address) → Follow s n values t
    → address_of s.labels name ≡ Some a → address_of t.labels name ≡ Some a
all_kept s n [] t name a h is = ap (λ (u : TextParts). address_of u.labels name) h ∙ is
all_kept s n (v ∷ vs) t name a h is = all_kept (after s n v) (n + 1) vs t name a h.1 (one_kept s n v name a h.0 is)

-- How many bundles have begun, with the open one.
abbrev pub open_count : Option OpenBundle → ℕ
open_count None = 0
open_count (Some o) = 1

abbrev pub begun : TextParts → ℕ
begun s = length s.bundles + open_count s.current

-- What a label names after these lines more.
abbrev address_from : TextParts → List Line → Address
address_from s before =
    section_address (section_after s.section before) (begun s + length (bundles_in before)) (length s.bytes + length (data_in before))

same_section_address : (where_ : Section) (a b m n : ℕ) → a ≡ b → m ≡ n → section_address where_ a m ≡ section_address where_ b n
same_section_address where_ a b m n h k = ap (λ x. section_address where_ x m) h ∙ ap (λ y. section_address where_ b y) k

open_mapped : (f : OpenBundle → OpenBundle) (o : Option OpenBundle) → open_count o ≡ open_count (option_map f o)
open_mapped f None = refl
open_mapped f (Some o) = refl

pub none_open : (o : Option OpenBundle) → o ≡ None → open_count o ≡ 0
none_open None none = refl
none_open (Some o) none = absurd cc

closed_begun : (s : TextParts) (o : Option BundleLines) → IsSomeAnd o (λ b. IsBundle b.bundle)
    → begun (with_bundle s o) ≡ length s.bundles + 1
closed_begun s None some = absurd some
closed_begun s (Some b) some = omega (arith, length-append s.bundles (b ∷ []))

close_begun : (s : TextParts) (o : Option OpenBundle) → IsSome o → IfSome o IsWhole
    → begun (with_bundle s (closed_of o)) ≡ length s.bundles + open_count o
close_begun s None some whole = absurd cc
close_begun s (Some o) some whole = closed_begun s (closed_of (Some o)) whole

closed_addresses : (s : TextParts) (o : Option BundleLines) (before : List Line) → begun (with_bundle s o) ≡ begun s
    → address_from s before ≡ address_from (with_bundle s o) before
closed_addresses s None before h = refl
closed_addresses s (Some b) before h =
    same_section_address (section_after s.section before) _ _ _ _ (ap (λ n. n + length (bundles_in before)) (sym h)) refl

data_addresses : (where_ : Section) (a : ℕ) (bytes more rest : List ℕ)
    → section_address where_ a (length bytes + length (more ++ rest)) ≡ section_address where_ a (length (bytes ++ more) + length rest)
data_addresses where_ a bytes more rest =
    same_section_address where_ a a _ _ refl (omega (arith, length-append more rest, length-append bytes more))

-- A line more or less.
one_address : (s : TextParts) (n : ℕ) (v : Line) (before : List Line) → ArePassed (value_stages s v)
    → address_from s (v ∷ before) ≡ address_from (after s n v) before
one_address s n (line.Numbers size values) before passed =
    data_addresses (section_after s.section before) (begun s + length (bundles_in before)) s.bytes _ (data_in before)
one_address s n (line.Skip count) before passed =
    data_addresses (section_after s.section before) (begun s + length (bundles_in before)) s.bytes _ (data_in before)
one_address s n (line.Open name) before passed =
    same_section_address (section_after s.section before) _ _ _ _ (omega (arith, none_open s.current passed.0.closed)) refl
one_address s n (line.Slot d stop) before passed =
    same_section_address (section_after s.section before) _ _ _ _
    (ap (λ c. length s.bundles + c + length (bundles_in before)) (open_mapped (λ o. added o n d stop) s.current)) refl
one_address s n line.Stop before passed =
    same_section_address (section_after s.section before) _ _ _ _
    (ap (λ c. length s.bundles + c + length (bundles_in before)) (open_mapped stopped s.current)) refl
one_address s n line.Close before passed = closed_addresses s (closed_of s.current) before (close_begun s s.current passed.0 passed.1.1.0)
one_address s n v before passed = refl

-- How many bundles have begun with those on these lines, a line more or less.
pub one_begun : (s : TextParts) (n : ℕ) (v : Line) (before : List Line) → ArePassed (value_stages s v)
    → begun s + length (bundles_in (v ∷ before)) ≡ begun (after s n v) + length (bundles_in before)
one_begun s n (line.Open name) before passed = omega (arith, none_open s.current passed.0.closed)
one_begun s n (line.Slot d stop) before passed =
    ap (λ c. length s.bundles + c + length (bundles_in before)) (open_mapped (λ o. added o n d stop) s.current)
one_begun s n line.Stop before passed = ap (λ c. length s.bundles + c + length (bundles_in before)) (open_mapped stopped s.current)
one_begun s n line.Close before passed = ap (λ c. c + length (bundles_in before)) (sym (close_begun s s.current passed.0 passed.1.1.0))
one_begun s n v before passed = refl

here_is : (s : TextParts) → s.current ≡ None → here s ≡ address_from s []
here_is s none = by s.section
  where
    by : (where_ : Section) → address_in where_ (address.Bundle (length s.bundles)) s.bytes ≡ section_address where_ (begun s + 0)
        (length s.bytes + 0)
    by section.Text = ap (λ n. address.Bundle n) (omega (arith, none_open s.current none))
    by section.Data = ap (λ n. address.Byte n) (omega arith)

-- A label on a line is found.
found_after : (s : TextParts) (n : ℕ) (before after_ : List Line) (t : TextParts) (name : List ℕ)
    → Follow s n (before ++ line.Label name ∷ after_) t → address_of t.labels name ≡ Some (address_from s before)
found_after s n [] after_ t name h =
    all_kept (after s n (line.Label name)) (n + 1) after_ t name (address_from s []) h.1
    (there s.labels name (here s) ∙ ap (λ a. Some a) (here_is s h.0.0))
found_after s n (v ∷ before) after_ t name h =
    found_after (after s n v) (n + 1) before after_ t name h.1 ∙ ap (λ a. Some a) (sym (one_address s n v before h.0))

-- A label on lines after these.
abbrev LabelFrom : TextParts → List Line → List ℕ → Address → Type 0
LabelFrom s values name a =
    (before : List Line) × (after_ : List Line) × (values ≡ before ++ line.Label name ∷ after_) × (a ≡ address_from s before)

-- What is found is a label from before or on a line.
abbrev Stands : TextParts → List Line → List ℕ → Address → Type 0
Stands s values name a = (address_of s.labels name ≡ Some a) ⊎ LabelFrom s values name a

same_some : (a b : Address) (o : Option Address) → o ≡ Some a → o ≡ Some b → b ≡ a
same_some a b o h k = cc

labelled : (s : TextParts) (other : List ℕ) (vs : List Line) (name : List ℕ) (a : Address) → s.current ≡ None
    → address_of (with_one s.labels other (here s)) name ≡ Some a → Stands s (line.Label other ∷ vs) name a
labelled s other vs name a none is = elim ((which name other).which) [
  | inl same ↦ inr (
    [],
    vs,
    ap (λ x. line.Label x ∷ vs) (sym same),
    same_some (here s) a (address_of (with_one s.labels other (here s)) name)
        (ap (address_of (with_one s.labels other (here s))) same ∙ there s.labels other (here s)) is ∙ here_is s none,
  )
  | inr differ ↦ inl (sym (elsewhere s.labels name other (here s) differ) ∙ is)
]

one_stands : (s : TextParts) (n : ℕ) (v : Line) (vs : List Line) (name : List ℕ) (a : Address) → ArePassed (value_stages s v)
    → address_of (after s n v).labels name ≡ Some a → Stands s (v ∷ vs) name a
one_stands s n (line.Label other) vs name a passed is = labelled s other vs name a passed.0 is
one_stands s n line.Close vs name a passed is =
    inl (sym (ap (λ labels. address_of labels name) (closed_labels s (closed_of s.current))) ∙ is)
one_stands s n v vs name a passed is = inl is

all_stand : (s : TextParts) (n : ℕ) (values : List Line) (t : TextParts) (name : List ℕ) (a : Address) → Follow s n values t
    → address_of t.labels name ≡ Some a → Stands s values name a
all_stand s n [] t name a h is = inl (sym (ap (λ (u : TextParts). address_of u.labels name) h) ∙ is)
all_stand s n (v ∷ vs) t name a h is = by (all_stand (after s n v) (n + 1) vs t name a h.1 is)
  where
    by : Stands (after s n v) vs name a → Stands s (v ∷ vs) name a
    by (inl before) = one_stands s n v vs name a h.0 before
    by (inr (before, after_, are, there)) = inr (v ∷ before, after_, ap (λ xs. v ∷ xs) are, there ∙ sym (one_address s n v before h.0))

from_start : (before : List Line) → address_from start before ≡ address_after before
from_start before = same_section_address (section_after section.Text before) _ _ _ _ (omega arith) (omega arith)

-- The labels that are found are those on lines.
pub label_found : (values : List Line) (t : TextParts) (name : List ℕ) (a : Address) → Follow start 1 values t → IsLabel values name a
    → address_of t.labels name ≡ Some a
label_found values t name a h (before, after_, are, there) =
    let follow : Follow start 1 (before ++ line.Label name ∷ after_) t = rw are at h in
    found_after start 1 before after_ t name follow ∙ ap (λ a. Some a) (from_start before ∙ sym there)

pub label_said : (values : List Line) (t : TextParts) (name : List ℕ) (a : Address) → Follow start 1 values t
    → address_of t.labels name ≡ Some a → IsLabel values name a
label_said values t name a h is = by (all_stand start 1 values t name a h is)
  where
    by : Stands start values name a → IsLabel values name a
    by (inl before) = absurd (not_new a None (sym (sym before)) refl)
    by (inr (before, after_, are, there)) = (before, after_, are, there ∙ from_start before)
