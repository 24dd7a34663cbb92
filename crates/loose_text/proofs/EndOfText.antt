-- What is known of the loose text that lines say when no fault was found.
use Rattle.std.proofs.Common.{◌≡◌, ◌⊎◌, ◌∙◌, refl, sym, ap, subst, inl, inr, ℕ, zero, suc, ◌+◌, ◌-◌, ◌*◌, ◌%◌, ◌<◌, ◌≤◌, List, [], ◌∷◌, length, Option, Some, None, Ok, Contains, arith}
use Rattle.std.specs.Prelude.{IfSome, slice_get, replicate}
use Rattle.std.specs.List.{AllByRecursion}
use Rattle.std.proofs.lemmas.List.{length-append, length-replicate, length-map}
use Rattle.first_fault.specs.Stages.{IsFirstFault, ArePassed}
use Rattle.ia_program.specs.declared.limits.TheConstants.{BUNDLE_LIMIT}
use Rattle.ia_program.specs.declared.relations.Relation.{Relation}
use Rattle.ia_program.specs.Listed.{IsListed}
use Rattle.ia_program.specs.Programs.{AreBytes}
use Rattle.asm_build.specs.declared.address.Address.{Address}
use Rattle.asm_build.specs.declared.address.Address.TheVariants as address
use Rattle.asm_build.specs.declared.reason.TextError.{TextError}
use Rattle.asm_build.specs.declared.reason.TextError.TheVariants as error
use Rattle.asm_build.specs.declared.text_parts.RelationLine.{RelationLine}
use Rattle.asm_build.specs.Names.{all_declared, padded}
use Rattle.asm_build.specs.Relations.{related, relation_stages, AreRelationsOf}
use Rattle.asm_build.specs.TextParts.{address_of, AreLabelsBelow}
use Rattle.asm_build.proofs.Entries.{RiseFrom, AreGood, declared_good, entries_of_rising}
use Rattle.asm_build.proofs.Finishing.{no_fault_named, padded_length}
use Rattle.asm_build.proofs.LabelValues.{label_within}
use Rattle.asm_build.proofs.Membership.{first_or_later, none_there}
use Rattle.asm_build.proofs.RelationFaults.{few_related, related_landed}
use Rattle.asm_build.proofs.SaidEntries.{entry_named}
use Rattle.loose_items.specs.declared.item.Item.{Item}
use Rattle.loose_text.specs.declared.item.ItemLine.{ItemLine}
use Rattle.loose_text.specs.LooseParts.{LooseParts, items_of}
use Rattle.loose_text.specs.LooseReading.{unnamed_item, name_fault, loose_of, end_stages}
use Rattle.loose_text.specs.LooseTexts.{IsItemEntry, Loose, IsLoose}
use Rattle.loose_items.specs.Packings.{plain_of}
use Rattle.loose_text.specs.SoundParts.{IsMarked, MayBeNamed, IsSound}
use Rattle.loose_text.proofs.NamedTargets.{breaks_at, each_target}

-- Lines that declare relations have no fault.
abbrev pub AreRelated : LooseParts → Type 0
AreRelated s = ArePassed (relation_stages (IsItemEntry (loose_of s).items (loose_of s).entries) [] s.declared.relations)

-- Instructions by their numbers.
listed_at : (lines : List ItemLine) → AllByRecursion (λ (l : ItemLine). IsListed l.item.insn) lines → (n : ℕ)
    → IfSome (slice_get (items_of lines) n) (λ i. IsListed i.insn)
listed_at [] all n = tt
listed_at (l ∷ ls) all zero = all.0
listed_at (l ∷ ls) all (suc n) = listed_at ls all.1 n

-- Declared entries are marked instructions.
known_marked : (s : LooseParts) (n : ℕ) (o : Option Address) → o ≡ Some (address.Bundle n) → IfSome o (MayBeNamed s) → IsMarked s n
known_marked s n o is known = rw is at known

entry_marked : (s : LooseParts) (out : List ℕ) (n : ℕ) → IsSound s → all_declared s.declared.labels [] s.declared.entries ≡ Ok out
    → Contains out n → IsMarked s n
entry_marked s out n sound is has =
    let (some, name, among, found) = entry_named s.declared.labels out s.declared.entries n is has in
    known_marked s n (address_of s.declared.labels name) found (label_within (MayBeNamed s) s.declared.labels name sound.labels)

-- Each declared entry is below the number of instructions.
risen_below : (low count : ℕ) (ns : List ℕ) (n : ℕ) → RiseFrom low count ns → Contains ns n → n < count
risen_below low count [] n rise has = absurd (none_there n has)
risen_below low count (m ∷ ns) n rise has = elim (first_or_later m n ns has) [
  | inl same ↦ rw (sym same) rise.1
  | inr later ↦ risen_below m count ns n rise.2 later
]

-- Relations of lines, each before a marked instruction, are of marked ones.
with_entries : (Old New : ℕ → Type 0) (before : List Relation) (lines : List RelationLine) → ArePassed (relation_stages Old before lines)
    → AllByRecursion (λ (l : RelationLine). New l.bundle) lines → ArePassed (relation_stages New before lines)
with_entries Old New before [] passed all = tt
with_entries Old New before (l ∷ ls) passed all = (all.0, (passed.1.0, with_entries Old New (related before l) ls passed.1.1 all.1))

relation_marked : (s : LooseParts) → IsSound s → AreRelated s → (r : Relation) → Contains (loose_of s).relations r → IsMarked s r.bundle
relation_marked s sound related =
    related_landed (IsMarked s) [] s.declared.relations (with_entries _ (IsMarked s) [] s.declared.relations related sound.relations)
    (λ r never. absurd (none_there r never))

-- Each of them is of an entry, and so of an instruction.
relation_inside : (s : LooseParts) → AreRelated s → (r : Relation) → Contains (loose_of s).relations r
    → r.bundle < length (items_of s.items)
relation_inside s related r has =
    (related_landed (IsItemEntry (loose_of s).items (loose_of s).entries)
    [] s.declared.relations related (λ r never. absurd (none_there r never)) r has).inside

-- What lines say that have no fault is a loose text, where each relation is one.
pub loose_is : (s : LooseParts) → IsSound s → length (items_of s.items) ≤ 3 * BUNDLE_LIMIT
    → length (plain_of (items_of s.items)) ≤ BUNDLE_LIMIT → AreLabelsBelow (length s.items) s.declared → 1 ≤ length s.items
    → name_fault s ≡ None
    → AreRelated s → AreRelationsOf (IsItemEntry (loose_of s).items (loose_of s).entries) (loose_of s).relations
    → AreBytes (loose_of s).bytes → IsLoose (loose_of s)
loose_is s sound few within below some none related relations bytes =
    let named = no_fault_named (unnamed_item s.declared.labels 0 s.items) (all_declared s.declared.labels [] s.declared.entries) none in
    let count : length (items_of s.items) ≡ length s.items = length-map s.items (λ l. l.item) in
    let good : AreGood (length s.items) (loose_of s).entries =
    declared_good s.declared.labels (length s.items) [] (loose_of s).entries s.declared.entries below (tt, omega arith) named.1 in
    let zeros = (8 - length s.declared.bytes % 8) % 8 in
    let size : length (padded s.declared.bytes) ≡ length s.declared.bytes + zeros =
    length-append s.declared.bytes (replicate zeros 0) ∙ ap (λ k. length s.declared.bytes + k) (length-replicate zeros 0) in
    let fits = padded_length (length s.declared.bytes) sound.bytes in
    record {
      some = omega (arith, some, count);
      few = few;
      bundles = within;
      listed = listed_at s.items sound.listed;
      targets = length-map s.items _ ∙ sym count;
      named = each_target s sound below named.0;
      entries = rw count (entries_of_rising (length s.items) (loose_of s).entries good.0);
      few_entries = good.1;
      entries_break =
          λ n has. breaks_at s n (entry_marked s (loose_of s).entries n sound named.1 has)
          (risen_below 0 (length s.items) (loose_of s).entries n good.0 has);
      relations = relations;
      few_relations = few_related (IsItemEntry (loose_of s).items (loose_of s).entries) [] s.declared.relations (omega arith) related;
      relations_break =
          λ r has. breaks_at s r.bundle (relation_marked s sound related r has) (omega (arith, relation_inside s related r has, count));
      bytes = bytes;
      few_bytes = rw size fits.0;
      words = rw size fits.1;
    }

same_loose : (t u : Loose) → t.items ≡ u.items → t.targets ≡ u.targets → t.entries ≡ u.entries → t.relations ≡ u.relations
    → t.bytes ≡ u.bytes → t ≡ u
same_loose t u a b c d e =
    ap (λ x. record { items = x; targets = t.targets; entries = t.entries; relations = t.relations; bytes = t.bytes }) a
    ∙ ap (λ x. record { items = u.items; targets = x; entries = t.entries; relations = t.relations; bytes = t.bytes }) b
    ∙ ap (λ x. record { items = u.items; targets = u.targets; entries = x; relations = t.relations; bytes = t.bytes }) c
    ∙ ap (λ x. record { items = u.items; targets = u.targets; entries = u.entries; relations = x; bytes = t.bytes }) d
    ∙ ap (λ x. record { items = u.items; targets = u.targets; entries = u.entries; relations = u.relations; bytes = x }) e

-- The same of lists that are those of the lines.
pub parts_are_loose : (s : LooseParts) (t : Loose) → t.items ≡ (loose_of s).items → t.targets ≡ (loose_of s).targets
    → t.entries ≡ (loose_of s).entries → t.relations ≡ (loose_of s).relations → t.bytes ≡ (loose_of s).bytes
    → IsSound s → length (items_of s.items) ≤ 3 * BUNDLE_LIMIT → length (plain_of (items_of s.items)) ≤ BUNDLE_LIMIT
    → AreLabelsBelow (length s.items) s.declared → 1 ≤ length s.items → name_fault s ≡ None
    → AreRelated s → AreRelationsOf (IsItemEntry t.items t.entries) t.relations → AreBytes t.bytes → IsLoose t
parts_are_loose s t items targets entries relations bytes sound few within below some none related all each =
    let same : t ≡ loose_of s = same_loose t (loose_of s) items targets entries relations bytes in
    let here : AreRelationsOf (IsItemEntry (loose_of s).items (loose_of s).entries) (loose_of s).relations =
    subst (λ (u : Loose). AreRelationsOf (IsItemEntry u.items u.entries) u.relations) same all in
    let each_here : AreBytes (loose_of s).bytes = subst (λ (u : Loose). AreBytes u.bytes) same each in
    subst IsLoose (sym same) (loose_is s sound few within below some none related here each_here)

-- Lines have no fault where they have none among the text's instructions and entries.
pub related_of : (s : LooseParts) (items : List Item) (entries : List ℕ) (lines : List RelationLine) → items ≡ (loose_of s).items
    → entries ≡ (loose_of s).entries → lines ≡ s.declared.relations
    → ArePassed (relation_stages (IsItemEntry items entries) [] lines) → AreRelated s
related_of s items entries lines is es ls passed =
    subst (λ xs. ArePassed (relation_stages (IsItemEntry xs (loose_of s).entries) [] s.declared.relations)) is
    (subst (λ fs. ArePassed (relation_stages (IsItemEntry items fs) [] s.declared.relations)) es
    (subst (λ ks. ArePassed (relation_stages (IsItemEntry items entries) [] ks)) ls passed))

-- The first fault of the lines of relations is that of the text.
pub relation_reported : (s : LooseParts) (count : ℕ) (items : List Item) (entries : List ℕ) (lines : List RelationLine) (e : TextError)
    → items ≡ (loose_of s).items → entries ≡ (loose_of s).entries → lines ≡ s.declared.relations
    → AreLabelsBelow (length s.items) s.declared → 1 ≤ length s.items → name_fault s ≡ None
    → (e ≡ error.Memory) ⊎ IsFirstFault (relation_stages (IsItemEntry items entries) [] lines) e
    → (e ≡ error.Memory) ⊎ IsFirstFault (end_stages count s) e
relation_reported s count items entries lines e is es ls below some none (inl memory) = inl memory
relation_reported s count items entries lines e is es ls below some none (inr fault) =
    let here = subst (λ xs. IsFirstFault (relation_stages (IsItemEntry xs (loose_of s).entries) [] s.declared.relations) e) is
    (subst (λ fs. IsFirstFault (relation_stages (IsItemEntry items fs) [] s.declared.relations) e) es
    (subst (λ ks. IsFirstFault (relation_stages (IsItemEntry items entries) [] ks) e) ls fault)) in
    inr (inr (below, inr (some, inr (none, inl (e, refl, here)))))
