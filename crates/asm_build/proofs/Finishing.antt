-- What is known of the program that lines say when no fault was found.
use Rattle.std.proofs.Common.{◌≡◌, ◌⊎◌, ◌∙◌, refl, sym, ap, subst, inl, inr, ℕ, zero, suc, ◌+◌, ◌-◌, ◌%◌, ◌≤◌, Bool, true, false, cond, not, ◌==◌, ℤ, List, [], ◌∷◌, length, Option, Some, None, Result, Ok, Err, arith}
use Rattle.std.specs.Prelude.{IfSome, IfErr, is_some, unwrap_or, slice_get, replicate, if◌then◌else◌}
use Rattle.std.specs.List.{AllByRecursion}
use Rattle.std.specs.Option.{option_map}
use Rattle.std.specs.Map.{values_of}
use Rattle.std.proofs.lemmas.List.{length-append, length-replicate}
use Rattle.first_fault.specs.Stages.{IsFirstFault, ArePassed}
use Rattle.ia_insn.specs.declared.insn.Insn.{Insn}
use Rattle.ia_insn.specs.declared.insn.Op.{Op}
use Rattle.ia_insn.specs.Displacements.{displacement}
use Rattle.ia_program.specs.declared.limits.TheConstants.{DATA_LIMIT}
use Rattle.ia_program.specs.declared.place.Place.{Place}
use Rattle.ia_program.specs.declared.relations.Relation.{Relation}
use Rattle.ia_program.specs.declared.bundle.Slots.{Slots}
use Rattle.ia_program.specs.declared.bundle.Slots.TheVariants.{Three, Long}
use Rattle.ia_program.specs.Bundles.{Bundle, slot_insn}
use Rattle.ia_program.specs.Places.{bundle_insn, insn_at, EachPlace, IsFirstBad}
use Rattle.ia_program.specs.Programs.{AreInRange, AreEntries, IsEntryOf}
use Rattle.ia_program.specs.Runs.{IsWithinRun}
use Rattle.ia_program.specs.Targets.{IsBundleAt, IsTargetInside}
use Rattle.asm_build.specs.declared.draft.BundleLines.{BundleLines}
use Rattle.asm_build.specs.declared.draft.SlotName.{SlotName}
use Rattle.asm_build.specs.declared.text_parts.RelationLine.{RelationLine}
use Rattle.asm_build.specs.declared.address.Address.{Address}
use Rattle.asm_build.specs.declared.reason.Reason.TheVariants.{LongRun}
use Rattle.asm_build.specs.declared.reason.TextError.{TextError}
use Rattle.asm_build.specs.declared.reason.TextError.TheVariants as error
use Rattle.asm_build.specs.TextReading.{end_stages}
use Rattle.asm_build.specs.Addresses.{IsInside}
use Rattle.asm_build.specs.Addresses.{addressed}
use Rattle.asm_build.specs.Names.{addressed_by, named, is_named, slot_names, unnamed_among, unnamed_slot, or_else, unnamed_bundle, slots_named, bundles_named, all_declared, earlier, name_fault, or_none, padded, program_of, line_at}
use Rattle.asm_build.specs.Relations.{relation_stages}
use Rattle.asm_build.specs.TextParts.{TextParts, Labels, address_of, IsWithinLimits, AreLabelsInside}
use Rattle.asm_build.proofs.AddressedTargets.{target_inside}
use Rattle.asm_build.proofs.Entries.{AreGood, declared_good, entries_of_rising}
use Rattle.asm_build.proofs.LabelValues.{label_within}
use Rattle.asm_build.proofs.RelationFaults.{few_related}

pub length_named : (labels : Labels) (n : ℕ) (bs : List BundleLines) → length (bundles_named labels n bs) ≡ length bs
length_named labels n [] = refl
length_named labels n (b ∷ bs) = ap suc (length_named labels (n + 1) bs)

pub padded_length : (k : ℕ) → k ≤ DATA_LIMIT → (k + (8 - k % 8) % 8 ≤ DATA_LIMIT) × ((k + (8 - k % 8) % 8) % 8 ≡ 0)
padded_length k h = (omega (arith, h), omega arith)

-- Names: none is without its label, and the entries are those that lines name.
pub no_fault_named : (u : Option ℕ) (r : Result (List ℕ) TextError) → earlier u r ≡ None → (u ≡ None) × (r ≡ Ok (or_none r))
no_fault_named None (Ok entries) e = (refl, refl)
no_fault_named None (Err f) e = cc
no_fault_named (Some line) (Ok entries) e = cc
no_fault_named (Some line) (Err f) e = cc

pub entries_good : (s : TextParts) → AreLabelsInside s → name_fault s ≡ None → AreGood (length s.bundles) (program_of s).entries
entries_good s inside none =
    let named = no_fault_named (unnamed_bundle s.labels 0 s.bundles) (all_declared s.labels [] s.entries) none in
    declared_good s.labels (length s.bundles) [] (program_of s).entries s.entries inside (tt, omega arith) named.1

-- Lines that declare relations have no fault.
abbrev pub AreRelated : TextParts → Type 0
AreRelated s = ArePassed (relation_stages (IsEntryOf (program_of s).bundles (program_of s).entries) [] s.relations)

pub in_range : (s : TextParts) → IsWithinLimits s → 1 ≤ length s.bundles → AreLabelsInside s → name_fault s ≡ None → AreRelated s
    → AreInRange (length (program_of s).bundles) (length (program_of s).entries) (length (program_of s).bytes)
    (length (program_of s).relations)
in_range s limits some inside none related =
    let count : length (program_of s).bundles ≡ length s.bundles = length_named s.labels 0 s.bundles in
    let zeros = (8 - length s.bytes % 8) % 8 in
    let size : length (padded s.bytes) ≡ length s.bytes + zeros =
    length-append s.bytes (replicate zeros 0) ∙ ap (λ k. length s.bytes + k) (length-replicate zeros 0) in
    let fits = padded_length (length s.bytes) limits.bytes in
    record {
      some = rw count some;
      bundles = rw count limits.bundles;
      entries = (entries_good s inside none).1;
      bytes = rw size fits.0;
      words = rw size fits.1;
      relations = few_related (IsEntryOf (program_of s).bundles (program_of s).entries) [] s.relations (omega arith) related;
    }

pub entries_are : (s : TextParts) → AreLabelsInside s → name_fault s ≡ None
    → AreEntries (length (program_of s).bundles) (program_of s).entries
entries_are s inside none =
    rw (length_named s.labels 0 s.bundles) (entries_of_rising (length s.bundles) (program_of s).entries (entries_good s inside none).0)

-- The target of an operation, where it has one, is one of `count` bundles.
abbrev HasTargetInside : ℕ → ℕ → Op → Type 0
HasTargetInside count n x = IfSome (displacement x) (IsBundleAt count n)

no_target : (count n : ℕ) (o : Option ℤ) → is_some o ≡ false → IfSome o (IsBundleAt count n)
no_target count n None h = tt
no_target count n (Some z) h = cc

-- Of an operation whose name means something.
plain_inside : (count n : ℕ) (x : Op) (b : Bool) → is_some (displacement x) ≡ b → is_some (if b then None else Some x) ≡ true
    → HasTargetInside count n (unwrap_or (if b then None else Some x) x)
plain_inside count n x true h named = cc
plain_inside count n x false h named = no_target count n (displacement x) h

addressed_inside : (count n : ℕ) (x : Op) (a : Option Address) → IfSome a (IsInside count) → is_some (addressed_by a x n) ≡ true
    → HasTargetInside count n (unwrap_or (addressed_by a x n) x)
addressed_inside count n x None h named = cc
addressed_inside count n x (Some a) h named = or_inside (addressed x a n) named (target_inside count x a n h)
  where
    or_inside : (o : Option Op) → is_some o ≡ true → IfSome o (HasTargetInside count n) → HasTargetInside count n (unwrap_or o x)
    or_inside None is p = cc
    or_inside (Some y) is p = p

named_inside : (labels : Labels) (count n : ℕ) (x : Op) (target : Option (List ℕ)) → AllByRecursion (IsInside count) (values_of labels)
    → is_some (named labels n x target) ≡ true → HasTargetInside count n (unwrap_or (named labels n x target) x)
named_inside labels count n x None all is = plain_inside count n x (is_some (displacement x)) refl is
named_inside labels count n x (Some name) all is =
    addressed_inside count n x (address_of labels name) (label_within (IsInside count) labels name all) is

-- Each slot of a bundle, with the address of its name, has its target inside.
abbrev AreTargetsInside : ℕ → ℕ → Slots → Type 0
AreTargetsInside count n (Three i j k) = HasTargetInside count n i.op × HasTargetInside count n j.op × HasTargetInside count n k.op
AreTargetsInside count n (Long i j) = HasTargetInside count n i.op × HasTargetInside count n j.op

found_none : (p : Bool) (s : Insn × SlotName) (rest : Option (Insn × SlotName))
    → option_map (λ (x : Insn × SlotName). x.1.line) (cond (not p) (Some s) rest) ≡ None
    → (p ≡ true) × (option_map (λ (x : Insn × SlotName). x.1.line) rest ≡ None)
found_none true s rest e = (refl, e)
found_none false s rest e = cc

slots_inside : (labels : Labels) (count n : ℕ) (slots : Slots) (b : BundleLines) → AllByRecursion (IsInside count) (values_of labels)
    → unnamed_among labels n (slot_names slots b) ≡ None → AreTargetsInside count n (slots_named labels n slots b)
slots_inside labels count n (Three i j k) b all none =
    let one = found_none (is_named labels n (i, b.first)) (i, b.first) _ none in
    let two = found_none (is_named labels n (j, b.second)) (j, b.second) _ one.1 in
    let three = found_none (is_named labels n (k, b.third)) (k, b.third) _ two.1 in (
      named_inside labels count n i.op b.first.target all one.0,
      named_inside labels count n j.op b.second.target all two.0,
      named_inside labels count n k.op b.third.target all three.0,
    )
slots_inside labels count n (Long i j) b all none =
    let one = found_none (is_named labels n (i, b.first)) (i, b.first) _ none in
    let two = found_none (is_named labels n (j, b.second)) (j, b.second) _ one.1 in
    (named_inside labels count n i.op b.first.target all one.0, named_inside labels count n j.op b.second.target all two.0)

pub both_none : (o p : Option ℕ) → or_else o p ≡ None → (o ≡ None) × (p ≡ None)
both_none None p e = (refl, e)
both_none (Some line) p e = cc

-- Each slot of each bundle from the n-th on, with the address of its name, has its target inside.
bundles_inside : (labels : Labels) (count n : ℕ) (bs : List BundleLines) → AllByRecursion (IsInside count) (values_of labels)
    → unnamed_bundle labels n bs ≡ None
    → (k m : ℕ) → m ≡ n + k → IfSome (slice_get (bundles_named labels n bs) k) (λ b. AreTargetsInside count m b.slots)
bundles_inside labels count n [] all none k m is = tt
bundles_inside labels count n (b ∷ bs) all none zero m is =
    let one = both_none (unnamed_slot labels n b) (unnamed_bundle labels (n + 1) bs) none in
    let here : m ≡ n = omega (arith, is) in
    rw here (slots_inside labels count n b.bundle.slots b all one.0)
bundles_inside labels count n (b ∷ bs) all none (suc k) m is =
    let one = both_none (unnamed_slot labels n b) (unnamed_bundle labels (n + 1) bs) none in
    bundles_inside labels count (n + 1) bs all one.1 k m (omega (arith, is))

if_slot : (count n : ℕ) (here : Bool) (i : Insn) (other : Option Insn) → HasTargetInside count n i.op
    → IfSome other (λ i. HasTargetInside count n i.op)
    → IfSome (if here then Some i else other) (λ i. HasTargetInside count n i.op)
if_slot count n true i other p q = p
if_slot count n false i other p q = q

at_slot : (count n : ℕ) (slots : Slots) (slot : ℕ) → AreTargetsInside count n slots
    → IfSome (slot_insn slots slot) (λ i. HasTargetInside count n i.op)
at_slot count n (Three a b c) slot h =
    if_slot count n (slot == 0) a _ h.0 (if_slot count n (slot == 1) b _ h.1 (if_slot count n (slot == 2) c None h.2 tt))
at_slot count n (Long first long) slot h = if_slot count n (slot == 0) first _ h.0 (if_slot count n (slot == 1) long None h.1 tt)

at_place : (count n slot : ℕ) (o : Option Bundle) → IfSome o (λ b. AreTargetsInside count n b.slots)
    → IfSome (bundle_insn o slot) (λ i. HasTargetInside count n i.op)
at_place count n slot None h = tt
at_place count n slot (Some b) h = at_slot count n b.slots slot h

-- The target of each place is a bundle of the program.
pub targets_are : (s : TextParts) → AreLabelsInside s → name_fault s ≡ None
    → EachPlace (program_of s).bundles (IsTargetInside (program_of s).bundles)
unfolding insn_at
targets_are s inside none place is =
    let named = no_fault_named (unnamed_bundle s.labels 0 s.bundles) (all_declared s.labels [] s.entries) none in
    rw (length_named s.labels 0 s.bundles)
    (at_place (length s.bundles) place.bundle place.slot (slice_get (program_of s).bundles place.bundle)
    (bundles_inside s.labels (length s.bundles) 0 s.bundles inside named.0 place.bundle place.bundle (omega arith)))

-- Lines have none where they have none among the program's bundles and entries.
pub related_of : (s : TextParts) (bundles : List Bundle) (entries : List ℕ) (lines : List RelationLine) → bundles ≡ (program_of s).bundles
    → entries ≡ (program_of s).entries → lines ≡ s.relations
    → ArePassed (relation_stages (IsEntryOf bundles entries) [] lines) → AreRelated s
related_of s bundles entries lines bs es ls passed =
    subst (λ cs. ArePassed (relation_stages (IsEntryOf cs (program_of s).entries) [] s.relations)) bs
    (subst (λ fs. ArePassed (relation_stages (IsEntryOf bundles fs) [] s.relations)) es
    (subst (λ ks. ArePassed (relation_stages (IsEntryOf bundles entries) [] ks)) ls passed))

-- What is known of bundles, entries, data and relations that are the program's: their counts and entries are right.
pub record AreParts (s : TextParts) (bundles : List Bundle) (entries bytes : List ℕ) (relations : List Relation) : Type 0 where
  pub limits : IsWithinLimits s
  pub some : 1 ≤ length s.bundles
  pub inside : AreLabelsInside s
  pub none : name_fault s ≡ None
  pub bundles_are : bundles ≡ (program_of s).bundles
  pub entries_are : entries ≡ (program_of s).entries
  pub bytes_are : bytes ≡ padded s.bytes
  pub related : AreRelated s
  pub relations_are : relations ≡ (program_of s).relations

pub parts_in_range : (s : TextParts) (bundles : List Bundle) (entries bytes : List ℕ) (relations : List Relation)
    → AreParts s bundles entries bytes relations
    → AreInRange (length bundles) (length entries) (length bytes) (length relations)
parts_in_range s bundles entries bytes relations h =
    rw (h.bundles_are, h.entries_are, h.bytes_are, h.relations_are) (in_range s h.limits h.some h.inside h.none h.related)

pub parts_rise : (s : TextParts) (bundles : List Bundle) (entries bytes : List ℕ) (relations : List Relation)
    → AreParts s bundles entries bytes relations → AreEntries (length bundles) entries
parts_rise s bundles entries bytes relations h = rw (h.bundles_are, h.entries_are) (entries_are s h.inside h.none)

pub parts_inside : (s : TextParts) (bundles : List Bundle) (entries bytes : List ℕ) (relations : List Relation)
    → AreParts s bundles entries bytes relations → EachPlace bundles (IsTargetInside bundles)
parts_inside s bundles entries bytes relations h = rw h.bundles_are (targets_are s h.inside h.none)

-- After the last line there was no fault but the run.
pub run_is_first : (count : ℕ) (s : TextParts) (place : Place) (line : ℕ) → s.current ≡ None → AreLabelsInside s → 1 ≤ length s.bundles
    → name_fault s ≡ None → AreRelated s
    → IsFirstBad (program_of s).bundles (IsWithinRun (program_of s).bundles) place → line ≡ line_at s.bundles place
    → IsFirstFault (end_stages count s) (error.Fault line LongRun)
run_is_first count s place line closed inside some none related first is =
    inr ((closed, inside), inr (some, inr (none, inr (related, inl (place, ap (λ l. error.Fault l LongRun) is, first)))))

-- The fault of a run is the first fault of the text.
pub run_reported : {T : Type 0} (count : ℕ) (s : TextParts) (lines : List BundleLines) (bundles : List Bundle) (r : Result T TextError)
    → s.current ≡ None → AreLabelsInside s → 1 ≤ length s.bundles → name_fault s ≡ None → AreRelated s
    → lines ≡ s.bundles → bundles ≡ (program_of s).bundles
    → IfErr r (λ e. (place : Place) × IsFirstBad bundles (IsWithinRun bundles) place × (e ≡ error.Fault (line_at lines place) LongRun))
    → IfErr r (λ e. (e ≡ error.Memory) ⊎ IsFirstFault (end_stages count s) e)
run_reported count s lines bundles (Ok t) closed inside some none related same are h = tt
run_reported count s lines bundles (Err e) closed inside some none related same are (place, first, is) =
    let line : line_at lines place ≡ line_at s.bundles place = ap (λ b. line_at b place) same in
    let fault =
    run_is_first count s place (line_at lines place) closed inside some none related
    (subst (λ b. IsFirstBad b (IsWithinRun b) place) are first) line in
    inr (subst (IsFirstFault (end_stages count s)) (sym is) fault)
