-- What a text reads as is what its lines say, looked at all at once.
use Rattle.std.proofs.Common.{◌≡◌, ◌∙◌, refl, sym, ap, subst, ℕ, ◌+◌, Bool, true, false, List, [], ◌∷◌, length, Option, Some, None, Result, Ok, Err, arith}
use Rattle.std.specs.Prelude.{IfSome, Contains, is_some, unwrap_or, if◌then◌else◌}
use Rattle.first_fault.specs.Stages.{ArePassed}
use Rattle.ia_insn.specs.declared.insn.Insn.{Insn}
use Rattle.ia_insn.specs.declared.insn.Op.{Op}
use Rattle.ia_insn.specs.Displacements.{displacement}
use Rattle.ia_program.specs.Programs.{Program, AreEntries, IsEntryOf}
use Rattle.asm_reading.specs.declared.line.Line.{Line}
use Rattle.asm_reading.specs.declared.line.TemplateName.{TemplateName}
use Rattle.asm_reading.specs.declared.line.TemplateName.TheVariants as template_name
use Rattle.asm_build.specs.declared.address.Address.{Address}
use Rattle.asm_build.specs.declared.address.Address.TheVariants as address
use Rattle.asm_build.specs.declared.draft.BundleLines.{BundleLines}
use Rattle.asm_build.specs.declared.draft.SlotName.{SlotName}
use Rattle.asm_build.specs.declared.reason.TextError.{TextError}
use Rattle.asm_build.specs.Addresses.{IsInside, addressed}
use Rattle.asm_build.specs.Names.{addressed_by, named, is_named, put_in, slot_names, slots_named, bundle_named, bundles_named, unnamed_among, unnamed_slot, unnamed_bundle, all_declared, earlier, name_fault, or_none, padded, program_of}
use Rattle.asm_build.specs.Relations.{relation_stages}
use Rattle.asm_build.specs.TextParts.{TextParts, Labels, start, address_of, AreLabelsInside}
use Rattle.asm_build.specs.TextReading.{text_lines}
use Rattle.asm_build.specs.WholeTexts.{SlotSaid, IsLabel, IsOpSaid, IsInsnSaid, IsBundleSaid, AreBundlesSaid, bundles_in, entries_in, IsDeclared, IsProgramSaid, MeansWhatItReads}
use Rattle.asm_build.proofs.Entries.{declared_good, entries_of_rising}
use Rattle.asm_build.proofs.LabelValues.{label_within}
use Rattle.asm_build.proofs.SaidBundles.{IsDrafted, AreDrafted, all_drafted}
use Rattle.asm_build.proofs.SaidEntries.{IsDeclaredBy, entry_named, named_entry}
use Rattle.asm_build.proofs.SaidLabels.{label_found, label_said}
use Rattle.asm_build.proofs.Membership.{none_there}
use Rattle.asm_build.proofs.RelationFaults.{related_landed}
use Rattle.asm_build.proofs.SaidRelations.{relation_said, said_relation, rise_with}
use Rattle.asm_build.proofs.SaidLines.{Follow, taken_as, all_data, all_entries, names_of}
use Rattle.asm_build.proofs.Finishing.{length_named, both_none}

-- What is found among labels is a label on a line.
abbrev AreSaidLabels : List Line → Labels → Type 0
AreSaidLabels lines labels = (name : List ℕ) (a : Address) → address_of labels name ≡ Some a → IsLabel lines name a

-- An operation with what its name means, where it means something that fits.
plain : (branches : Bool) (x : Op) → unwrap_or (if branches then None else Some x) x ≡ x
plain true x = refl
plain false x = refl

op_addressed : (lines : List Line) (n : ℕ) (x : Op) (name : List ℕ) (o : Option Address)
    → ((a : Address) → o ≡ Some a → IsLabel lines name a) → is_some (addressed_by o x n) ≡ true
    → (a : Address) × IsLabel lines name a × (addressed x a n ≡ Some (unwrap_or (addressed_by o x n) x))
op_addressed lines n x name None said is = absurd cc
op_addressed lines n x name (Some a) said is = (a, said a refl, by (addressed x a n) is)
  where
    by : (o : Option Op) → is_some o ≡ true → o ≡ Some (unwrap_or o x)
    by None is = absurd cc
    by (Some y) is = refl

op_said : (lines : List Line) (labels : Labels) (n : ℕ) (x : Op) (target : Option (List ℕ)) → AreSaidLabels lines labels
    → is_some (named labels n x target) ≡ true → IsOpSaid lines n x target (unwrap_or (named labels n x target) x)
op_said lines labels n x None said is = plain (is_some (displacement x)) x
op_said lines labels n x (Some name) said is = op_addressed lines n x name (address_of labels name) (said name) is

insn_said : (lines : List Line) (labels : Labels) (n : ℕ) (slot : SlotSaid) (name : SlotName) → AreSaidLabels lines labels
    → name.target ≡ slot.target → is_named labels n (slot.insn, name) ≡ true
    → IsInsnSaid lines n slot (put_in labels n slot.insn name)
insn_said lines labels n slot name said same is = record {
  qp = refl;
  op =
      subst (λ target. IsOpSaid lines n slot.insn.op target (unwrap_or (named labels n slot.insn.op name.target) slot.insn.op)) same
      (op_said lines labels n slot.insn.op name.target said is);
}

-- Where no slot of a list is unnamed, each has its name.
none_found : (labels : Labels) (n : ℕ) (s : Insn × SlotName) (rest : List (Insn × SlotName)) → unnamed_among labels n (s ∷ rest) ≡ None
    → (is_named labels n s ≡ true) × (unnamed_among labels n rest ≡ None)
none_found labels n s rest none = by (is_named labels n s) refl
  where
    by : (b : Bool) → is_named labels n s ≡ b → (is_named labels n s ≡ true) × (unnamed_among labels n rest ≡ None)
    by true e = (e, rw e at none)
    by false e = absurd (no_option _ (rw e at none))
      where
        no_option : (m : ℕ) → Some m ≡ None → ⊥
        no_option m h = cc

-- A bundle with the addresses of its names.
slots_of : (labels : Labels) (n : ℕ) (l : BundleLines) → unnamed_slot labels n l ≡ None
    → (slots : List SlotSaid) (name : TemplateName) (lines : List Line) → AreSaidLabels lines labels → IsDrafted slots name l
    → IsBundleSaid lines n slots name (bundle_named labels n l)
slots_of labels n l none (x ∷ y ∷ []) template_name.Mlx lines said (template, contents, first, second) =
    let all : unnamed_among labels n ((x.insn, l.first) ∷ (y.insn, l.second) ∷ []) ≡ None =
    ap (λ s. unnamed_among labels n (slot_names s l)) (sym contents) ∙ none in
    let a = none_found labels n (x.insn, l.first) ((y.insn, l.second) ∷ []) all in
    let b = none_found labels n (y.insn, l.second) [] a.1 in (
      template,
      put_in labels n x.insn l.first,
      put_in labels n y.insn l.second,
      ap (λ s. slots_named labels n s l) contents,
      insn_said lines labels n x l.first said first a.0,
      insn_said lines labels n y l.second said second b.0,
    )
slots_of labels n l none (x ∷ y ∷ z ∷ []) name lines said (template, contents, first, second, third) =
    let all : unnamed_among labels n ((x.insn, l.first) ∷ (y.insn, l.second) ∷ (z.insn, l.third) ∷ []) ≡ None =
    ap (λ s. unnamed_among labels n (slot_names s l)) (sym contents) ∙ none in
    let a = none_found labels n (x.insn, l.first) ((y.insn, l.second) ∷ (z.insn, l.third) ∷ []) all in
    let b = none_found labels n (y.insn, l.second) ((z.insn, l.third) ∷ []) a.1 in
    let c = none_found labels n (z.insn, l.third) [] b.1 in (
      template,
      put_in labels n x.insn l.first,
      put_in labels n y.insn l.second,
      put_in labels n z.insn l.third,
      ap (λ s. slots_named labels n s l) contents,
      insn_said lines labels n x l.first said first a.0,
      insn_said lines labels n y l.second said second b.0,
      insn_said lines labels n z l.third said third c.0,
    )
slots_of labels n l none slots name lines said drafted = absurd drafted

bundles_said : (lines : List Line) (labels : Labels) (n : ℕ) (saids : List (List SlotSaid × TemplateName)) (ls : List BundleLines)
    → AreSaidLabels lines labels → AreDrafted saids ls → unnamed_bundle labels n ls ≡ None
    → AreBundlesSaid lines n saids (bundles_named labels n ls)
bundles_said lines labels n [] [] said drafted none = tt
bundles_said lines labels n [] (l ∷ ls) said drafted none = absurd drafted
bundles_said lines labels n (x ∷ xs) [] said drafted none = absurd drafted
bundles_said lines labels n (x ∷ xs) (l ∷ ls) said drafted none =
    let nones = both_none (unnamed_slot labels n l) (unnamed_bundle labels (n + 1) ls) none in
    (slots_of labels n l nones.0 x.0 x.1 lines said drafted.0, bundles_said lines labels (n + 1) xs ls said drafted.1 nones.1)

-- Where names have no fault, they mean what fits, and the declared entries are within their limit.
record NoNameFault (s : TextParts) : Type 0 where
  pub bundles : unnamed_bundle s.labels 0 s.bundles ≡ None
  pub entries : all_declared s.labels [] s.entries ≡ Ok (or_none (all_declared s.labels [] s.entries))

no_name_fault : (s : TextParts) → name_fault s ≡ None → NoNameFault s
no_name_fault s none = by (unnamed_bundle s.labels 0 s.bundles) (all_declared s.labels [] s.entries) refl refl none
  where
    by : (o : Option ℕ) (r : Result (List ℕ) TextError) → unnamed_bundle s.labels 0 s.bundles ≡ o → all_declared s.labels [] s.entries ≡ r
        → earlier o r ≡ None → NoNameFault s
    by None (Ok entries) e f h = record { bundles = e; entries = f ∙ ap (λ r. Ok (or_none r)) (sym f) }
    by None (Err why) e f h = absurd cc
    by (Some line) (Ok entries) e f h = absurd cc
    by (Some line) (Err why) e f h = absurd cc

same_address : (a b : Address) (o : Option Address) → o ≡ Some a → o ≡ Some b → a ≡ b
same_address a b o h k = cc

is_inside : (count : ℕ) (a : Address) (o : Option Address) → o ≡ Some a → IfSome o (IsInside count) → IsInside count a
is_inside count a o is inside = rw is at inside

-- A bundle is declared on lines exactly where they name it by its label.
abbrev SameLabels : List Line → Labels → Type 0
SameLabels lines labels = (name : List ℕ) (a : Address) → IsLabel lines name a → address_of labels name ≡ Some a

declared_said : (lines : List Line) (labels : Labels) (names : List (List ℕ)) (n : ℕ) → names ≡ entries_in lines
    → AreSaidLabels lines labels → IsDeclaredBy labels names n → IsDeclared lines n
declared_said lines labels names n same said (some, name, among, is) =
    (some, name, subst (λ all. Contains all name) same among, said name (address.Bundle n) is)

said_declared : (lines : List Line) (labels : Labels) (names : List (List ℕ)) (n : ℕ) → names ≡ entries_in lines → SameLabels lines labels
    → IsDeclared lines n → IsDeclaredBy labels names n
said_declared lines labels names n same found (some, name, among, is) =
    (some, name, subst (λ all. Contains all name) (sym same) among, found name (address.Bundle n) is)

-- The program that lines come to is what they say.
program_said : (lines : List Line) (t : TextParts) → Follow start 1 lines t → t.current ≡ None → AreLabelsInside t → NoNameFault t
    → ArePassed (relation_stages (IsEntryOf (program_of t).bundles (program_of t).entries) [] t.relations)
    → IsProgramSaid lines (program_of t)
program_said lines t follow closed inside clean related =
    let found : SameLabels lines t.labels = λ name a is. label_found lines t name a follow is in
    let said : AreSaidLabels lines t.labels = λ name a is. label_said lines t name a follow is in
    let names : names_of t.entries ≡ entries_in lines = all_entries start 1 lines t follow in
    let entries = or_none (all_declared t.labels [] t.entries) in
    let count = length t.bundles in
    let many = length_named t.labels 0 t.bundles in
    let good = declared_good t.labels count [] entries t.entries inside (tt, omega arith) clean.entries in
    record {
      bundles =
          bundles_said lines t.labels 0 (bundles_in lines) t.bundles said (all_drafted start 1 lines t follow closed refl refl)
          clean.bundles;
      rising = subst (λ n. AreEntries n entries) (sym many) (entries_of_rising count entries good.0);
      entries = λ n. (
        (λ is. declared_said lines t.labels (names_of t.entries) n names said (entry_named t.labels entries t.entries n clean.entries is)),
        (λ is. named_entry t.labels entries t.entries n clean.entries (said_declared lines t.labels (names_of t.entries) n names found is)),
      );
      bytes = ap padded (all_data start 1 lines t follow);
      ordered = rise_with [] t.relations tt;
      relations = λ r. ((λ is. relation_said lines t r follow is), (λ is. said_relation lines t r follow is));
      landed =
          related_landed (IsEntryOf (program_of t).bundles (program_of t).entries)
          [] t.relations related (λ r never. absurd (none_there r never));
      once = λ name a b one other. same_address a b (address_of t.labels name) (found name a one) (found name b other);
      inside =
          λ name a is. subst (λ n. IsInside n a) (sym many) (is_inside count a (address_of t.labels name) (found name a is)
          (label_within (IsInside count) t.labels name inside));
    }

-- What a text reads as is what it means as a whole.
pub means_what_it_reads : (text : List ℕ) (p : Program) → MeansWhatItReads text p
means_what_it_reads text p h =
    let taken = taken_as start 1 (text_lines text) h.parts (Ok h.parts) refl h.lines in
    let said =
    program_said taken.values h.parts taken.follow h.whole.0.0 h.whole.0.1 (no_name_fault h.parts h.whole.1.1.0) h.whole.1.1.1.0 in
    record { lines = taken.values; said = taken.said; program = subst (IsProgramSaid taken.values) (sym h.program) said }
