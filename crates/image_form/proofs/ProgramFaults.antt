-- The fault of bundles and relations that make no program is the first one of their bytes.
use Rattle.std.proofs.Common.{◌≡◌, inl, inr, ℕ, min, List, [], ◌∷◌, length, Option, None, Some, ap, refl, subst, arith}
use Rattle.std.specs.Prelude.{MatchOption, unwrap_or}
use Rattle.std.proofs.lemmas.Bool.{cases_lt}
use Rattle.first_fault.specs.Stages.{Stage, IsFirstFault}
use Rattle.ia_program.specs.declared.program.ProgramFault.{ProgramFault}
use Rattle.ia_program.specs.declared.program.ProgramFault.TheVariants as program
use Rattle.ia_program.specs.declared.relations.Relation.{Relation}
use Rattle.ia_program.specs.Bundles.{Bundle}
use Rattle.ia_program.specs.Places.{EachPlace}
use Rattle.ia_program.specs.Runs.{IsWithinRun}
use Rattle.ia_program.specs.Targets.{IsTargetInside}
use Rattle.ia_program.specs.Programs.{Program, IsProgram, AreInRange, AreEntries, IsFirstMisdeclared, HasProgramFault}
use Rattle.image_form.specs.declared.fault.ImageFault.{ImageFault}
use Rattle.image_form.specs.declared.fault.ImageFault.TheVariants.{Relation as RelationFault}
use Rattle.image_form.specs.Images.{AreSpelled}
use Rattle.image_form.specs.Parts.{ArePadded, IsFirstUnpadded}
use Rattle.image_form.specs.Faults.{bundle_stages, IsFirstWrong, relation_stage, image_fault}

-- The counts and the entries of what is to be a program are right.
pub record AreChecked (p : Program) : Type 0 where
  pub counts : AreInRange (length p.bundles) (length p.entries) (length p.bytes) (length p.relations)
  pub entries : AreEntries (length p.bundles) p.entries

-- A fault other than that of a relation is the first one of the bytes of the bundles.
pub other_fault : (p : Program) (spelled : List ℕ) (later : List (Stage ImageFault)) (f : ProgramFault) → AreChecked p
    → AreSpelled p.bundles spelled → ((n : ℕ) → f ≡ program.Relation n → ⊥) → HasProgramFault p f
    → IsFirstFault (bundle_stages spelled later) (image_fault f)
other_fault p spelled later f right is other (inl (key, same, not)) = absurd (not right.counts)
other_fault p spelled later f right is other (inr (c, inl (n, same, bad))) = absurd (bad.misplaced (right.entries n bad.inside))
other_fault p spelled later f right is other (inr (c, inr (e, inl (place, same, bad)))) =
    inr ((p.bundles, is, tt), inl (place, ap image_fault same, (p.bundles, is, bad)))
other_fault p spelled later f right is other (inr (c, inr (e, inr (t, inl (place, same, bad))))) =
    inr ((p.bundles, is, tt), inr ((p.bundles, is, t), inl (place, ap image_fault same, (p.bundles, is, bad))))
other_fault p spelled later f right is other (inr (c, inr (e, inr (t, inr (r, inl (n, same, bad)))))) = absurd (other n same)
other_fault p spelled later f right is other (inr (c, inr (e, inr (t, inr (r, inr none))))) = absurd none.1

-- Targets are inside and runs are not too long.
record ArePlacesRight (bundles : List Bundle) : Type 0 where
  targets : EachPlace bundles (IsTargetInside bundles)
  runs : EachPlace bundles (IsWithinRun bundles)

-- The first relation that may not be declared, where all else is right.
record IsLastFault (p : Program) (n : ℕ) : Type 0 where
  places : ArePlacesRight p.bundles
  first : IsFirstMisdeclared p.bundles p.entries p.relations n

last_fault : (p : Program) (n : ℕ) → AreChecked p → HasProgramFault p (program.Relation n) → IsLastFault p n
last_fault p n right (inl (key, same, not)) = absurd (not right.counts)
last_fault p n right (inr (c, inl (k, same, bad))) = absurd (bad.misplaced (right.entries k bad.inside))
last_fault p n right (inr (c, inr (e, inl (place, same, bad)))) = cc
last_fault p n right (inr (c, inr (e, inr (t, inl (place, same, bad))))) = cc
last_fault p n right (inr (c, inr (e, inr (t, inr (r, inl (k, same, bad)))))) =
    let number : k ≡ n = cc in
    record { places = record { targets = t; runs = r }; first = subst (IsFirstMisdeclared p.bundles p.entries p.relations) number bad }
last_fault p n right (inr (c, inr (e, inr (t, inr (r, inr none))))) = absurd none.1

-- A relation that isn't right is the first fault, where the places of the bundles are right.
wrong_relation : (bundles : List Bundle) (spelled entries : List ℕ) (relations : List Relation) (bytes : List ℕ) (n : ℕ)
    → AreSpelled bundles spelled → ArePlacesRight bundles → IsFirstWrong bundles entries relations bytes n
    → IsFirstFault (bundle_stages spelled (relation_stage spelled entries relations bytes ∷ [])) (RelationFault n)
wrong_relation bundles spelled entries relations bytes n is right first =
    inr ((bundles, is, tt), inr ((bundles, is, right.targets), inr ((bundles, is, right.runs), inl (n, refl, (bundles, is, first)))))

-- The first relation whose last two bytes aren't zero is the first fault of a program's.
pub unpadded_fault : (p : Program) (spelled bytes : List ℕ) (n : ℕ) → IsProgram p → AreSpelled p.bundles spelled
    → IsFirstUnpadded (length p.relations) bytes n → IsFirstFault
    (bundle_stages spelled (relation_stage spelled p.entries p.relations bytes ∷ [])) (RelationFault n)
unpadded_fault p spelled bytes n right is first =
    wrong_relation p.bundles spelled p.entries p.relations bytes n is (record { targets = right.targets; runs = right.runs }) (record {
      inside = first.inside;
      wrong = λ r. first.unpadded r.padded;
      first = λ k less. record { declared = right.relations k (omega (arith, first.inside)); padded = first.first k less };
    })

-- The smaller number of the first relation that may not be declared and of the first whose last two bytes aren't zero.
first_wrong : (bundles : List Bundle) (entries : List ℕ) (relations : List Relation) (bytes : List ℕ) (n : ℕ) (unpadded : Option ℕ)
    → MatchOption unpadded (ArePadded (length relations) bytes) (IsFirstUnpadded (length relations) bytes)
    → IsFirstMisdeclared bundles entries relations n → IsFirstWrong bundles entries relations bytes (min (unwrap_or unpadded n) n)
first_wrong bundles entries relations bytes n None padded bad =
    let e : min n n ≡ n = omega arith in
    rw e (record {
      inside = bad.inside;
      wrong = λ r. bad.misdeclared r.declared;
      first = λ k less. record { declared = bad.first k less; padded = padded k (omega (arith, bad.inside)) };
    })
first_wrong bundles entries relations bytes n (Some m) pad bad = elim (cases_lt m n) [
  | inl less ↦ let e : min m n ≡ m = omega arith in rw e (record {
    inside = pad.inside;
    wrong = λ r. pad.unpadded r.padded;
    first = λ k below. record { declared = bad.first k (omega arith); padded = pad.first k below };
  })
  | inr most ↦ let e : min m n ≡ n = omega arith in rw e (record {
    inside = bad.inside;
    wrong = λ r. bad.misdeclared r.declared;
    first = λ k below. record { declared = bad.first k below; padded = pad.first k (omega arith) };
  })
]

-- The first relation that may not be declared, or whose last two bytes aren't zero, is the first fault.
pub relation_fault : (p : Program) (spelled bytes : List ℕ) (n : ℕ) (unpadded : Option ℕ) → AreChecked p → AreSpelled p.bundles spelled
    → MatchOption unpadded (ArePadded (length p.relations) bytes) (IsFirstUnpadded (length p.relations) bytes)
    → HasProgramFault p (program.Relation n) → IsFirstFault (bundle_stages spelled
    (relation_stage spelled p.entries p.relations bytes ∷ [])) (RelationFault (min (unwrap_or unpadded n) n))
relation_fault p spelled bytes n unpadded right is pads fault =
    let last = last_fault p n right fault in
    wrong_relation p.bundles spelled p.entries p.relations bytes (min (unwrap_or unpadded n) n) is last.places
    (first_wrong p.bundles p.entries p.relations bytes n unpadded pads last.first)
