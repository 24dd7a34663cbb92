-- Bundles, entries, data and relations have at most one first fault, and a program has none.
use Rattle.std.proofs.Common.{◌≡◌, inl, inr, ℕ, List, length}
use Rattle.first_fault.specs.Stages.{first}
use Rattle.first_fault.proofs.Laws.{IsSound, AreSound, unless_sound, one_fault, no_fault}
use Rattle.first_fault.proofs.Firsts.{one_first}
use Rattle.ia_program.specs.declared.place.Place.{Place}
use Rattle.ia_program.specs.declared.program.ProgramFault.{ProgramFault}
use Rattle.ia_program.specs.declared.program.ProgramFault.TheVariants.{Counts}
use Rattle.ia_program.specs.declared.relations.Relation.{Relation}
use Rattle.ia_program.specs.Bundles.{Bundle}
use Rattle.ia_program.specs.Places.{EachPlace, IsFirstBad}
use Rattle.ia_program.specs.Runs.{IsWithinRun}
use Rattle.ia_program.specs.Targets.{IsTargetInside}
use Rattle.ia_program.specs.Programs.{Program, AreInRange, AreEntries, IsEntryAt, IsFirstMisplaced, AreRelations, IsRelationAt, IsFirstMisdeclared, IsProgram, program_stages, HasProgramFault}
use Rattle.ia_program.proofs.Reaching.{order}

-- One place is the first bad one.
pub one_first_bad : (bundles : List Bundle) (Good : Place → Type 0) (p q : Place) → IsFirstBad bundles Good p → IsFirstBad bundles Good q
    → p ≡ q
one_first_bad bundles Good p q a b = elim (order p q) [
  | inl less ↦ absurd (a.bad (b.first p a.is less))
  | inr (inl more) ↦ absurd (b.bad (a.first q b.is more))
  | inr (inr same) ↦ same
]

-- The search for a bad place, and for a misplaced entry, finds at most one and none where all are good.
pub first_bad_sound : {Fault : Type 0} (fault : Place → Fault) (bundles : List Bundle) (Good : Place → Type 0)
    → IsSound (first Place fault (IsFirstBad bundles Good) (EachPlace bundles Good))
first_bad_sound fault bundles Good = record { one = one_first_bad bundles Good; none = λ p bad each. bad.bad (each p bad.is) }

pub misplaced_sound : {Fault : Type 0} (fault : ℕ → Fault) (count : ℕ) (entries : List ℕ)
    → IsSound (first ℕ fault (IsFirstMisplaced count entries) (AreEntries count entries))
misplaced_sound fault count entries = record {
  one = λ m n a b. one_first (IsEntryAt count entries) m n a.first a.misplaced b.first b.misplaced;
  none = λ n a are. a.misplaced (are n a.inside);
}

pub misdeclared_sound : {Fault : Type 0} (fault : ℕ → Fault) (bundles : List Bundle) (entries : List ℕ) (relations : List Relation)
    → IsSound (first ℕ fault (IsFirstMisdeclared bundles entries relations) (AreRelations bundles entries relations))
misdeclared_sound fault bundles entries relations = record {
  one = λ m n a b. one_first (IsRelationAt bundles entries relations) m n a.first a.misdeclared b.first b.misdeclared;
  none = λ n a are. a.misdeclared (are n a.inside);
}

program_sound : (p : Program) → AreSound (program_stages p)
program_sound p = (
  unless_sound (AreInRange (length p.bundles) (length p.entries) (length p.bytes) (length p.relations)) Counts,
  (
    misplaced_sound _ (length p.bundles) p.entries,
    (
      first_bad_sound _ p.bundles (IsTargetInside p.bundles),
      (first_bad_sound _ p.bundles (IsWithinRun p.bundles), (misdeclared_sound _ p.bundles p.entries p.relations, tt)),
    ),
  ),
)

pub one_program_fault : (p : Program) (f g : ProgramFault) → HasProgramFault p f → HasProgramFault p g → f ≡ g
one_program_fault p f g a b = one_fault (program_stages p) (program_sound p) f g a b

pub no_program_fault : (p : Program) (f : ProgramFault) → IsProgram p → HasProgramFault p f → ⊥
no_program_fault p f is a =
    no_fault (program_stages p) (program_sound p) (is.counts, (is.entries, (is.targets, (is.runs, (is.relations, tt))))) f a
