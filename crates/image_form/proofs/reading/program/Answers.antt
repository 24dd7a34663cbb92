use Rattle.std.proofs.Common.{◌≡◌, ◌∙◌, ℕ, List, [], ◌∷◌, Option, min, ap, sym, subst}
use Rattle.std.specs.Prelude.{MatchOption, unwrap_or}
use Rattle.ia_program.specs.declared.program.ProgramFault.TheVariants as program
use Rattle.ia_program.specs.Programs.{Program, IsProgram, HasProgramFault}
use Rattle.image_form.specs.declared.fault.ImageFault.TheVariants.{Relation as RelationFault}
use Rattle.first_fault.specs.Stages.{IsFirstFault}
use Rattle.image_form.specs.Parts.{ArePadded, IsFirstUnpadded}
use Rattle.image_form.specs.Faults.{bundle_stages, relation_stage}
use Rattle.image_form.proofs.ProgramFaults.{unpadded_fault, other_fault, relation_fault}
use Rattle.image_form.proofs.reading.program.Goals as goal

-- The first that isn't padded is so of as many relations as there are.
unpadded_of : (part : List ℕ) (count k : ℕ) (found : Option ℕ) → count ≡ k → MatchOption found (ArePadded k part) (IsFirstUnpadded k part)
    → MatchOption found (ArePadded count part) (IsFirstUnpadded count part)
unpadded_of part count k found same is = subst (λ (n : ℕ). MatchOption found (ArePadded n part) (IsFirstUnpadded n part)) (sym same) is

pub returns-in-Some-clause-fault : goal.returns-in-Some-clause-fault
returns-in-Some-clause-fault c spelled is =
    let made = c.in-Ok.ensures.found in
    let first = subst (λ (k : ℕ). IsFirstUnpadded k c.args.relation_bytes.now c.in-Some.n) (sym c.requires.relations) c.in-Some.ensures in
    unpadded_fault _ spelled c.args.relation_bytes.now c.in-Some.n (subst IsProgram made.0 made.1) is first

pub returns-in-Relation-clause-fault : goal.returns-in-Relation-clause-fault
returns-in-Relation-clause-fault c spelled is =
    let p : Program =
    record {
      bundles = c.args.bundles.items;
      entries = c.args.entries.items;
      bytes = c.args.bytes.items;
      relations = c.args.relations.items;
    } in
    let n : min (unwrap_or c.unpadded_relation-unpadded.result c.in-Relation.n) c.in-Relation.n ≡ c.min.result =
    sym (c.min.ensures ∙ ap (λ m. min m c.in-Relation.n) c.unwrap_or.ensures) in
    let fault : HasProgramFault p (program.Relation c.in-Relation.n) = subst (HasProgramFault p) c.in-Relation.is c.in-Err.ensures.fault in
    let pads =
    unpadded_of c.args.relation_bytes.now _ _ c.unpadded_relation-unpadded.result c.requires.relations
    c.unpadded_relation-unpadded.ensures in
    subst (λ (k : ℕ). IsFirstFault (bundle_stages spelled (relation_stage spelled p.entries p.relations c.args.relation_bytes.now ∷ []))
    (RelationFault k)) n
    (relation_fault p spelled c.args.relation_bytes.now c.in-Relation.n c.unpadded_relation-unpadded.result
    (record { counts = c.requires.counts; entries = c.requires.entries }) is pads fault)

pub returns-in_default-clause-fault : goal.returns-in_default-clause-fault
returns-in_default-clause-fault c spelled is =
    let p : Program =
    record {
      bundles = c.args.bundles.items;
      entries = c.args.entries.items;
      bytes = c.args.bytes.items;
      relations = c.args.relations.items;
    } in
    let stages = bundle_stages spelled (relation_stage spelled p.entries p.relations c.args.relation_bytes.now ∷ []) in
    subst (IsFirstFault stages) (sym c.into.ensures)
    (other_fault p spelled (relation_stage spelled p.entries p.relations c.args.relation_bytes.now ∷ []) c.in-Err.fault
    (record { counts = c.requires.counts; entries = c.requires.entries }) is c.in_default.not-Relation c.in-Err.ensures.fault)
