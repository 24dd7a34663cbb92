use Rattle.std.proofs.Common.{rules, arith, ℕ, ◌<◌, List, length, get_or, ap, sym, Err, inl, inr}
use Rattle.std.proofs.Math.ListN.{get_or-eq_default}
use Rattle.std.proofs.lemmas.Bool.{cases_lt}
use Rattle.ia_program.specs.declared.program.ProgramFault.TheVariants.{LongRun, Relation as RelationFault}
use Rattle.ia_program.specs.Programs.{Program, AreBytes, AreRelations, HasProgramFault}
use Rattle.ia_program.proofs.ProgramFaults.{one_program_fault, no_program_fault}
use Rattle.ia_program.proofs.program.Program.of_checked.Goals as goal

-- Bytes are below 256, and what is read past their end is 0.
are_bytes : (bytes : List ℕ) → ((i d : ℕ) → i < length bytes → get_or bytes i d < 256) → AreBytes bytes
are_bytes bytes fit i = elim (cases_lt i (length bytes)) [
  | inl inside ↦ fit i 0 inside
  | inr past ↦ rw (get_or-eq_default bytes 0 past) (omega arith)
]

pub returns-in-Some-long_run-clause-only_fault : goal.returns-in-Some-long_run-clause-only_fault
returns-in-Some-long_run-clause-only_fault c =
    let parts : Program =
    record {
      bundles = c.args.bundles.items;
      entries = c.args.entries.items;
      bytes = c.args.memory.items;
      relations = c.args.relations.items;
    } in
    let this : HasProgramFault parts (LongRun c.in-Some-long_run.place) = search rules in
    λ other has. ap Err (one_program_fault parts (LongRun c.in-Some-long_run.place) other this has)

pub returns-in-Some-misdeclared_relation-clause-only_fault : goal.returns-in-Some-misdeclared_relation-clause-only_fault
returns-in-Some-misdeclared_relation-clause-only_fault c =
    let parts : Program =
    record {
      bundles = c.args.bundles.items;
      entries = c.args.entries.items;
      bytes = c.args.memory.items;
      relations = c.args.relations.items;
    } in
    let this : HasProgramFault parts (RelationFault c.in-Some-misdeclared_relation.n) = search rules in
    λ other has. ap Err (one_program_fault parts (RelationFault c.in-Some-misdeclared_relation.n) other this has)

pub of_parts-requires : goal.of_parts-requires
of_parts-requires c =
    let relations : AreRelations c.args.bundles.items c.args.entries.items c.args.relations.items =
    rw (sym c.deref-3.ensures.value, sym c.deref-4.ensures.value, sym c.deref-5.ensures.value)
    c.in_default-misdeclared_relation.ensures in
    record {
      fit = search rules;
      counts = c.requires.counts;
      entries = c.requires.entries;
      targets = search rules;
      runs = search rules;
      bytes = are_bytes c.args.memory.items c.items_fit2;
      relations = relations;
    }

pub returns-clause-only_fault : goal.returns-clause-only_fault
returns-clause-only_fault c =
    λ fault has. absurd (no_program_fault (record {
      bundles = c.args.bundles.items;
      entries = c.args.entries.items;
      bytes = c.args.memory.items;
      relations = c.args.relations.items;
    }) fault (of_parts-requires c.before) has)
