use Rattle.std.proofs.Common.{ℕ, ◌<◌, ◌==◌, List, sym, subst, arith}
use Rattle.std.specs.Prelude.{All}
use Rattle.std.proofs.lemmas.List.{get_or_default}
use Rattle.std.proofs.lemmas.List.Elements.{All-filter}
use Rattle.ia_program.specs.declared.relations.Relation.{Relation}
use Rattle.ia_program.specs.Programs.{Program, IsProgram, no_relation, relations_at}
use Rattle.flow_facts.specs.Graphs.{known_at_entry}
use Rattle.flow_facts.proofs.fixpoint.known_first.Goals as goal

-- A relation of two predicates, the lower one first.
abbrev IsOfTwo : Relation → Type 0
IsOfTwo r = (r.p < r.q) × (r.q < 64)

all_of_two : (p : Program) (bundle : ℕ) → IsProgram p → All IsOfTwo (relations_at p.relations bundle)
all_of_two p bundle program = All-filter (λ r. r.bundle == bundle) IsOfTwo p.relations (λ k d inside.
    let at = program.relations k inside in
    rw (get_or_default p.relations k d no_relation inside) (at.apart, omega (arith, at.static)))

pub declared-requires : goal.declared-requires
declared-requires c =
    subst (λ (rs : List Relation). All IsOfTwo rs) (sym c.relations_at.ensures)
    (all_of_two c.args.program.now c.args.bundle c.is_program.ensures)

pub returns : goal.returns
unfolding known_at_entry
returns c = rw (sym c.relations_at.ensures) c.declared.ensures
