use Rattle.std.proofs.Common.{subst, sym}
use Rattle.ia_program.proofs.DeclaredRelations.{IsInOrder, in_order}
use Rattle.ia_program.proofs.program.Program.relations_at.Goals as goal

pub relations_at-requires : goal.relations_at-requires
relations_at-requires c =
    subst IsInOrder (sym c.deref.ensures.value) (in_order c.self.inside.bundles.items c.self.inside.entries.items
    c.self.inside.relations.items c.self.invariant.relations)
