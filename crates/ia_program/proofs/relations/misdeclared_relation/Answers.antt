use Rattle.std.proofs.Common.{rules, refl, sym, add-one, below_more}
use Rattle.ia_program.specs.Programs.{IsDeclarable, IsRelationAt, relation_at}
use Rattle.ia_program.proofs.relations.misdeclared_relation.Goals as goal

pub loop-n-preserved : goal.loop-n-preserved
loop-n-preserved c =
    let this : IsDeclarable c.args.bundles.now c.args.entries.now c.loop-n.before (relation_at c.args.relations.now c.loop-n.n) =
    search rules in
    let at : IsRelationAt c.args.bundles.now c.args.entries.now c.args.relations.now c.loop-n.n = rw (sym c.loop-n.invariant.0) this in (
      rw (add-one c.loop-n.n) refl,
      below_more (IsRelationAt c.args.bundles.now c.args.entries.now c.args.relations.now) c.loop-n.n c.loop-n.invariant.1 at,
    )
