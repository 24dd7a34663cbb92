use Rattle.std.proofs.Common.{rules}
use Rattle.ia_program.specs.Programs.{IsEntryOf}
use Rattle.asm_build.proofs.RelationSets.{line_stays}
use Rattle.asm_build.proofs.relations.relate_by.Goals as goal

pub returns-clause-good : goal.returns-clause-good
returns-clause-good c =
    line_stays (IsEntryOf c.args.bundles.now c.args.entries.now) c.args.relations.now.keys c.relate_line.new.relations.keys c.args.line.now
    c.relate_line.result (search rules) c.relate_line.ensures.fit.related c.relate_line.ensures.ok
