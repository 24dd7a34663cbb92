use Rattle.std.proofs.Common.{rules}
use Rattle.loose_text.specs.LooseTexts.{IsItemEntry}
use Rattle.asm_build.proofs.RelationSets.{line_stays}
use Rattle.loose_text.proofs.relations.relate_by.Goals as goal

pub returns-clause-good : goal.returns-clause-good
returns-clause-good c =
    line_stays (IsItemEntry c.args.items.now c.args.entries.now) c.args.relations.now.keys c.relate_line.new.relations.keys c.args.line.now
    c.relate_line.result (search rules) c.relate_line.ensures.fit.related c.relate_line.ensures.ok
