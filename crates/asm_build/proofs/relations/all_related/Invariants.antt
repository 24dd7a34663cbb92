use Rattle.std.proofs.Common.{◌≡◌, [], drop}
use Rattle.first_fault.specs.Stages.{ArePassed, IsFirstFault}
use Rattle.ia_program.specs.Programs.{IsEntryOf}
use Rattle.asm_build.specs.declared.reason.TextError.{TextError}
use Rattle.asm_build.specs.Relations.{all_related, relation_stages, AreRelationsOf}
use Rattle.asm_build.proofs.relations.all_related.Given as goal

abbrev pub invariant-loop-line : goal.invariant-loop-line
invariant-loop-line l = record {
  value : all_related l.relations.keys (drop l.line-index l.lines) ≡ all_related [] l.lines;
  passed : ArePassed (relation_stages (IsEntryOf l.bundles l.entries) l.relations.keys (drop l.line-index l.lines))
      → ArePassed (relation_stages (IsEntryOf l.bundles l.entries) [] l.lines);
  fault : (e : TextError) → IsFirstFault (relation_stages (IsEntryOf l.bundles l.entries) l.relations.keys (drop l.line-index l.lines)) e
      → IsFirstFault (relation_stages (IsEntryOf l.bundles l.entries) [] l.lines) e;
  good : AreRelationsOf (IsEntryOf l.bundles l.entries) l.relations.keys;
}
