use Rattle.std.proofs.Common.{rules, arith, ltb}
use Rattle.std.proofs.lemmas.List.Sorted.{IsPartitionPoint-from_clause, IsPartitionedBy-ltb}
use Rattle.ia_program.specs.Programs.{no_relation}
use Rattle.ia_program.proofs.relations.count_below.Goals as goal

pub returns : goal.returns
returns c =
    let split =
    IsPartitionPoint-from_clause (λ r. ltb r.bundle c.args.bundle) c.args.relations.now c.partition_point.result
    c.partition_point.ensures.partitioned (IsPartitionedBy-ltb (λ r. r.bundle) c.args.relations.now c.args.bundle c.requires)
    (λ a r f called. search rules) in
    record {
      bound = c.partition_point.ensures.bound;
      below = λ k less. let at = split.0 k no_relation (omega arith) less in grind arith;
      others = λ k most inside. let at = split.1 k no_relation most inside in grind arith;
    }
