use Rattle.std.proofs.Common.{rules, inr, ◌≡◌, ◌/◌, ◌%◌, [], length}
use Rattle.std.proofs.lemmas.Result.{err_from_is_err_and}
use Rattle.ia_program.specs.Programs.{AreInRange}
use Rattle.image_form.proofs.Wholes.{raw_counts}
use Rattle.image_form.proofs.Stages.{fault_of_spelling}
use Rattle.image_form.proofs.reading.wrap.Goals as goal

pub returns-in_err-bundles-clause-fault : goal.returns-in_err-bundles-clause-fault
returns-in_err-bundles-clause-fault c =
    let counts : AreInRange (length c.args.bytes.now / 16) 0 0 0 = search rules in
    let whole : length c.args.bytes.now % 16 ≡ 0 = search rules in
    let p = err_from_is_err_and c.from_residual.result c.from_residual.ensures.1 in
    rw (p.1, p.2) (λ other. inr (counts, inr (whole, fault_of_spelling c.args.bytes.now [] _ (c.in_err-bundles.ensures.fault other))))

pub program-requires-clause-counts : goal.program-requires-clause-counts
program-requires-clause-counts c =
    let counts : AreInRange (length c.args.bytes.now / 16) 0 0 0 = search rules in
    let whole : length c.args.bytes.now % 16 ≡ 0 = search rules in
    raw_counts (record {
      bundles = c.in_ok-bundles.bundles.items;
      entries = c.new.result.items;
      bytes = c.new-2.result.items;
      relations = c.new-3.result.items;
    }) c.args.bytes.now whole counts c.in_ok-bundles.ensures.found c.new.ensures.items
    c.new-2.ensures.items c.new-3.ensures.items
