use Rattle.std.proofs.Common.{◌≡◌, ◌∙◌, ◌/◌, ℕ, List, length, ap, sym, subst, arith}
use Rattle.std.proofs.lemmas.Result.{err_from_is_err_and, IfOk-weaker, IfErr-weaker}
use Rattle.ia_program.specs.Programs.{Program, IsProgram, AreEntries}
use Rattle.image_form.specs.Images.{Spells}
use Rattle.image_form.specs.Parts.{bundle_count, bundle_bytes, entries_of}
use Rattle.image_form.proofs.Wholes.{length-relation_bytes, length-bundle_bytes, entries_read, parts_read, padded_read, counts_right, entries_right, image_of_parts}
use Rattle.image_form.proofs.RelationBytes.{length-relations_in}
use Rattle.image_form.proofs.Stages.{fault_of_entries, fault_of_bundles, fault_of_spelling}
use Rattle.image_form.specs.Faults.{relation_stages}
use Rattle.image_form.proofs.reading.read.Goals as goal

-- The entries that were read are those of the bytes.
are_entries : (bytes items : List ℕ) (count : ℕ) → count ≡ bundle_count bytes → items ≡ entries_of bytes → AreEntries count items
    → AreEntries (bundle_count bytes) (entries_of bytes)
are_entries bytes items count same is are = subst (AreEntries (bundle_count bytes)) is (subst (λ (k : ℕ). AreEntries k items) same are)

pub returns-in_err-entries-clause-fault : goal.returns-in_err-entries-clause-fault
returns-in_err-entries-clause-fault c =
    let head = c.in_ok-head.ensures.found in
    let entries = entries_read _ c.args.bytes.now _ head.right c.parts-parts.ensures.entries in
    let p = err_from_is_err_and c.from_residual-in_err-entries.result c.from_residual-in_err-entries.ensures.1 in
    rw (p.1, p.2) (λ other. fault_of_entries _ c.args.bytes.now _ head.right
    (rw (head.bundles, entries) at (c.in_err-entries.ensures.fault other)))

pub read_bundles-requires-clause-whole : goal.read_bundles-requires-clause-whole
read_bundles-requires-clause-whole c =
    let size = ap length c.parts-parts.ensures.bundles ∙ length-bundle_bytes _ c.args.bytes.now c.in_ok-head.ensures.found.right in
    omega arith

pub returns-in_err-bundles-clause-fault : goal.returns-in_err-bundles-clause-fault
returns-in_err-bundles-clause-fault c =
    let head = c.in_ok-head.ensures.found in
    let items = c.in_ok-entries.ensures.found in
    let entries =
    are_entries c.args.bytes.now _ _ head.bundles (items.0 ∙ entries_read _ c.args.bytes.now _ head.right c.parts-parts.ensures.entries)
    items.1 in
    let p = err_from_is_err_and c.from_residual-in_err-bundles.result c.from_residual-in_err-bundles.ensures.1 in
    rw (p.1, p.2) (λ other. fault_of_bundles _ c.args.bytes.now _ head.right entries
    (fault_of_spelling (bundle_bytes c.args.bytes.now) (relation_stages c.args.bytes.now) _
    (rw c.parts-parts.ensures.bundles at (c.in_err-bundles.ensures.fault other))))

pub program-requires : goal.program-requires
program-requires c =
    let head = c.in_ok-head.ensures.found in
    let items = c.in_ok-entries.ensures.found in
    let cut = c.parts-parts.ensures in
    let entries =
    are_entries c.args.bytes.now _ _ head.bundles (items.0 ∙ entries_read _ c.args.bytes.now _ head.right cut.entries) items.1 in
    let parts =
    parts_read _ (record {
      bundles = c.in_ok-bundles.bundles.items;
      entries = c.in_ok-entries.entries.items;
      bytes = c.in_ok-data.data.items;
      relations = c.in_ok-relations.relations.items;
    }) c.args.bytes.now _ _ _ _ head.right
    cut.entries cut.relations cut.bundles cut.rest items.0 c.in_ok-relations.ensures c.in_ok-bundles.ensures.found
    c.in_ok-data.ensures.items in
    let size = ap length cut.relations ∙ length-relation_bytes _ c.args.bytes.now head.right in
    let few = head.right.counts.range.relations in
    record {
      counts = counts_right _ _ c.args.bytes.now parts;
      entries = entries_right _ _ c.args.bytes.now parts entries;
      relations =
          ap length c.in_ok-relations.ensures ∙ length-relations_in (length c.parts-parts.result.relations.now / 8)
          c.parts-parts.result.relations.now;
      limit = omega (arith, size, few);
    }

pub returns : goal.returns
returns c =
    let head = c.in_ok-head.ensures.found in
    let items = c.in_ok-entries.ensures.found in
    let cut = c.parts-parts.ensures in
    let entries =
    are_entries c.args.bytes.now _ _ head.bundles (items.0 ∙ entries_read _ c.args.bytes.now _ head.right cut.entries) items.1 in
    let parts =
    parts_read _ (record {
      bundles = c.in_ok-bundles.bundles.items;
      entries = c.in_ok-entries.entries.items;
      bytes = c.in_ok-data.data.items;
      relations = c.in_ok-relations.relations.items;
    }) c.args.bytes.now _ _ _ _ head.right
    cut.entries cut.relations cut.bundles cut.rest items.0 c.in_ok-relations.ensures c.in_ok-bundles.ensures.found
    c.in_ok-data.ensures.items in
    record {
      found =
          IfOk-weaker c.program.result _ _ (λ q made. subst (λ (p : Program). Spells p c.args.bytes.now) (sym made.0) (
            c.in_ok-head.head.version,
            image_of_parts _ _ c.args.bytes.now (λ i. omega (arith, c.type_inv.bytes i))
                (subst IsProgram made.0 made.1) parts (padded_read _ _ c.args.bytes.now _ parts cut.relations made.2),
          ))
          c.program.ensures.found;
      fault =
          IfErr-weaker c.program.result _ _ (λ f is other. fault_of_bundles _ c.args.bytes.now f head.right entries
          (rw (parts.entries, parts.relations, cut.relations) at (is (bundle_bytes c.args.bytes.now) parts.spelled)))
          c.program.ensures.fault;
    }
