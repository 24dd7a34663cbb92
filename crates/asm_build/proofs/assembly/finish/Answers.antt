use Rattle.std.proofs.Common.{rules, ◌≡◌, None, sym, ap, subst, length, ◌≤◌, ◌∙◌, []}
use Rattle.ia_program.specs.Programs.{AreRelations, IsEntryOf}
use Rattle.asm_build.specs.Relations.{all_related, AreRelationsOf}
use Rattle.asm_build.specs.TextParts.{AreLabelsInside}
use Rattle.asm_build.proofs.Finishing.{AreRelated, AreParts, related_of, parts_in_range, parts_rise, parts_inside, run_reported}
use Rattle.asm_build.proofs.RelationSets.{relations_of_all}
use Rattle.asm_build.proofs.assembly.finish.Goals as goal

parts : (c : goal.After-deref-4) → AreParts c.args.parts c.in_ok-named.named.bundles.items c.in_ok-entries.entries.items
    c.in_ok-bytes.bytes.items c.in_ok-relations.relations.items
parts c =
    let inside : AreLabelsInside c.args.parts = search rules in
    let some : 1 ≤ length c.args.parts.bundles = search rules in
    let bundles : c.deref.result.now ≡ c.in_ok-named.named.bundles.items = search rules in
    let entries : c.deref-2.result.now ≡ c.in_ok-entries.entries.items = search rules in
    let lines : c.deref-3.result.now ≡ c.parts.inside.relations.items = search rules in
    let entries_are = c.in_ok-entries.ensures ∙ c.in_ok-named.ensures.ok.2 in
    let related = c.in_ok-related.ensures.ok in
    record {
      limits = rw (sym c.parts.view_is) c.parts.invariant;
      some = some;
      inside = inside;
      none = c.in_ok-named.ensures.ok.0;
      bundles_are = c.in_ok-named.ensures.ok.1;
      entries_are = entries_are;
      bytes_are = rw (sym c.parts.view_is) c.in_ok-bytes.ensures;
      related =
          related_of c.args.parts c.deref.result.now c.deref-2.result.now c.deref-3.result.now (bundles ∙ c.in_ok-named.ensures.ok.1)
          (entries ∙ entries_are) (rw (sym c.parts.view_is) lines) related.0;
      relations_are = rw (sym c.parts.view_is) (c.in_ok-relations.ensures ∙ related.1 ∙ ap (λ ls. all_related [] ls) lines);
    }

pub checked-requires-clause-counts : goal.checked-requires-clause-counts
checked-requires-clause-counts c = parts_in_range _ _ _ _ _ (parts c)

pub checked-requires-clause-entries : goal.checked-requires-clause-entries
checked-requires-clause-entries c = parts_rise _ _ _ _ _ (parts c)

pub checked-requires-clause-targets : goal.checked-requires-clause-targets
checked-requires-clause-targets c = parts_inside _ _ _ _ _ (parts c)

pub checked-requires-clause-relations : goal.checked-requires-clause-relations
checked-requires-clause-relations c =
    let bundles : c.deref.result.now ≡ c.in_ok-named.named.bundles.items = search rules in
    let entries : c.deref-2.result.now ≡ c.in_ok-entries.entries.items = search rules in
    let good : AreRelationsOf (IsEntryOf c.in_ok-named.named.bundles.items c.in_ok-entries.entries.items) c.in_ok-related.related.keys =
    rw (bundles, entries) at c.in_ok-related.ensures.good in
    let of = relations_of_all c.in_ok-named.named.bundles.items c.in_ok-entries.entries.items c.in_ok-related.related.keys good in
    subst (λ rs. AreRelations c.in_ok-named.named.bundles.items c.in_ok-entries.entries.items rs) (sym c.in_ok-relations.ensures) of

pub returns-clause-err : goal.returns-clause-err
returns-clause-err c =
    let closed : c.args.parts.current ≡ None = search rules in
    let inside : AreLabelsInside c.args.parts = search rules in
    let some : 1 ≤ length c.args.parts.bundles = search rules in
    let same : c.deref-4.result.now ≡ c.parts.inside.bundles.items = search rules in
    let bundles : c.deref.result.now ≡ c.in_ok-named.named.bundles.items = search rules in
    let entries : c.deref-2.result.now ≡ c.in_ok-entries.entries.items = search rules in
    let lines : c.deref-3.result.now ≡ c.parts.inside.relations.items = search rules in
    let entries_are = c.in_ok-entries.ensures ∙ c.in_ok-named.ensures.ok.2 in
    let related : AreRelated c.args.parts =
    related_of c.args.parts c.deref.result.now c.deref-2.result.now c.deref-3.result.now (bundles ∙ c.in_ok-named.ensures.ok.1)
    (entries ∙ entries_are) (rw (sym c.parts.view_is) lines) c.in_ok-related.ensures.ok.0 in
    run_reported c.args.count c.args.parts c.deref-4.result.now c.in_ok-named.named.bundles.items c.checked.result closed inside some
    c.in_ok-named.ensures.ok.0 related (rw (sym c.parts.view_is) same) c.in_ok-named.ensures.ok.1 c.checked.ensures.err
