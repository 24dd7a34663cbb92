use Rattle.std.proofs.Common.{rules, ◌≡◌, ◌⊎◌, ◌∙◌, ◌*◌, ◌≤◌, sym, ap, length, []}
use Rattle.first_fault.specs.Stages.{IsFirstFault}
use Rattle.ia_program.specs.declared.limits.TheConstants.{BUNDLE_LIMIT}
use Rattle.asm_build.specs.declared.reason.TextError.TheVariants as error
use Rattle.asm_build.specs.Relations.{all_related, AreRelationsOf}
use Rattle.asm_build.specs.TextParts.{AreLabelsBelow}
use Rattle.loose_text.specs.LooseParts.{items_of}
use Rattle.loose_text.specs.LooseReading.{end_stages, loose_of}
use Rattle.loose_text.specs.LooseTexts.{IsItemEntry}
use Rattle.loose_items.specs.Packings.{plain_of}
use Rattle.loose_text.proofs.EndOfText.{AreRelated, parts_are_loose, related_of, relation_reported}
use Rattle.loose_items.proofs.PlainPackings.{are_few, are_within}
use Rattle.loose_text.proofs.reading.finish.Goals as goal

pub returns-in_err-related-clause-err : goal.returns-in_err-related-clause-err
returns-in_err-related-clause-err c =
    let s = c.args.parts in
    let below : AreLabelsBelow (length s.items) s.declared = search rules in
    let some : 1 ≤ length s.items = search rules in
    let items : c.deref-2.result.now ≡ (loose_of s).items = search rules in
    let entries : c.deref-3.result.now ≡ (loose_of s).entries = search rules in
    let lines : c.relations.result.now ≡ s.declared.relations = search rules in
    let fault : (c.in_err-related.field-0.0 ≡ error.Memory) ⊎ IsFirstFault (end_stages c.args.count s) c.in_err-related.field-0.0 =
    relation_reported s c.args.count c.deref-2.result.now c.deref-3.result.now c.relations.result.now c.in_err-related.field-0.0 items
    entries lines below some c.in_ok-named.ensures.ok.0 c.in_err-related.ensures.err in
    search (rules, fault)

pub of_parts-requires : goal.of_parts-requires
of_parts-requires c =
    let s = c.args.parts in
    let below : AreLabelsBelow (length s.items) s.declared = search rules in
    let some : 1 ≤ length s.items = search rules in
    let items : c.deref-2.result.now ≡ (loose_of s).items = search rules in
    let entries : c.deref-3.result.now ≡ (loose_of s).entries = search rules in
    let lines : c.relations.result.now ≡ s.declared.relations = search rules in
    let held_items : c.deref-2.result.now ≡ c.in_ok-items.items.items = search rules in
    let held_entries : c.deref-3.result.now ≡ c.in_ok-entries.entries.items = search rules in
    let few : length (items_of s.items) ≤ 3 * BUNDLE_LIMIT =
    rw (sym c.parts.view_is) (are_few _ c.parts.inside.packing c.parts.invariant) in
    let within : length (plain_of (items_of s.items)) ≤ BUNDLE_LIMIT =
    rw (sym c.parts.view_is) (are_within _ c.parts.inside.packing c.parts.invariant) in
    let related : AreRelated s =
    related_of s c.deref-2.result.now c.deref-3.result.now c.relations.result.now items entries lines c.in_ok-related.ensures.ok.0 in
    let good : AreRelationsOf (IsItemEntry c.in_ok-items.items.items c.in_ok-entries.entries.items) c.in_ok-relations.relations.items =
    rw (sym held_items, sym held_entries, c.in_ok-relations.ensures) c.in_ok-related.ensures.good in
    λ bytes. parts_are_loose s
    (record {
      items = c.in_ok-items.items.items;
      targets = c.in_ok-named.named.targets.items;
      entries = c.in_ok-entries.entries.items;
      relations = c.in_ok-relations.relations.items;
      bytes = c.in_ok-bytes.bytes.items;
    })
    (sym held_items ∙ items)
    c.in_ok-named.ensures.ok.1
    (sym held_entries ∙ entries)
    (c.in_ok-relations.ensures ∙ c.in_ok-related.ensures.ok.1 ∙ ap (λ ls. all_related [] ls) lines)
    (rw (sym c.parts.view_is) c.in_ok-bytes.ensures)
    c.requires.sound
    few
    within
    below
    some
    c.in_ok-named.ensures.ok.0
    related
    good
    bytes
