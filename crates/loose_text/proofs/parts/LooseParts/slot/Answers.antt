use Rattle.std.proofs.Common.{rules, ◌≡◌, ◌≤◌, ◌++◌, ◌∷◌, [], length, sym, ap, inl, inr, refl, false}
use Rattle.std.specs.Prelude.{IsTrue}
use Rattle.ia_program.specs.declared.limits.TheConstants.{BUNDLE_LIMIT}
use Rattle.asm_build.specs.declared.reason.Reason.TheVariants.{Limit}
use Rattle.asm_build.specs.declared.text_parts.Section.TheVariants as section
use Rattle.asm_build.specs.TextParts.{IsIn}
use Rattle.loose_items.specs.declared.item.Item.{Item}
use Rattle.loose_text.specs.declared.item.ItemLine.{ItemLine}
use Rattle.loose_text.specs.LooseParts.{items_of, item_of, IsNarrow}
use Rattle.loose_items.specs.Packings.{plain_of}
use Rattle.loose_items.proofs.PlainPackings.{other_line}
use Rattle.loose_text.proofs.StoppedItems.{items_with}
use Rattle.loose_text.proofs.parts.LooseParts.slot.Goals as goal

pub returns-in_default-clause-err : goal.returns-in_default-clause-err
returns-in_default-clause-err c =
    let narrow : IsTrue c.args.draft.now.bare → IsNarrow c.args.draft.now.insn.op = search rules in
    let stands : IsIn section.Text c.self.inside.declared = search rules in
    let items = items_of c.self.inside.items.items in
    let item : Item = item_of c.self.inside.fresh c.args.n c.args.draft.now c.args.stop in
    let full : ¬ (length (plain_of (items ++ item ∷ [])) ≤ BUNDLE_LIMIT) =
    rw c.insn_of.ensures at c.in_default.ensures items c.self.invariant in
    rw (sym c.self.view_is) (inr (
      Limit,
      c.fault-in_default.ensures,
      inr (narrow, inr (stands, inr (tt, inl (tt, refl, λ room. full (rw (sym (other_line items item 0)) at room))))),
    ))

-- The instructions with the one of this line.
lines : (c : goal.After-self-2-1) → c.push.new.self.items ≡ c.self.inside.items.items
    ++ record { item = item_of c.self.inside.fresh c.args.n c.args.draft.now c.args.stop; target = c.args.draft.now.target } ∷ []
lines c = rw (c.insn_of.ensures, c.take.ensures.value) at c.in_ok-push.ensures.items

pub invariant_of-self-2 : goal.invariant_of-self-2
invariant_of-self-2 c =
    let item : Item = item_of c.self.inside.fresh c.args.n c.args.draft.now c.args.stop in
    let line : ItemLine = record { item = item; target = c.args.draft.now.target } in
    let packed = (rw c.insn_of.ensures at c.in-Some.ensures (items_of c.self.inside.items.items) c.self.invariant).1 in
    rw (lines c, items_with c.self.inside.items.items line) packed

pub returns-clause-ok : goal.returns-clause-ok
returns-clause-ok c =
    let narrow : IsTrue c.args.draft.now.bare → IsNarrow c.args.draft.now.insn.op = search rules in
    let stands : IsIn section.Text c.self.inside.declared = search rules in
    let items = items_of c.self.inside.items.items in
    let item : Item = item_of c.self.inside.fresh c.args.n c.args.draft.now c.args.stop in
    let room : length (plain_of (items ++ item ∷ [])) ≤ BUNDLE_LIMIT =
    (rw c.insn_of.ensures at c.in-Some.ensures items c.self.invariant).0 in
    rw (sym c.self.view_is) (
      (narrow, (stands, (tt, (rw (sym (other_line items item 0)) room, tt)))),
      ap (λ ls. record { declared = c.self.inside.declared; items = ls; fresh = false }) (lines c),
    )
