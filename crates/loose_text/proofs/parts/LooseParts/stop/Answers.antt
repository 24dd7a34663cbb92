use Rattle.std.proofs.Common.{rules, arith, ap, sym, subst, ◌≡◌, ◌-◌, ◌≤◌, length, List, set}
use Rattle.asm_build.specs.TextParts.{IsIn}
use Rattle.asm_build.specs.declared.text_parts.Section.TheVariants as section
use Rattle.loose_text.specs.declared.item.ItemLine.{ItemLine}
use Rattle.loose_text.specs.LooseParts.{items_of, last_written}
use Rattle.loose_items.specs.PlainPackings.{ArePacked}
use Rattle.loose_text.proofs.StoppedItems.{stopped_line, stopped_is, stopped_packed}
use Rattle.loose_text.proofs.parts.LooseParts.stop.Goals as goal

some : (c : goal.After-self-1) → 1 ≤ length c.self.inside.items.items
some c = search rules

changed : (c : goal.After-self-1) → set c.self.inside.items.items (c.len-last.result - 1) (stopped_line c.index_mut.result.now)
    ≡ last_written c.self.inside.items.items
changed c =
    let len : c.len-last.result ≡ length c.self.inside.items.items = search rules in
    stopped_is c.self.inside.items.items (c.len-last.result - 1) c.index_mut.result.now (some c)
    (omega (arith, len)) c.index_mut.ensures.value

pub invariant_of-self : goal.invariant_of-self
invariant_of-self c =
    subst (λ (lines : List ItemLine). ArePacked (items_of lines) c.self.inside.packing) (sym (changed c))
    (stopped_packed c.self.inside.items.items c.self.inside.packing c.self.invariant)

pub returns-clause-ok : goal.returns-clause-ok
returns-clause-ok c =
    let stands : IsIn section.Text c.self.inside.declared = search rules in
    rw (sym c.self.view_is) (
      (tt, ((stands, some c), (tt, (tt, tt)))),
      ap (λ lines. record { declared = c.self.inside.declared; items = lines; fresh = c.self.inside.fresh }) (changed c),
    )
