use Rattle.std.proofs.Common.{rules, ◌≡◌, ◌∙◌, List, length, sym, ap, subst}
use Rattle.bundle_bits.specs.RawBundle.{HasWidths, AreBytes}
use Rattle.ia_insn.specs.declared.choices.Unit.{Unit as ExecutionUnit}
use Rattle.ia_insn.specs.declared.choices.Unit.TheVariants.{M}
use Rattle.ia_program.specs.declared.bundle.Slots.{Slots}
use Rattle.ia_program.specs.Templates.{IsTemplate, units_of}
use Rattle.insn_codec.specs.Spelling.{StandIn}
use Rattle.insn_codec.proofs.Slots.{three_items, parts}
use Rattle.insn_codec.proofs.bundle.write_bundle.Goals as goal

pub returns : goal.returns
returns c =
    let n : length c.units.result ≡ 3 = search rules in
    let t : c.template-template.result ≡ c.args.bundle.now.template = search rules in
    let widths : HasWidths (parts c.code.result c.write_slots.result) = search rules in
    let are : AreBytes c.join.result = search rules in
    let is : IsTemplate c.args.bundle.now.template = search rules in
    let stand =
    subst (λ (l : List ExecutionUnit). StandIn l c.slots.result.now c.write_slots.result)
    (three_items M c.units.result n ∙ c.units.ensures ∙ ap units_of t) c.write_slots.ensures.stand in
    record {
      raw = parts c.code.result c.write_slots.result;
      parts = record { widths = widths; number = sym c.join.ensures.number };
      are = are;
      code = c.code.ensures.value ∙ t;
      template = is;
      slots = subst (λ (k : Slots). StandIn (units_of c.args.bundle.now.template) k c.write_slots.result) c.slots.ensures.value stand;
    }
