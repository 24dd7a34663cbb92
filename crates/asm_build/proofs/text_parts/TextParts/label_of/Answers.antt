use Rattle.std.proofs.Common.{rules, inr, ◌∙◌, sym, ap}
use Rattle.std.specs.Prelude.{is_some}
use Rattle.asm_build.specs.declared.reason.Reason.TheVariants.{Twice}
use Rattle.asm_build.proofs.LabelValues.{label_added}
use Rattle.asm_build.proofs.ValueFaults.{twice_there}
use Rattle.asm_build.proofs.text_parts.TextParts.label_of.Goals as goal

pub returns-then-is_some-clause-err : goal.returns-then-is_some-clause-err
returns-then-is_some-clause-err c =
    let there = ap is_some (sym c.in_ok-insert.ensures.old) ∙ sym c.is_some.ensures ∙ c.if-is_some.true in
    inr (Twice, c.fault-then-is_some.ensures, twice_there c.args.self.now c.args.name (search rules) (rw (sym c.self.view_is) there))

pub invariant_of-self-then-is_some : goal.invariant_of-self-then-is_some
invariant_of-self-then-is_some c =
    let h = c.self.invariant in
    let labels = label_added c.args.name c.args.address _ _ h.labels c.requires c.in_ok-insert.ensures.entries in
    record { current = h.current; bundles = h.bundles; labels = labels; bytes = h.bytes }

pub invariant_of-self-2 : goal.invariant_of-self-2
invariant_of-self-2 c =
    let h = c.self.invariant in
    let labels = label_added c.args.name c.args.address _ _ h.labels c.requires c.in_ok-insert.ensures.entries in
    record { current = h.current; bundles = h.bundles; labels = labels; bytes = h.bytes }
