use Rattle.std.proofs.Common.{◌≡◌, ◌∙◌, sym, ap, true, arith}
use Rattle.ia_program.specs.Templates.{units_of}
use Rattle.asm_build.specs.Names.{all_stay}
use Rattle.asm_build.proofs.Naming.{fit_named, bundle_same}
use Rattle.asm_build.proofs.names.bundle_named.Goals as goal

pub of_fitting-requires : goal.of_fitting-requires
of_fitting-requires c =
    let lines = c.args.lines.now in
    let fit =
    fit_named c.args.labels.now.entries c.args.n (units_of lines.bundle.template) lines.bundle.slots lines c.requires.within
    (omega (arith, c.requires.here)) c.slots-2.ensures.fit in
    rw (c.template.ensures, c.in_ok-slots.ensures.ok.0, c.slots-2.ensures.value) fit

pub returns-then-all_stay-clause-ok : goal.returns-then-all_stay-clause-ok
returns-then-all_stay-clause-ok c =
    let lines = c.args.lines.now in
    let stay : all_stay lines.bundle.slots lines ≡ true =
    ap (λ slots. all_stay slots lines) (sym c.slots.ensures.value) ∙ sym c.all_stay.ensures ∙ c.if-all_stay.true in
    bundle_same c.args.labels.now.entries c.args.n lines stay
