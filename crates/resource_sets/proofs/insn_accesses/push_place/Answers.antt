use Rattle.std.proofs.Common.{◌≡◌, ◌∙◌, ap, ℕ, true}
use Rattle.std.specs.Prelude.{min}
use Rattle.ia_meaning.specs.Arithmetic.{bit}
use Rattle.resource_sets.specs.declared.row.AccessRow.{AccessRow}
use Rattle.resource_sets.specs.Rows.{pr}
use Rattle.resource_sets.proofs.Listing.{place_step}
use Rattle.resource_sets.proofs.insn_accesses.push_place.Goals as goal

pub returns-clause-items : goal.returns-clause-items
returns-clause-items c =
    let n = c.args.n in
    let there : c.bit.result ≡ bit c.args.mask (min n 16) = c.bit.ensures ∙ ap (λ (k : ℕ). bit c.args.mask k) c.min.ensures in
    let row : c.pr-row.result ≡ pr true n c.args.kind = c.pr-row.ensures.row ∙ ap (λ (k : ℕ). pr true k c.args.kind) c.of_field.ensures in
    rw c.push.ensures.items (place_step c.args.out.now.items n c.args.mask c.args.kind _ c.requires.most
    (ap (λ (r : AccessRow). record r { there = c.bit.result }) row ∙ rw there (cc)))
