use Rattle.std.proofs.Common.{arith, rules, ◌≡◌, ◌∙◌, ◌<◌, ℕ, sym, ap, subst, List, length}
use Rattle.ia_insn.specs.declared.insn.Insn.{Insn}
use Rattle.ia_program.specs.declared.limits.TheConstants.{BUNDLE_LIMIT}
use Rattle.ia_program.specs.declared.place.Place.{Place}
use Rattle.ia_program.specs.Bundles.{AreBundles}
use Rattle.ia_program.specs.Programs.{Program, IsProgram}
use Rattle.bundling.specs.Bundled.{bundle_in, bundles_from, places_of, targeted, program_of}
use Rattle.bundling.proofs.Locating.{AreLayouts}
use Rattle.bundling.proofs.Targeting.{length-targeted}
use Rattle.bundling.proofs.Making.{each_laid, places_small, wanted_in_all, same_insns, parts_are}
use Rattle.bundling.proofs.program.bundled.Goals as goal

pub laid-requires-clause-laid : goal.laid-requires-clause-laid
laid-requires-clause-laid c =
    let laws : AreLayouts = record { is_layout = c.laid_out_is_layout.ensures; holds = c.laid_out_bundles.ensures.holds } in
    each_laid laws c.args.chunks.now c.args.text.now.items c.requires.chunks.chunks

pub bundle_insns-requires : goal.bundle_insns-requires
bundle_insns-requires c =
    let laws : AreLayouts = record { is_layout = c.laid_out_is_layout.ensures; holds = c.laid_out_bundles.ensures.holds } in
    let is : c.deref.result.now ≡ places_of c.args.chunks.now = c.deref.ensures.value ∙ c.in_ok-layouts.ensures.places in
    subst (λ (places : List Place). (n : ℕ) → bundle_in places n < BUNDLE_LIMIT) (sym is)
    (places_small laws c.args.chunks.now c.args.text.now.items c.requires.chunks.chunks c.requires.chunks.few)

pub bundles-requires-clause-enough : goal.bundles-requires-clause-enough
bundles-requires-clause-enough c =
    let laws : AreLayouts = record { is_layout = c.laid_out_is_layout.ensures; holds = c.laid_out_bundles.ensures.holds } in
    let s = c.args.text.now in
    let is : c.deref-3.result.now ≡ targeted (bundle_in c.deref.result.now) s = c.deref-3.ensures.value ∙ c.in_ok-insns.ensures in
    let count = length-targeted (bundle_in c.deref.result.now) 0 s.items s.targets c.is_loose.ensures.targets in
    let wanted = wanted_in_all laws c.args.chunks.now s.items c.requires.chunks.chunks in
    omega (arith, ap (λ (is : List Insn). length is) is, count, wanted)

pub bundles-requires-clause-fit : goal.bundles-requires-clause-fit
bundles-requires-clause-fit c =
    let s = c.args.text.now in
    let cs = c.args.chunks.now in
    let put : c.deref-3.result.now ≡ targeted (bundle_in c.deref.result.now) s = c.deref-3.ensures.value ∙ c.in_ok-insns.ensures in
    let is : c.deref.result.now ≡ places_of cs = c.deref.ensures.value ∙ c.in_ok-layouts.ensures.places in
    let program : IsProgram (program_of s cs) = c.bundled_is_program.ensures s cs c.is_loose.ensures c.requires.chunks c.requires.runs in
    subst (λ (is : List Insn). AreBundles (bundles_from cs is)) (sym (put ∙ same_insns s cs c.deref.result.now is)) program.fit

pub of_parts-program-requires : goal.of_parts-program-requires
of_parts-program-requires c =
    let s = c.args.text.now in
    let cs = c.args.chunks.now in
    let p : c.deref.result.now ≡ places_of cs = c.deref.ensures.value ∙ c.in_ok-layouts.ensures.places in
    let q : c.deref-4.result.now ≡ places_of cs = c.deref-4.ensures.value ∙ c.in_ok-layouts.ensures.places in
    let r : c.deref-5.result.now ≡ places_of cs = c.deref-5.ensures.value ∙ c.in_ok-layouts.ensures.places in
    let put : c.deref-3.result.now ≡ targeted (bundle_in c.deref.result.now) s = c.deref-3.ensures.value ∙ c.in_ok-insns.ensures in
    let bytes : c.in_ok-data.data.items ≡ s.bytes = search rules in
    let are =
    parts_are s cs c.deref.result.now c.deref-4.result.now c.deref-5.result.now c.deref-3.result.now c.in_ok-bundles.bundles.items
    c.entries.result.now c.in_ok-entries.entries.items c.in_ok-data.data.items c.relations.result.now c.in_ok-relations.relations.items
    p q r put c.in_ok-bundles.ensures c.entries.ensures c.in_ok-entries.ensures bytes c.relations.ensures c.in_ok-relations.ensures in
    let program : IsProgram (program_of s cs) = c.bundled_is_program.ensures s cs c.is_loose.ensures c.requires.chunks c.requires.runs in
    subst (λ (p : Program). IsProgram p) (sym are) program

pub returns-clause-program : goal.returns-clause-program
returns-clause-program c =
    let s = c.args.text.now in
    let cs = c.args.chunks.now in
    let p : c.deref.result.now ≡ places_of cs = c.deref.ensures.value ∙ c.in_ok-layouts.ensures.places in
    let q : c.deref-4.result.now ≡ places_of cs = c.deref-4.ensures.value ∙ c.in_ok-layouts.ensures.places in
    let r : c.deref-5.result.now ≡ places_of cs = c.deref-5.ensures.value ∙ c.in_ok-layouts.ensures.places in
    let put : c.deref-3.result.now ≡ targeted (bundle_in c.deref.result.now) s = c.deref-3.ensures.value ∙ c.in_ok-insns.ensures in
    let bytes : c.in_ok-data.data.items ≡ s.bytes = search rules in
    let are =
    parts_are s cs c.deref.result.now c.deref-4.result.now c.deref-5.result.now c.deref-3.result.now c.in_ok-bundles.bundles.items
    c.entries.result.now c.in_ok-entries.entries.items c.in_ok-data.data.items c.relations.result.now c.in_ok-relations.relations.items
    p q r put c.in_ok-bundles.ensures c.entries.ensures c.in_ok-entries.ensures bytes c.relations.ensures c.in_ok-relations.ensures in
    c.of_parts-program.ensures ∙ are
