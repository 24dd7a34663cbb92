use Rattle.std.proofs.Common.{◌≡◌, sym, ◌∙◌, subst}
use Rattle.ia_program.specs.Programs.{Program}
use Rattle.flow_facts.specs.Walks.{IsSolution}
use Rattle.bundling.specs.Bundled.{program_of}
use Rattle.bundling.specs.Chunks.{AreChunksOf, HasNoLongQuiet}
use Rattle.stop_placer.proofs.PlainChunks.{plain_chunks, plain_are_chunks, plain_is_quiet}
use Rattle.stop_placer.proofs.SequenceKnown.{are_known}
use Rattle.stop_placer.proofs.pairing.SequenceFacts.of.Goals as goal

pub bundled-requires-clause-chunks : goal.bundled-requires-clause-chunks
bundled-requires-clause-chunks c =
    let e : c.deref.result.now ≡ plain_chunks c.args.text.now = c.deref.ensures.value ∙ c.in_ok-chunks.ensures in
    subst (AreChunksOf c.args.text.now) (sym e) (plain_are_chunks c.args.text.now c.is_loose.ensures)

pub bundled-requires-clause-runs : goal.bundled-requires-clause-runs
bundled-requires-clause-runs c =
    let e : c.deref.result.now ≡ plain_chunks c.args.text.now = c.deref.ensures.value ∙ c.in_ok-chunks.ensures in
    let are = subst (AreChunksOf c.args.text.now) (sym e) (plain_are_chunks c.args.text.now c.is_loose.ensures) in
    c.quiet_is_short.ensures c.args.text.now c.deref.result.now c.is_loose.ensures are
    (subst HasNoLongQuiet (sym e) (plain_is_quiet c.args.text.now))

pub returns : goal.returns
returns c =
    let s = c.args.text.now in
    let is = c.is_loose.ensures in
    let cs = c.deref.result.now in
    let e : cs ≡ plain_chunks s = c.deref.ensures.value ∙ c.in_ok-chunks.ensures in
    let are = subst (AreChunksOf s) (sym e) (plain_are_chunks s is) in
    let runs = c.quiet_is_short.ensures s cs is are (subst HasNoLongQuiet (sym e) (plain_is_quiet s)) in
    let made : c.in_ok-table.table ≡ program_of s cs = c.in_ok-table.ensures ∙ c.in_ok-program.ensures.program in
    are_known s cs c.in_ok-facts.facts c.in_ok-program.field-0.places.items is are c.known_in_the_sequence.ensures
    (c.bundled_is_spread.ensures.spread s cs is are)
    (c.bundled_is_program.ensures s cs is are runs) (subst (λ (p : Program). IsSolution p c.in_ok-facts.facts) made c.in_ok-facts.ensures)
    c.in_ok-program.ensures.places
