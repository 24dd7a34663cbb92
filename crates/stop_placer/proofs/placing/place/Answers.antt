use Rattle.std.proofs.Common.{◌≡◌, ◌++◌, ◌∷◌, [], Bool, sym, ap, ◌∙◌, subst}
use Rattle.bundling.specs.Bundled.{program_of, places_of}
use Rattle.bundling.specs.Chunks.{AreChunksOf, HasNoLongQuiet}
use Rattle.stop_placer.specs.Packings.{chunks_of}
use Rattle.stop_placer.specs.Packs.{ends_written, end_cause, all_chunks, all_causes}
use Rattle.stop_placer.specs.Placing.{IsPlaced}
use Rattle.stop_placer.proofs.PackCaused.{pack_is_caused, caused_as}
use Rattle.stop_placer.proofs.PackChunks.{pack_are_chunks, pack_is_quiet}
use Rattle.stop_placer.proofs.PlacedAnswers.{whole_few, names_by}
use Rattle.stop_placer.proofs.placing.place.Goals as goal

pub bundled-requires-clause-chunks : goal.bundled-requires-clause-chunks
bundled-requires-clause-chunks c =
    let s = c.in_ok-loose.loose in
    let k = c.in_ok-packing.packing in
    let is = c.is_loose.ensures in
    let pack = c.in_ok-packing.ensures.found.0 in
    let few = whole_few k (ends_written s.items) c.in_ok-packing.ensures.found.1 in
    let written : c.ends_written.result ≡ ends_written s.items = c.ends_written.ensures ∙ ap ends_written c.items.ensures in
    let chunks : c.deref.result.now ≡ all_chunks s k = c.deref.ensures.value ∙ c.in_ok-chunks.ensures.chunks ∙ ap (chunks_of k) written in
    subst (AreChunksOf s) (sym chunks) (pack_are_chunks s k is pack few)

pub bundled-requires-clause-runs : goal.bundled-requires-clause-runs
bundled-requires-clause-runs c =
    let s = c.in_ok-loose.loose in
    let k = c.in_ok-packing.packing in
    let is = c.is_loose.ensures in
    let pack = c.in_ok-packing.ensures.found.0 in
    let few = whole_few k (ends_written s.items) c.in_ok-packing.ensures.found.1 in
    let written : c.ends_written.result ≡ ends_written s.items = c.ends_written.ensures ∙ ap ends_written c.items.ensures in
    let chunks : c.deref.result.now ≡ all_chunks s k = c.deref.ensures.value ∙ c.in_ok-chunks.ensures.chunks ∙ ap (chunks_of k) written in
    c.quiet_is_short.ensures s c.deref.result.now is (subst (AreChunksOf s) (sym chunks) (pack_are_chunks s k is pack few))
    (subst HasNoLongQuiet (sym chunks) (pack_is_quiet s k pack))

pub reasons-requires : goal.reasons-requires
reasons-requires c =
    let s = c.in_ok-loose.loose in
    let k = c.in_ok-packing.packing in
    let is = c.is_loose.ensures in
    let pack = c.in_ok-packing.ensures.found.0 in
    let few = whole_few k (ends_written s.items) c.in_ok-packing.ensures.found.1 in
    let written : c.ends_written.result ≡ ends_written s.items = c.ends_written.ensures ∙ ap ends_written c.items.ensures in
    let chunks : c.deref.result.now ≡ all_chunks s k = c.deref.ensures.value ∙ c.in_ok-chunks.ensures.chunks ∙ ap (chunks_of k) written in
    let causes : c.deref-3.result.now ≡ all_causes s k =
    c.deref-3.ensures.value ∙ c.in_ok-chunks.ensures.causes ∙ ap (λ (b : Bool). k.causes ++ end_cause b ∷ []) written in
    let program : c.in_ok-program.field-0.program ≡ program_of s (all_chunks s k) =
    c.in_ok-program.ensures.program ∙ ap (program_of s) chunks in
    let places : c.in_ok-program.field-0.places.items ≡ places_of (all_chunks s k) = c.in_ok-program.ensures.places ∙ ap places_of chunks in
    caused_as _ _ _ _ _ _ program (c.deref-2.ensures.value ∙ places) causes
    (pack_is_caused s k is pack few (c.bundled_is_spread.ensures.spread s (all_chunks s k) is (pack_are_chunks s k is pack few)))

pub returns : goal.returns
returns c =
    let s = c.in_ok-loose.loose in
    let k = c.in_ok-packing.packing in
    let is = c.is_loose.ensures in
    let pack = c.in_ok-packing.ensures.found.0 in
    let few = whole_few k (ends_written s.items) c.in_ok-packing.ensures.found.1 in
    let written : c.ends_written.result ≡ ends_written s.items = c.ends_written.ensures ∙ ap ends_written c.items.ensures in
    let chunks : c.deref.result.now ≡ all_chunks s k = c.deref.ensures.value ∙ c.in_ok-chunks.ensures.chunks ∙ ap (chunks_of k) written in
    let causes : c.deref-3.result.now ≡ all_causes s k =
    c.deref-3.ensures.value ∙ c.in_ok-chunks.ensures.causes ∙ ap (λ (b : Bool). k.causes ++ end_cause b ∷ []) written in
    let program : c.in_ok-program.field-0.program ≡ program_of s (all_chunks s k) =
    c.in_ok-program.ensures.program ∙ ap (program_of s) chunks in
    let places : c.in_ok-program.field-0.places.items ≡ places_of (all_chunks s k) = c.in_ok-program.ensures.places ∙ ap places_of chunks in
    record {
      found = subst (IsPlaced c.args.text.now) (sym c.of_parts.ensures) (record {
        loose = s;
        reads = c.in_ok-loose.ensures.found;
        packing = k;
        pack = pack;
        few = few;
        program = program;
        places = places;
        stops =
            names_by c.in_ok-program.field-0.program c.deref-2.result.now (all_chunks s k) c.deref-3.result.now (all_causes s k)
            c.in_ok-stops.stops.items (c.deref-2.ensures.value ∙ places) causes c.in_ok-stops.ensures;
      });
      fault = tt;
    }
