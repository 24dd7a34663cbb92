-- The bundles of a packing: chunks of the text's instructions, with stops where there is a reason, and with none of the
-- stretches that would make a run too long.
use Rattle.std.proofs.Common.{◌≡◌, ◌≤◌, Bool, true, false, List, [], ◌∷◌, ◌++◌, map, reverse, length, refl, sym, ap, ◌∙◌, subst, append_assoc, arith}
use Rattle.std.specs.Prelude.{is_some}
use Rattle.std.proofs.lemmas.List.{map_push, length_push}
use Rattle.ia_program.specs.declared.limits.TheConstants.{BUNDLE_LIMIT}
use Rattle.loose_items.specs.declared.item.Item.{Item}
use Rattle.loose_text.specs.LooseTexts.{Loose, IsLoose}
use Rattle.bundling.specs.Chunk.{Chunk}
use Rattle.bundling.specs.Chunks.{AreChunks, AreChunksOf, HasNoLongQuiet, gaps_of}
use Rattle.stop_placer.specs.Packings.{Packing, chunk, or_long}
use Rattle.stop_placer.specs.Packs.{IsPack, ends_written, end_cause, all_causes, all_chunks}
use Rattle.stop_placer.proofs.Steps.{is_long, IsKeptEach, kept_each, kept_of}
use Rattle.stop_placer.proofs.OpenChunks.{IsOpen, open_begun, open_joined, open_closed, chunk_last}
use Rattle.stop_placer.proofs.Gaps.{has_gaps, reverse_more, gaps_of_last}
use Rattle.stop_placer.proofs.Quiet.{closed_short, loud_between}

-- The closed bundles and the current one hold the items so far.
record HoldsAll (k : Packing) (done : List Item) (before : Item) : Type 0 where
  shut : List Item
  held : List Item
  all : done ≡ shut ++ held
  closed : AreChunks (reverse k.closed) shut
  current : IsOpen k.current held before

-- With the current one closed.
all_closed : (k : Packing) (done : List Item) (before : Item) (end : Bool) → HoldsAll k done before
    → AreChunks (reverse (chunk k.current end ∷ k.closed)) done
all_closed k done before end holds =
    subst (λ (cs : List Chunk). AreChunks cs done) (sym (reverse_more (chunk k.current end) k.closed))
    (subst (AreChunks (reverse k.closed ++ chunk k.current end ∷ [])) (sym holds.all)
    (chunk_last (reverse k.closed) (chunk k.current end) holds.shut holds.held holds.closed
    (open_closed k.current holds.held before end holds.current)))

all_kept : IsKeptEach HoldsAll
all_kept = record {
  joining = λ k done before item cause e holds. record {
    shut = holds.shut;
    held = holds.held ++ item ∷ [];
    all = ap (λ (l : List Item). l ++ item ∷ []) holds.all ∙ append_assoc holds.shut holds.held (item ∷ []);
    closed = holds.closed;
    current = open_joined k.current holds.held before item (is_some cause) e holds.current;
  };
  beginning = λ k done before item cause holds. record {
    shut = done;
    held = item ∷ [];
    all = refl;
    closed = all_closed k done before (is_some (or_long cause (is_long k))) holds;
    current = open_begun item;
  };
}

holds_all : (s : Loose) (k : Packing) → IsPack s k → (end : Item) × HoldsAll k s.items end
holds_all s k pack =
    kept_of s HoldsAll (kept_each s HoldsAll all_kept) (λ item. record {
      shut = [];
      held = item ∷ [];
      all = refl;
      closed = tt;
      current = open_begun item;
    }) s.items k pack

pub pack_are_chunks : (s : Loose) (k : Packing) → IsLoose s → IsPack s k → length (all_chunks s k) ≤ BUNDLE_LIMIT
    → AreChunksOf s (all_chunks s k)
pack_are_chunks s k is pack few =
    let holds = holds_all s k pack in record { chunks = all_closed k s.items holds.0 (ends_written s.items) holds.1; few = few }

pub pack_is_quiet : (s : Loose) (k : Packing) → IsPack s k → HasNoLongQuiet (all_chunks s k)
pack_is_quiet s k pack i inside = loud_between k.closed (chunk k.current (ends_written s.items)) i (closed_short s k pack) inside

-- A stop at the end has a cause.
end_has_cause : (b : Bool) → is_some (end_cause b) ≡ b
end_has_cause true = refl
end_has_cause false = refl

pub pack_gaps : (s : Loose) (k : Packing) → IsPack s k → gaps_of (all_chunks s k) ≡ map is_some (all_causes s k)
pack_gaps s k pack =
    let end = ends_written s.items in
    ap gaps_of (reverse_more (chunk k.current end) k.closed)
    ∙ gaps_of_last (reverse k.closed) (chunk k.current end)
    ∙ (has_gaps s k pack).1.gaps end
    ∙ sym (map_push is_some k.causes (end_cause end) ∙ ap (λ (b : Bool). map is_some k.causes ++ b ∷ []) (end_has_cause end))

pub pack_causes : (s : Loose) (k : Packing) → IsPack s k → length (all_causes s k) ≡ length s.items
pack_causes s k pack = let count = (has_gaps s k pack).1.count in omega (arith, length_push k.causes (end_cause (ends_written s.items)))
