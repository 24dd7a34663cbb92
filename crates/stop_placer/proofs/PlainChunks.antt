-- The plain packing, as chunks: a stop after each bundle, so that no run is long.
use Rattle.std.proofs.Common.{◌≡◌, ◌<◌, ℕ, Bool, true, false, List, [], ◌∷◌, ◌++◌, map, length, refl, sym, ap, ◌∙◌, subst, append_assoc, arith}
use Rattle.std.specs.Prelude.{if◌then◌else◌, Option, IsSomeAnd, slice_get}
use Rattle.std.specs.Option.{option_map}
use Rattle.std.proofs.lemmas.List.{length-map}
use Rattle.std.proofs.lemmas.Option.{slice_get-map}
use Rattle.slot_layouts.specs.declared.layout.Wanted.{Wanted}
use Rattle.loose_items.specs.declared.item.Item.{Item}
use Rattle.loose_text.specs.LooseTexts.{Loose, IsLoose}
use Rattle.loose_items.specs.Packings.{wanted_as, joins, plain_on, plain_of}
use Rattle.bundling.specs.Chunk.{Chunk}
use Rattle.bundling.specs.Chunks.{AreChunks, AreChunksOf, HasNoLongQuiet, is_quiet}
use Rattle.bundling.proofs.Lists.{element}
use Rattle.stop_placer.specs.Packings.{chunk}
use Rattle.stop_placer.proofs.OpenChunks.{IsOpen, open_begun, open_joined, open_closed, chunk_first}

-- A bundle with a stop at its end.
abbrev stopped_chunk : List Wanted → Chunk
stopped_chunk ws = chunk ws true

abbrev pub plain_chunks : Loose → List Chunk
plain_chunks s = map (λ ws. chunk ws true) (plain_of s.items)

chunks_on : (ws : List Wanted) (held : List Item) (before : Item) (items : List Item) → IsOpen ws held before
    → AreChunks (map stopped_chunk (plain_on ws before items)) (held ++ items)
chunks_on ws held before [] current = chunk_first (stopped_chunk ws) [] held [] (open_closed ws held before true current) tt
chunks_on ws held before (item ∷ items) current = of (joins ws before item false) refl
    (λ e. chunks_on (ws ++ wanted_as item false ∷ []) (held ++ item ∷ []) item items (open_joined ws held before item false e current))
    (chunks_on (wanted_as item false ∷ []) (item ∷ []) item items (open_begun item))
  where
    of : (b : Bool) → joins ws before item false ≡ b
        → (joins ws before item false ≡ true → AreChunks (map stopped_chunk (plain_on (ws ++ wanted_as item false ∷ []) item items))
        ((held ++ item ∷ []) ++ items))
        → AreChunks (map stopped_chunk (plain_on (wanted_as item false ∷ []) item items)) (item ∷ items)
        → AreChunks (map stopped_chunk (if b then plain_on (ws ++ wanted_as item false ∷ []) item
        items else (ws ∷ plain_on (wanted_as item false ∷ []) item items))) (held ++ item ∷ items)
    of true e joined begun =
        subst (AreChunks (map stopped_chunk (plain_on (ws ++ wanted_as item false ∷ []) item items))) (append_assoc held (item ∷ []) items)
        (joined e)
    of false e joined begun =
        chunk_first (stopped_chunk ws) (map stopped_chunk (plain_on (wanted_as item false ∷ []) item items)) held (item ∷ items)
        (open_closed ws held before true current) begun

chunks_of_all : (items : List Item) → AreChunks (map stopped_chunk (plain_of items)) items
chunks_of_all [] = tt
chunks_of_all (item ∷ items) = chunks_on (wanted_as item false ∷ []) (item ∷ []) item items (open_begun item)

pub plain_are_chunks : (s : Loose) → IsLoose s → AreChunksOf s (plain_chunks s)
plain_are_chunks s is = record {
  chunks = chunks_of_all s.items;
  few = let few = is.bundles in let count = length-map (plain_of s.items) stopped_chunk in omega arith;
}

none_quiet : (all : List (List Wanted)) (i : ℕ) → i < length (map stopped_chunk all)
    → IsSomeAnd (slice_get (map stopped_chunk all) i) (λ c. is_quiet c ≡ false)
none_quiet all i inside =
    let found = element all i (subst (λ (n : ℕ). i < n) (length-map all stopped_chunk) inside) in
    subst (λ (o : Option Chunk). IsSomeAnd o (λ c. is_quiet c ≡ false))
    (sym (slice_get-map stopped_chunk all i ∙ ap (option_map stopped_chunk) found.1)) refl

pub plain_is_quiet : (s : Loose) → HasNoLongQuiet (plain_chunks s)
plain_is_quiet s i inside = (i, omega arith, omega arith, none_quiet (plain_of s.items) i (omega arith))
