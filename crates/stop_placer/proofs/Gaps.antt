-- Behind which instructions of a packing a stop is wanted: there where it has a cause.
use Rattle.std.proofs.Common.{◌≡◌, ◌+◌, Bool, List, [], ◌∷◌, ◌++◌, map, reverse, length, refl, sym, ap, ◌∙◌, append_assoc, append-nil, arith}
use Rattle.std.specs.Prelude.{Option, is_some}
use Rattle.std.proofs.lemmas.List.{map_push, length_push, reverse-append}
use Rattle.slot_layouts.specs.declared.layout.Wanted.{Wanted}
use Rattle.loose_items.specs.declared.item.Item.{Item}
use Rattle.loose_text.specs.LooseTexts.{Loose}
use Rattle.loose_items.specs.Packings.{wanted_as}
use Rattle.bundling.specs.Chunk.{Chunk}
use Rattle.bundling.specs.Chunks.{gaps_in, gaps_of}
use Rattle.stop_placer.specs.declared.packing.Cause.{Cause}
use Rattle.stop_placer.specs.Packings.{Packing, chunk, or_long, joined, begun}
use Rattle.stop_placer.specs.Packs.{IsPack}
use Rattle.stop_placer.proofs.Steps.{is_long, IsKeptEach, kept_each, kept_of}

-- The list the other way round, with one more before it.
pub reverse_more : {X : Type 0} (x : X) (xs : List X) → reverse (x ∷ xs) ≡ reverse xs ++ x ∷ []
reverse_more x xs = reverse-append (x ∷ []) xs

gaps_in_more : (ws : List Wanted) (x : Wanted) (end : Bool) → gaps_in (ws ++ x ∷ []) end ≡ gaps_in ws x.gap ++ end ∷ []
gaps_in_more [] x end = refl
gaps_in_more (w ∷ []) x end = refl
gaps_in_more (w ∷ v ∷ ws) x end = ap (λ (l : List Bool). v.gap ∷ l) (gaps_in_more (v ∷ ws) x end)

pub gaps_of_append : (cs ds : List Chunk) → gaps_of (cs ++ ds) ≡ gaps_of cs ++ gaps_of ds
gaps_of_append [] ds = refl
gaps_of_append (c ∷ cs) ds =
    ap (λ (l : List Bool). gaps_in c.wanted c.end ++ l) (gaps_of_append cs ds)
    ∙ sym (append_assoc (gaps_in c.wanted c.end) (gaps_of cs) (gaps_of ds))

pub gaps_of_last : (cs : List Chunk) (c : Chunk) → gaps_of (cs ++ c ∷ []) ≡ gaps_of cs ++ gaps_in c.wanted c.end
gaps_of_last cs c = gaps_of_append cs (c ∷ []) ∙ ap (λ (l : List Bool). gaps_of cs ++ l) (append-nil (gaps_in c.wanted c.end))

-- The gaps so far are those with a cause, whether a stop comes at the end or not.
pub record HasGaps (k : Packing) (done : List Item) (before : Item) : Type 0 where
  pub gaps : (end : Bool) → gaps_of (reverse k.closed) ++ gaps_in k.current end ≡ map is_some k.causes ++ end ∷ []
  pub count : length k.causes + 1 ≡ length done

-- One gap more.
gaps_next : (gaps : List Bool) (ws : List Wanted) (causes : List (Option Cause)) (cause : Option Cause) (end : Bool)
    → gaps ++ gaps_in ws (is_some cause) ≡ map is_some causes ++ is_some cause ∷ []
    → (gaps ++ gaps_in ws (is_some cause)) ++ end ∷ [] ≡ map is_some (causes ++ cause ∷ []) ++ end ∷ []
gaps_next gaps ws causes cause end same = ap (λ (l : List Bool). l ++ end ∷ []) (same ∙ sym (map_push is_some causes cause))

gaps_joined : (k : Packing) (done : List Item) (before item : Item) (cause : Option Cause) → HasGaps k done before
    → HasGaps (joined k item cause) (done ++ item ∷ []) item
gaps_joined k done before item cause has = record {
  gaps = λ end.
      ap (λ (l : List Bool). gaps_of (reverse k.closed) ++ l) (gaps_in_more k.current (wanted_as item (is_some cause)) end)
      ∙ sym (append_assoc (gaps_of (reverse k.closed)) (gaps_in k.current (is_some cause)) (end ∷ []))
      ∙ gaps_next (gaps_of (reverse k.closed)) k.current k.causes cause end (has.gaps (is_some cause));
  count = let count = has.count in omega (arith, length_push k.causes cause, length_push done item);
}

gaps_begun : (k : Packing) (done : List Item) (before item : Item) (cause : Option Cause) → HasGaps k done before
    → HasGaps (begun k item cause) (done ++ item ∷ []) item
gaps_begun k done before item cause has = record {
  gaps = λ end.
      ap (λ (l : List Bool). l ++ end ∷ []) (ap gaps_of (reverse_more (chunk k.current (is_some cause)) k.closed)
      ∙ gaps_of_last (reverse k.closed) (chunk k.current (is_some cause)))
      ∙ gaps_next (gaps_of (reverse k.closed)) k.current k.causes cause end (has.gaps (is_some cause));
  count = let count = has.count in omega (arith, length_push k.causes cause, length_push done item);
}

pub gaps_kept : IsKeptEach HasGaps
gaps_kept = record {
  joining = λ k done before item cause e has. gaps_joined k done before item cause has;
  beginning = λ k done before item cause has. gaps_begun k done before item (or_long cause (is_long k)) has;
}

pub has_gaps : (s : Loose) (k : Packing) → IsPack s k → (end : Item) × HasGaps k s.items end
has_gaps s k pack = kept_of s HasGaps (kept_each s HasGaps gaps_kept) (λ item. record { gaps = λ end. refl; count = refl }) s.items k pack
