-- A bundle that further items may join, what it holds so far, and the chunks that are made of such bundles.
use Rattle.std.proofs.Common.{◌≡◌, ◌≤◌, ℕ, suc, ◌+◌, Bool, true, false, ◌&&◌, not, List, [], ◌∷◌, ◌++◌, length, take, drop, refl, sym, ap, subst, arith}
use Rattle.std.specs.Prelude.{Option, Some, None, is_some, IsSome}
use Rattle.std.specs.Option.{option_map}
use Rattle.std.proofs.lemmas.List.{length-take, take_at, drop_at, take-append-le, drop-append-le, append-nil}
use Rattle.ia_insn.specs.declared.insn.Op.{Op}
use Rattle.ia_insn.specs.declared.insn.Op.TheVariants.{BrCall, BrCallInd}
use Rattle.ia_program.specs.Programs.{IsCall}
use Rattle.slot_layouts.specs.declared.layout.Wanted.{Wanted}
use Rattle.slot_layouts.specs.Layouts.{laid_out}
use Rattle.slot_layouts.proofs.Facts.{one_is_laid_out, end_takes_next_code}
use Rattle.loose_items.specs.declared.item.Item.{Item}
use Rattle.ia_meaning.specs.Landings.{is_call}
use Rattle.loose_items.specs.Packings.{wanted_as, joins}
use Rattle.bundling.specs.Chunk.{Chunk}
use Rattle.bundling.specs.Chunks.{Holds, KeepTogether, IsChunk, AreChunks}
use Rattle.stop_placer.specs.Packings.{chunk}

-- A bundle holds as many items as are wanted of it.
pub holds_length : (ws : List Wanted) (items : List Item) → Holds ws items → length ws ≡ length items
holds_length [] [] h = refl
holds_length [] (item ∷ items) h = absurd h
holds_length (w ∷ ws) [] h = absurd h
holds_length (w ∷ ws) (item ∷ items) (is, h) = ap suc (holds_length ws items h)

holds_more : (ws : List Wanted) (items : List Item) (item : Item) (gap : Bool) → Holds ws items
    → Holds (ws ++ wanted_as item gap ∷ []) (items ++ item ∷ [])
holds_more [] [] item gap h = (refl, tt)
holds_more [] (i ∷ items) item gap h = absurd h
holds_more (w ∷ ws) [] item gap h = absurd h
holds_more (w ∷ ws) (i ∷ items) item gap (is, h) = (is, holds_more ws items item gap h)

together_more : (front : List Item) (before item : Item) → item.breaks ≡ false → ¬ IsCall before.insn.op
    → KeepTogether (front ++ before ∷ []) → KeepTogether ((front ++ before ∷ []) ++ item ∷ [])
together_more [] before item breaks call h = (breaks, call, tt)
together_more (a ∷ []) before item breaks call (x, y, h) = (x, y, together_more [] before item breaks call h)
together_more (a ∷ b ∷ front) before item breaks call (x, y, h) = (x, y, together_more (b ∷ front) before item breaks call h)

no_call : (op : Op) → is_call op ≡ false → ¬ IsCall op
no_call (BrCall b1 wh many clr disp) e = λ h. absurd cc
no_call (BrCallInd b1 b2 wh many clr) e = λ h. absurd cc
no_call op e = λ h. h

-- The bundle under way holds these items, of which this one is the last, and has a layout.
pub record IsOpen (ws : List Wanted) (items : List Item) (before : Item) : Type 0 where
  pub holds : Holds ws items
  pub together : KeepTogether items
  pub laid : IsSome (laid_out ws false)
  pub front : List Item
  pub ends : items ≡ front ++ before ∷ []

-- A bundle begins with any item.
pub open_begun : (item : Item) → IsOpen (wanted_as item false ∷ []) (item ∷ []) item
open_begun item = record { holds = (refl, tt); together = tt; laid = one_is_laid_out (wanted_as item false) false; front = []; ends = refl }

-- What an item that joins is: nothing parts it from the one before it, which is no call, and there is a layout.
pub record AreJoined (ws : List Wanted) (before item : Item) (gap : Bool) : Type 0 where
  pub breaks : item.breaks ≡ false
  pub call : ¬ IsCall before.insn.op
  pub laid : IsSome (laid_out (ws ++ wanted_as item gap ∷ []) false)

pub joined_is : (ws : List Wanted) (before item : Item) (gap : Bool) → joins ws before item gap ≡ true → AreJoined ws before item gap
joined_is ws before item gap e =
    of item.breaks (is_call before.insn.op) (is_some (laid_out (ws ++ wanted_as item gap ∷ []) false)) refl refl refl e
  where
    of : (x y z : Bool) → item.breaks ≡ x → is_call before.insn.op ≡ y → is_some (laid_out (ws ++ wanted_as item gap ∷ []) false) ≡ z
        → (not x && (not y && z)) ≡ true → AreJoined ws before item gap
    of false false true x y z e = record { breaks = x; call = no_call before.insn.op y; laid = z }
    of false false false x y z e = absurd cc
    of false true z _ _ _ e = absurd cc
    of true y z _ _ _ e = absurd cc

-- Another item joins it.
pub open_joined : (ws : List Wanted) (items : List Item) (before item : Item) (gap : Bool) → joins ws before item gap ≡ true
    → IsOpen ws items before
    → IsOpen (ws ++ wanted_as item gap ∷ []) (items ++ item ∷ []) item
open_joined ws items before item gap e current =
    let joined = joined_is ws before item gap e in
    record {
      holds = holds_more ws items item gap current.holds;
      together = subst (λ (xs : List Item). KeepTogether (xs ++ item ∷ [])) (sym current.ends)
          (together_more current.front before item joined.breaks joined.call (subst KeepTogether current.ends current.together));
      laid = joined.laid;
      front = items;
      ends = refl;
    }

laid_with : (ws : List Wanted) (end : Bool) → IsSome (laid_out ws false) → IsSome (laid_out ws end)
laid_with ws false laid = laid
laid_with ws true laid = subst (IsSome {T = ℕ × List ℕ}) (sym (end_takes_next_code ws)) (of (laid_out ws false) laid)
  where
    of : (o : Option (ℕ × List ℕ)) → IsSome o → IsSome {T = ℕ × List ℕ} (option_map (λ (layout : ℕ × List ℕ). (layout.0 + 1, layout.1)) o)
    of None h = h
    of (Some layout) h = refl

-- It is closed, with a stop at its end or none.
pub open_closed : (ws : List Wanted) (items : List Item) (before : Item) (end : Bool) → IsOpen ws items before
    → IsChunk (chunk ws end) items
open_closed ws items before end current =
    record { holds = current.holds; together = current.together; laid = laid_with ws end current.laid }

-- Chunks of further items behind one chunk.
pub chunk_first : (c : Chunk) (cs : List Chunk) (items more : List Item) → IsChunk c items → AreChunks cs more
    → AreChunks (c ∷ cs) (items ++ more)
chunk_first c cs items more is are =
    let count = sym (holds_length c.wanted items is.holds) in (
      subst (IsChunk c) (sym (take_at items more (length c.wanted) count)) is,
      subst (AreChunks cs) (sym (drop_at items more (length c.wanted) count)) are,
    )

-- One chunk behind the chunks of the items before.
pub chunk_last : (cs : List Chunk) (c : Chunk) (items more : List Item) → AreChunks cs items → IsChunk c more
    → AreChunks (cs ++ c ∷ []) (items ++ more)
chunk_last [] c [] more are is = subst (AreChunks (c ∷ [])) (append-nil more) (chunk_first c [] more [] is tt)
chunk_last [] c (item ∷ items) more are is = absurd are
chunk_last (d ∷ cs) c items more (first, are) is = (
  subst (IsChunk d) (sym (take-append-le (length d.wanted) items more room)) first,
  subst (AreChunks (cs ++ c ∷ [])) (sym (drop-append-le (length d.wanted) items more room))
      (chunk_last cs c (drop (length d.wanted) items) more are is),
)
  where
    room : length d.wanted ≤ length items
    room = let same = holds_length d.wanted (take (length d.wanted) items) first.holds in omega (arith, length-take (length d.wanted) items)
