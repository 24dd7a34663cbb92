-- A packing takes one instruction more.
use Rattle.std.proofs.Common.{◌≡◌, ◌+◌, ◌<◌, ◌≤◌, ℕ, Bool, true, false, List, [], ◌∷◌, ◌++◌, length, length-append, get_or, refl, sym, ap, ◌∙◌, subst, append_assoc, arith}
use Rattle.std.specs.Prelude.{Option, is_some}
use Rattle.std.proofs.Math.Seq.{get_or-append_seam}
use Rattle.std.proofs.lemmas.List.{get_or_append_left}
use Rattle.ia_program.specs.declared.limits.TheConstants.{BUNDLE_LIMIT}
use Rattle.loose_items.specs.declared.item.Item.{Item}
use Rattle.loose_text.specs.LooseTexts.{Loose}
use Rattle.loose_items.specs.Packings.{joins}
use Rattle.bundling.specs.declared.chunk.TheConstants.{QUIET_LIMIT}
use Rattle.stop_placer.specs.declared.packing.Cause.{Cause}
use Rattle.stop_placer.specs.Packings.{Packing, begun_with, first_cause, or_long, are_quiet, chunk, by_joining, packed_next}
use Rattle.stop_placer.specs.Packs.{GoesOnTo, IsPackOf, IsFirstPast}
use Rattle.stop_placer.proofs.Steps.{IsRight}

goes_last : (s : Loose) (k q : Packing) (last item : Item) (pair : Bool) → q ≡ k → IsRight s q last pair
    → GoesOnTo s k last (item ∷ []) (packed_next q last item pair)
goes_last s k q last item pair same right =
    (pair, subst (λ (p : Packing). IsRight s p last pair) same right, ap (λ (p : Packing). packed_next p last item pair) same)

goes_grows : (s : Loose) (k q : Packing) (before : Item) (front : List Item) (last item : Item) (pair : Bool)
    → GoesOnTo s k before (front ++ last ∷ []) q → IsRight s q last pair
    → GoesOnTo s k before ((front ++ last ∷ []) ++ item ∷ []) (packed_next q last item pair)
goes_grows s k q before [] last item pair (p, r, same) right = (p, r, goes_last s (packed_next k before last p) q last item pair same right)
goes_grows s k q before (x ∷ front) last item pair (p, r, goes) right =
    (p, r, goes_grows s (packed_next k before x p) q x front last item pair goes right)

pack_grows : (s : Loose) (k : Packing) (front : List Item) (last item : Item) (pair : Bool) → IsPackOf s (front ++ last ∷ []) k
    → IsRight s k last pair
    → IsPackOf s ((front ++ last ∷ []) ++ item ∷ []) (packed_next k last item pair)
pack_grows s k [] last item pair same right = goes_last s (begun_with last) k last item pair same right
pack_grows s k (x ∷ front) last item pair goes right = goes_grows s (begun_with x) k x front last item pair goes right

-- One instruction more has a gap before it; at most one bundle more is closed, and then the next one has that instruction
-- alone.
pub record TakesOne (k new : Packing) : Type 0 where
  pub gap : Option Cause
  pub causes : new.causes ≡ k.causes ++ gap ∷ []
  pub closed : length new.closed ≤ length k.closed + 1
  pub begins : length k.closed < length new.closed → length new.current ≡ 1

pub next_takes_one : (k : Packing) (before item : Item) (pair : Bool) → TakesOne k (packed_next k before item pair)
next_takes_one k before item pair = of (joins k.current before item (is_some cause))
  where
    cause : Option Cause
    cause = first_cause before.written pair

    of : (b : Bool) → TakesOne k (by_joining b k item cause)
    of true = record { gap = cause; causes = refl; closed = omega arith; begins = λ h. absurd (omega (arith, h)) }
    of false =
        record {
          gap = or_long cause (are_quiet QUIET_LIMIT (chunk k.current false ∷ k.closed));
          causes = refl;
          closed = omega arith;
          begins = λ h. refl;
        }

-- The packing is that of the first n instructions of the text, at least one.
pub record IsPackedSo (s : Loose) (n : ℕ) (k : Packing) : Type 0 where
  pub front : List Item
  pub last : Item
  pub rest : List Item
  pub items : s.items ≡ (front ++ last ∷ []) ++ rest
  pub number : length front + 1 ≡ n
  pub pack : IsPackOf s (front ++ last ∷ []) k
  pub gaps : length k.causes + 1 ≡ n

pub packed_first : (s : Loose) (item : Item) → 1 ≤ length s.items → item ≡ get_or s.items 0 item → IsPackedSo s 1 (begun_with item)
packed_first s item some is = of s.items refl some is
  where
    of : (items : List Item) → s.items ≡ items → 1 ≤ length items → item ≡ get_or items 0 item → IsPackedSo s 1 (begun_with item)
    of [] e some is = absurd (omega (arith, some))
    of (x ∷ rest) e some is = record {
      front = [];
      last = item;
      rest = rest;
      items = e ∙ ap (λ (i : Item). i ∷ rest) (sym is);
      number = refl;
      pack = refl;
      gaps = refl;
    }

module _ (s : Loose) (n : ℕ) (k : Packing) (so : IsPackedSo s n k) where
  length_so : length (so.front ++ so.last ∷ []) ≡ n
  length_so = length-append so.front (so.last ∷ []) ∙ so.number

  -- The last of them.
  pub last_so : (before : Item) (m : ℕ) → m + 1 ≡ n → before ≡ get_or s.items m before → before ≡ so.last
  last_so before m e is =
      let at : m ≡ length so.front = omega (arith, so.number, e) in
      is ∙ ap (λ (l : List Item). get_or l m before) so.items
      ∙ get_or_append_left (so.front ++ so.last ∷ []) so.rest before m (omega (arith, length_so, e))
      ∙ ap (λ (i : ℕ). get_or (so.front ++ so.last ∷ []) i before) at ∙ get_or-append_seam so.front so.last [] before

  -- The next instruction, and those behind it.
  pub record HasNext (item : Item) : Type 0 where
    pub after : List Item
    pub is : s.items ≡ (so.front ++ so.last ∷ []) ++ item ∷ after

  pub next_so : (item : Item) → n < length s.items → item ≡ get_or s.items n item → HasNext item
  next_so item inside is = of so.rest so.items
    where
      of : (rest : List Item) → s.items ≡ (so.front ++ so.last ∷ []) ++ rest → HasNext item
      of [] e = absurd (omega (arith, inside, ap (length {A = Item}) e, length-append (so.front ++ so.last ∷ []) [], length_so))
      of (x ∷ rest) e =
          let at : item ≡ x =
          is ∙ ap (λ (l : List Item). get_or l n item) e ∙ ap (λ (i : ℕ). get_or ((so.front ++ so.last ∷ []) ++ x ∷ rest) i item)
          (sym length_so)
          ∙ get_or-append_seam (so.front ++ so.last ∷ []) x rest item in
          record { after = rest; is = e ∙ ap (λ (i : Item). (so.front ++ so.last ∷ []) ++ i ∷ rest) (sym at) }

  pub pack_so : (before item : Item) (pair : Bool) → before ≡ so.last → IsRight s k before pair
      → IsPackOf s ((so.front ++ so.last ∷ []) ++ item ∷ []) (packed_next k before item pair)
  pack_so before item pair e right =
      subst (λ (b : Item). IsPackOf s ((so.front ++ so.last ∷ []) ++ item ∷ []) (packed_next k b item pair)) (sym e)
      (pack_grows s k so.front so.last item pair so.pack (subst (λ (b : Item). IsRight s k b pair) e right))

  pub packed_more : (before item : Item) (pair : Bool) → before ≡ so.last → HasNext item → IsRight s k before pair
      → IsPackedSo s (n + 1) (packed_next k before item pair)
  packed_more before item pair e next right =
      let one = next_takes_one k before item pair in
      record {
        front = so.front ++ so.last ∷ [];
        last = item;
        rest = next.after;
        items = next.is ∙ sym (append_assoc (so.front ++ so.last ∷ []) (item ∷ []) next.after);
        number = ap (λ (i : ℕ). i + 1) length_so;
        pack = pack_so before item pair e right;
        gaps = omega (arith, ap (length {A = Option Cause}) one.causes, length-append k.causes (one.gap ∷ []), so.gaps);
      }

  -- Where with it one bundle too many is closed.
  pub past_so : (before item : Item) (pair : Bool) → before ≡ so.last → HasNext item → IsRight s k before pair
      → length k.closed < BUNDLE_LIMIT → length (packed_next k before item pair).closed ≡ BUNDLE_LIMIT → IsFirstPast s n
  past_so before item pair e next right room full =
      let one = next_takes_one k before item pair in
      record {
        before = so.front ++ so.last ∷ [];
        item = item;
        after = next.after;
        items = next.is;
        number = length_so;
        packing = packed_next k before item pair;
        is = pack_so before item pair e right;
        full = full;
        begins = one.begins (omega (arith, room, full));
      }
