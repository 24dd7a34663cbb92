-- No stretch of bundles of a packing is long and without a stop.
use Rattle.std.proofs.Common.{◌≡◌, ◌≤◌, ◌<◌, ◌+◌, ◌-◌, ℕ, zero, suc, Bool, true, false, ◌&&◌, List, [], ◌∷◌, reverse, length, drop, get_or, refl, sym, ap, ◌∙◌, subst, arith}
use Rattle.std.specs.Prelude.{Option, Some, None, is_some, IsSomeAnd, slice_get}
use Rattle.std.proofs.lemmas.List.{length-drop, length-reverse, get_or-reverse}
use Rattle.std.proofs.lemmas.Option.{slice_get-get_or, get_or_from_slice_get, slice_get_within}
use Rattle.loose_items.specs.declared.item.Item.{Item}
use Rattle.loose_text.specs.LooseTexts.{Loose}
use Rattle.bundling.specs.declared.chunk.TheConstants.{QUIET_LIMIT}
use Rattle.bundling.specs.Chunk.{Chunk}
use Rattle.bundling.specs.Chunks.{is_quiet}
use Rattle.bundling.proofs.Lists.{slice_get-drop, slice_get-append_left}
use Rattle.stop_placer.specs.declared.packing.Cause.{Cause}
use Rattle.stop_placer.specs.Packings.{Packing, chunk, are_quiet, or_long}
use Rattle.stop_placer.specs.Packs.{IsPack}
use Rattle.stop_placer.proofs.Gaps.{reverse_more}
use Rattle.stop_placer.proofs.Steps.{is_long, IsKeptEach, kept_each, kept_of}

-- Of n bundles one wants a stop: it is the k-th from the latest on.
pub record HasLoud (count : ℕ) (chunks : List Chunk) : Type 0 where
  pub back : ℕ
  pub below : back < count
  pub chunk : Chunk
  pub there : slice_get chunks back ≡ Some chunk
  pub loud : is_quiet chunk ≡ false

pub has_loud : (count : ℕ) (chunks : List Chunk) → are_quiet count chunks ≡ false → count ≤ length chunks → HasLoud count chunks
has_loud zero chunks e room = absurd cc
has_loud (suc n) [] e room = absurd (omega arith)
has_loud (suc n) (c ∷ cs) e room = of (is_quiet c) refl e (λ e. has_loud n cs e (omega arith))
  where
    of : (b : Bool) → is_quiet c ≡ b → (b && are_quiet n cs) ≡ false → (are_quiet n cs ≡ false → HasLoud n cs) → HasLoud (suc n) (c ∷ cs)
    of false q e later = record { back = 0; below = omega arith; chunk = c; there = refl; loud = q }
    of true q e later =
        let rest = later e in
        record {
          back = suc rest.back;
          below = (let less = rest.below in omega arith);
          chunk = rest.chunk;
          there = rest.there;
          loud = rest.loud;
        }

-- From each bundle back, not all of n are without a stop.
abbrev pub NoneLong : List Chunk → Type 0
NoneLong [] = Unit {0}
NoneLong (c ∷ cs) = (are_quiet QUIET_LIMIT (c ∷ cs) ≡ false) × NoneLong cs

none_long_from : (j : ℕ) (chunks : List Chunk) → NoneLong chunks → j < length chunks → are_quiet QUIET_LIMIT (drop j chunks) ≡ false
none_long_from j [] none inside = absurd (omega arith)
none_long_from zero (c ∷ cs) (e, none) inside = e
none_long_from (suc j) (c ∷ cs) (e, none) inside = none_long_from j cs none (omega arith)

-- A stop at the end of the first of them is one.
stopped_first : (n : ℕ) (c : Chunk) (cs : List Chunk) → 1 ≤ n → c.end ≡ true → are_quiet n (c ∷ cs) ≡ false
stopped_first zero c cs some e = absurd (omega arith)
stopped_first (suc n) c cs some e = rw e refl

-- With the reason for a stop, there is none too long.
closed_by : (k : Packing) (cause : Option Cause) → are_quiet QUIET_LIMIT (chunk k.current (is_some (or_long cause (is_long k))) ∷ k.closed)
    ≡ false
closed_by k (Some cause) = stopped_first QUIET_LIMIT (chunk k.current true) k.closed (omega arith) refl
closed_by k None = of (is_long k) refl
  where
    of : (b : Bool) → is_long k ≡ b → are_quiet QUIET_LIMIT (chunk k.current (is_some (or_long None b)) ∷ k.closed) ≡ false
    of true e = stopped_first QUIET_LIMIT (chunk k.current true) k.closed (omega arith) refl
    of false e = e

abbrev ClosedAreShort : Packing → List Item → Item → Type 0
ClosedAreShort k done before = NoneLong k.closed

short_kept : IsKeptEach ClosedAreShort
short_kept = record {
  joining = λ k done before item cause e none. none;
  beginning = λ k done before item cause none. (closed_by k cause, none);
}

pub closed_short : (s : Loose) (k : Packing) → IsPack s k → NoneLong k.closed
closed_short s k pack = (kept_of s ClosedAreShort (kept_each s ClosedAreShort short_kept) (λ item. tt) s.items k pack).1

-- In the order of the text.
slice_get-reverse : {X : Type 0} (xs : List X) (i j : ℕ) (x : X) → slice_get xs j ≡ Some x → i + j + 1 ≡ length xs
    → slice_get (reverse xs) i ≡ Some x
slice_get-reverse xs i j x there sum =
    let less = slice_get_within xs j x there in
    slice_get-get_or (reverse xs) i x (omega (arith, length-reverse xs))
    ∙ ap Some (get_or-reverse xs i x (omega arith) ∙ ap (λ (n : ℕ). get_or xs n x) (let same : length xs - 1 - i ≡ j = omega arith in same)
    ∙ get_or_from_slice_get xs j x x there)

at_reversed : (closed : List Chunk) (last : Chunk) (i j : ℕ) (c : Chunk) → slice_get closed j ≡ Some c → i + j + 1 ≡ length closed
    → slice_get (reverse (last ∷ closed)) i ≡ Some c
at_reversed closed last i j c there sum =
    ap (λ (l : List Chunk). slice_get l i) (reverse_more last closed)
    ∙ slice_get-append_left (reverse closed) (last ∷ []) i (omega (arith, length-reverse closed))
    ∙ slice_get-reverse closed i j c there sum

-- The numbers of bundles from the one on to the other.
record IsLoudIn (cs : List Chunk) (from count : ℕ) : Type 0 where
  number : ℕ
  above : from ≤ number
  below : number < from + count
  loud : IsSomeAnd (slice_get cs number) (λ c. is_quiet c ≡ false)

loud_in : (closed : List Chunk) (last : Chunk) (i far count : ℕ) → HasLoud count (drop far closed) → far + (i + count) ≡ length closed
    → IsLoudIn (reverse (last ∷ closed)) i count
loud_in closed last i far count has sum =
    let less = has.below in
    record {
      number = i + count - 1 - has.back;
      above = omega arith;
      below = omega arith;
      loud = subst (λ (o : Option Chunk). IsSomeAnd o (λ c. is_quiet c ≡ false))
          (sym (at_reversed closed last (i + count - 1 - has.back) (far + has.back) has.chunk
          (sym (slice_get-drop far closed has.back) ∙ has.there) (omega arith))) has.loud;
    }

-- Each stretch of n closed bundles has one that wants a stop.
pub loud_between : (closed : List Chunk) (last : Chunk) (i : ℕ) → NoneLong closed → i + QUIET_LIMIT < length (reverse (last ∷ closed))
    → (k : ℕ) × (i ≤ k) × (k < i + QUIET_LIMIT) × IsSomeAnd (slice_get (reverse (last ∷ closed)) k) (λ c. is_quiet c ≡ false)
loud_between closed last i none inside =
    let room : i + QUIET_LIMIT ≤ length closed = omega (arith, length-reverse (last ∷ closed)) in
    let far : ℕ = length closed - (i + QUIET_LIMIT) in
    let loud =
    has_loud QUIET_LIMIT (drop far closed) (none_long_from far closed none (omega arith)) (omega (arith, length-drop far closed)) in
    let found = loud_in closed last i far QUIET_LIMIT loud (omega arith) in (found.number, found.above, found.below, found.loud)
