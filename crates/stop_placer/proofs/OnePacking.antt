-- A text has one packing, and that of its first items is a front of that of more.
use Rattle.std.proofs.Common.{◌≡◌, ◌≤◌, ◌<◌, ◌+◌, ◌⊎◌, inl, inr, ℕ, suc, Bool, true, false, List, [], ◌∷◌, ◌++◌, take, drop, length, refl, sym, ap, ◌∙◌, subst, append_assoc, arith}
use Rattle.std.specs.Prelude.{Option, is_some}
use Rattle.std.specs.Bool.{one_answer}
use Rattle.std.proofs.lemmas.Bool.{cases_order}
use Rattle.std.proofs.lemmas.List.{length_push, length-append, length-drop, length-take, length-reverse, take_at, take-take, take-append-drop}
use Rattle.ia_program.specs.declared.limits.TheConstants.{BUNDLE_LIMIT}
use Rattle.loose_items.specs.declared.item.Item.{Item}
use Rattle.loose_text.specs.LooseTexts.{Loose}
use Rattle.loose_items.specs.Packings.{wanted_as, joins}
use Rattle.stop_placer.specs.declared.packing.Cause.{Cause}
use Rattle.stop_placer.specs.Packings.{Packing, chunk, begun_with, first_cause, by_joining, packed_next}
use Rattle.stop_placer.specs.Packs.{GoesOnTo, IsPackOf, IsPack, IsFirstPast, ends_written, all_chunks}
use Rattle.stop_placer.proofs.Steps.{IsRight}

-- An item more makes the same packing, whichever right answer is taken.
same_next : (s : Loose) (k : Packing) (before item : Item) (pair other : Bool) → IsRight s k before pair → IsRight s k before other
    → packed_next k before item pair ≡ packed_next k before item other
same_next s k before item pair other right also =
    ap (λ (c : Option Cause). by_joining (joins k.current before item (is_some c)) k item c) (of before.written refl)
  where
    of : (w : Bool) → before.written ≡ w → first_cause before.written pair ≡ first_cause before.written other
    of false e = ap (first_cause before.written) (one_answer pair other (right e) (also e))
    of true e = ap (λ (w : Bool). first_cause w pair) e ∙ sym (ap (λ (w : Bool). first_cause w other) e)

one_on : (s : Loose) (k : Packing) (before : Item) (items : List Item) (last other : Packing) → GoesOnTo s k before items last
    → GoesOnTo s k before items other → last ≡ other
one_on s k before [] last other a b = a ∙ sym b
one_on s k before (item ∷ items) last other (pair, right, goes) (too, also, on) =
    one_on s (packed_next k before item pair) item items last other goes
    (subst (λ (n : Packing). GoesOnTo s n item items other) (sym (same_next s k before item pair too right also)) on)

-- The packing of the first n items is one.
pub one_pack : (s : Loose) (items : List Item) (k l : Packing) → IsPackOf s items k → IsPackOf s items l → k ≡ l
one_pack s [] k l a b = absurd a
one_pack s (item ∷ items) k l a b = one_on s (begun_with item) item items k l a b

-- The packing passes one of the first of the items.
record HasFront (s : Loose) (k : Packing) (before : Item) (front items : List Item) (last : Packing) : Type 0 where
  middle : Packing
  item : Item
  up : GoesOnTo s k before front middle
  rest : GoesOnTo s middle item items last

has_front : (s : Loose) (k : Packing) (before : Item) (front items : List Item) (last : Packing) → GoesOnTo s k before (front ++ items) last
    → HasFront s k before front items last
has_front s k before [] items last goes = record { middle = k; item = before; up = refl; rest = goes }
has_front s k before (item ∷ front) items last (pair, right, goes) =
    let rest = has_front s (packed_next k before item pair) item front items last goes in
    record { middle = rest.middle; item = rest.item; up = (pair, right, rest.up); rest = rest.rest }

-- With n items more no bundle is opened again, and where none is closed the current one holds them all.
pub record IsGrown (k last : Packing) (count : ℕ) : Type 0 where
  pub closed : length k.closed ≤ length last.closed
  pub current : length last.closed ≡ length k.closed → length last.current ≡ length k.current + count

grown_by : (k : Packing) (item : Item) (cause : Option Cause) (b : Bool) → IsGrown k (by_joining b k item cause) 1
grown_by k item cause true = record { closed = omega arith; current = λ e. length_push k.current (wanted_as item (is_some cause)) }
grown_by k item cause false = record { closed = omega arith; current = λ e. absurd (omega arith) }

grown_on : (s : Loose) (k : Packing) (before : Item) (items : List Item) (last : Packing) → GoesOnTo s k before items last
    → IsGrown k last (length items)
grown_on s k before [] last goes = record {
  closed = let same = ap (λ (l : Packing). length l.closed) goes in omega arith;
  current = λ e. let same = ap (λ (l : Packing). length l.current) goes in omega arith;
}
grown_on s k before (item ∷ items) last (pair, right, goes) =
    grown_twice k (packed_next k before item pair) last (length items)
    (grown_by k item (first_cause before.written pair) (joins k.current before item (is_some (first_cause before.written pair))))
    (grown_on s (packed_next k before item pair) item items last goes)
  where
    grown_twice : (k next last : Packing) (count : ℕ) → IsGrown k next 1 → IsGrown next last count → IsGrown k last (suc count)
    grown_twice k next last count one more =
        let first = one.closed in
        let second = more.closed in
        record {
          closed = omega arith;
          current = λ e.
              let here = one.current (omega arith) in
              let there = more.current (omega arith) in omega arith;
        }

-- The packing of the first items and that of more.
pub front_grown : (s : Loose) (front more : List Item) (k last : Packing) → IsPackOf s front k → IsPackOf s (front ++ more) last
    → IsGrown k last (length more)
front_grown s [] more k last a b = absurd a
front_grown s (item ∷ front) more k last a b =
    let passed = has_front s (begun_with item) item front more last b in
    subst (λ (m : Packing). IsGrown m last (length more)) (one_on s (begun_with item) item front passed.middle k passed.up a)
    (grown_on s passed.middle passed.item more last passed.rest)

-- The first items up to one that begins a bundle past the limit.
abbrev up_to : (s : Loose) (n : ℕ) → IsFirstPast s n → List Item
up_to s n past = past.before ++ past.item ∷ []

whole : (s : Loose) (n : ℕ) (past : IsFirstPast s n) → s.items ≡ up_to s n past ++ past.after
whole s n past = past.items ∙ sym (append_assoc past.before (past.item ∷ []) past.after)

up_to_is : (s : Loose) (n : ℕ) (past : IsFirstPast s n) → take (n + 1) s.items ≡ up_to s n past
up_to_is s n past =
    ap (λ (l : List Item). take (n + 1) l) (whole s n past)
    ∙ take_at (up_to s n past) past.after (n + 1) (let number = past.number in omega (arith, length_push past.before past.item))

count_is : (s : Loose) (n : ℕ) (past : IsFirstPast s n) → length s.items ≡ n + 1 + length past.after
count_is s n past =
    let number = past.number in
    ap (length {A = Item}) (whole s n past) ∙ (let sum = length-append (up_to s n past) past.after in
    omega (arith, length_push past.before past.item))

-- No later item begins one, since this one has.
none_later : (s : Loose) (n m : ℕ) → IsFirstPast s n → IsFirstPast s m → n < m → ⊥
none_later s n m a b less =
    let grown = front_grown s (up_to s n a) more a.packing b.packing a.is (subst (λ (l : List Item). IsPackOf s l b.packing) split b.is) in
    let current = grown.current (b.full ∙ sym a.full) in
    let one = a.begins in
    let other = b.begins in omega (arith, length-drop (n + 1) (take (m + 1) s.items), length-take (m + 1) s.items, count_is s m b)
  where
    more : List Item
    more = drop (n + 1) (take (m + 1) s.items)

    split : up_to s m b ≡ up_to s n a ++ more
    split =
        sym (up_to_is s m b)
        ∙ sym (take-append-drop (n + 1) (take (m + 1) s.items))
        ∙ ap (λ (l : List Item). l ++ more) (take-take (n + 1) (m + 1) s.items (omega arith) ∙ up_to_is s n a)

pub one_first_past : (s : Loose) (n m : ℕ) → IsFirstPast s n → IsFirstPast s m → n ≡ m
one_first_past s n m a b = of (cases_order n m)
  where
    of : (n ≡ m) ⊎ ((n < m) ⊎ (m < n)) → n ≡ m
    of (inl e) = e
    of (inr (inl h)) = absurd (none_later s n m a b h)
    of (inr (inr h)) = absurd (none_later s m n b a h)

-- No item begins a bundle past the limit where the whole packing is within it.
pub none_past : (s : Loose) (k : Packing) (n : ℕ) → IsPack s k → length (all_chunks s k) ≤ BUNDLE_LIMIT → IsFirstPast s n → ⊥
none_past s k n pack few past =
    let grown =
    front_grown s (up_to s n past) past.after past.packing k past.is
    (subst (λ (l : List Item). IsPackOf s l k) (whole s n past) pack) in
    let closed = grown.closed in
    let full = past.full in omega (arith, length-reverse (chunk k.current (ends_written s.items) ∷ k.closed))
