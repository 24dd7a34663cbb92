-- The plain packing, with one instruction more.
use Rattle.std.proofs.Common.{◌≡◌, ◌⊎◌, ◌∙◌, refl, sym, ap, subst, inl, inr, ℕ, ◌+◌, ◌*◌, ◌<◌, ◌≤◌, Bool, true, false, not, ◌&&◌, List, [], ◌∷◌, ◌++◌, length, Option, Some, None, arith, append_assoc, append-nil}
use Rattle.std.specs.Prelude.{is_some, if◌then◌else◌}
use Rattle.std.proofs.lemmas.Bool.{cases_lt}
use Rattle.std.proofs.lemmas.List.{length-append, length_push}
use Rattle.ia_program.specs.declared.limits.TheConstants.{BUNDLE_LIMIT}
use Rattle.ia_meaning.specs.Landings.{is_call}
use Rattle.slot_layouts.specs.declared.layout.Wanted.{Wanted}
use Rattle.slot_layouts.specs.Layouts.{laid_out}
use Rattle.slot_layouts.proofs.FirstLayouts.{too_long}
use Rattle.loose_items.specs.declared.item.Item.{Item}
use Rattle.loose_items.specs.declared.packing.Held.{Held}
use Rattle.loose_items.specs.declared.packing.Held.TheVariants.{One, Two, Three}
use Rattle.loose_items.specs.declared.packing.PlainPacking.{PlainPacking}
use Rattle.loose_items.specs.Packings.{wanted_as, joins, plain_on, plain_of}
use Rattle.loose_items.specs.PlainPackings.{held, IsPacked, ArePacked}

-- Three leave no room.
none_with : (a b c : Wanted) (cs : List Wanted) (w : Wanted) → laid_out (a ∷ b ∷ c ∷ (cs ++ w ∷ [])) false ≡ None
none_with a b c [] w = too_long a b c w [] false
none_with a b c (d ∷ ds) w = too_long a b c d (ds ++ w ∷ []) false

never : (p q : Bool) → (p && (q && false)) ≡ false
never true true = refl
never true false = refl
never false q = refl

pub full_joins_none : (current : List Wanted) (before item : Item) (gap : Bool) → 3 ≤ length current → joins current before item gap ≡ false
full_joins_none [] before item gap full = absurd (omega (arith, full))
full_joins_none (a ∷ []) before item gap full = absurd (omega (arith, full))
full_joins_none (a ∷ b ∷ []) before item gap full = absurd (omega (arith, full))
full_joins_none (a ∷ b ∷ c ∷ cs) before item gap full =
    ap (λ o. not item.breaks && (not (is_call before.insn.op) && is_some o)) (none_with a b c cs (wanted_as item gap))
    ∙ never (not item.breaks) (not (is_call before.insn.op))

pub three_join_none : (h : Held) (a b c : Wanted) (before item : Item) (gap : Bool) → h ≡ Three a b c
    → joins (held h) before item gap ≡ false
three_join_none h a b c before item gap is = rw is (full_joins_none (a ∷ b ∷ c ∷ []) before item gap (omega arith))

-- One instruction alone.
pub one_packed : (item : Item) → IsPacked (item ∷ []) (wanted_as item false ∷ []) item 1
one_packed item = record { closed = []; count = omega arith; few = omega arith; rest = λ more. refl }

-- The packing of items and one more, by whether the one more joins the last bundle.
next_if : (b c : Bool) (items more : List Item) (item : Item) (closed joined begun : List (List Wanted)) → b ≡ c
    → plain_of (items ++ item ∷ more) ≡ closed ++ (if b then joined else begun)
    → plain_of ((items ++ item ∷ []) ++ more) ≡ closed ++ (if c then joined else begun)
next_if b c items more item closed joined begun is h =
    ap plain_of (append_assoc items (item ∷ []) more) ∙ h ∙ ap (λ x. closed ++ (if x then joined else begun)) is

pub joined_packed : (items : List Item) (current : List Wanted) (before item : Item) (bundles : ℕ) → IsPacked items current before bundles
    → joins current before item false ≡ true
    → IsPacked (items ++ item ∷ []) (current ++ wanted_as item false ∷ []) item bundles
joined_packed items current before item bundles h is =
    let long : length (items ++ item ∷ []) ≡ length items + 1 = length-append items (item ∷ []) in
    let held : length (current ++ wanted_as item false ∷ []) ≡ length current + 1 = length-append current (wanted_as item false ∷ []) in
    record {
      closed = h.closed;
      count = h.count;
      few = omega (arith, h.few, long, held);
      rest =
          λ more. next_if (joins current before item false) true items more item h.closed
          (plain_on (current ++ wanted_as item false ∷ []) item more)
          (current ∷ plain_on (wanted_as item false ∷ []) item more) is (h.rest (item ∷ more));
    }

-- One item more is packed where it begins the next bundle.
pub begun_packed : (items : List Item) (current : List Wanted) (before item : Item) (bundles : ℕ) → length current ≤ 3
    → IsPacked items current before bundles → joins current before item false ≡ false
    → IsPacked (items ++ item ∷ []) (wanted_as item false ∷ []) item (bundles + 1)
begun_packed items current before item bundles full h is =
    let long : length (items ++ item ∷ []) ≡ length items + 1 = length-append items (item ∷ []) in
    let one : length (h.closed ++ current ∷ []) ≡ length h.closed + 1 = length-append h.closed (current ∷ []) in
    record {
      closed = h.closed ++ current ∷ [];
      count = omega (arith, h.count, one);
      few = omega (arith, h.few, long, one, full);
      rest =
          λ more. next_if (joins current before item false) false items more item h.closed
          (plain_on (current ++ wanted_as item false ∷ []) item more)
          (current ∷ plain_on (wanted_as item false ∷ []) item more) is (h.rest (item ∷ more))
          ∙ sym (append_assoc h.closed (current ∷ []) (plain_on (wanted_as item false ∷ []) item more));
    }

-- A bundle holds three at most.
pub held_few : (h : Held) → length (held h) ≤ 3
held_few (One a) = omega arith
held_few (Two a b) = omega arith
held_few (Three a b c) = omega arith

-- How many bundles there are.
pub packed_count : (items : List Item) (current : List Wanted) (before : Item) (bundles : ℕ) → IsPacked items current before bundles
    → length (plain_of items) ≡ bundles
packed_count items current before bundles h =
    let all : plain_of items ≡ h.closed ++ current ∷ [] = ap plain_of (sym (append-nil items)) ∙ h.rest [] in
    ap length all ∙ length-append h.closed (current ∷ []) ∙ h.count

pub packed_few : (items : List Item) (current : List Wanted) (before : Item) (bundles : ℕ) → IsPacked items current before bundles
    → length current ≤ 3 → length items ≤ 3 * bundles
packed_few items current before bundles h full = omega (arith, h.count, h.few, full)

pub are_few : (items : List Item) (p : Option PlainPacking) → ArePacked items p → length items ≤ 3 * BUNDLE_LIMIT
are_few items None h = rw h (omega arith)
are_few items (Some p) h = omega (arith, packed_few items (held p.held) p.before p.bundles h.0 (held_few p.held), h.1)

pub are_within : (items : List Item) (p : Option PlainPacking) → ArePacked items p → length (plain_of items) ≤ BUNDLE_LIMIT
are_within items None h = rw h (omega arith)
are_within items (Some p) h = omega (arith, packed_count items (held p.held) p.before p.bundles h.0, h.1)

-- The numbers of lines change nothing of the plain packing.
abbrev pub on_line : ℕ → Item → Item
on_line k item = record { line = k; insn = item.insn; breaks = item.breaks; written = item.written }

other_line_on : (current : List Wanted) (before : Item) (items : List Item) (item : Item) (k : ℕ)
    → plain_on current before (items ++ item ∷ []) ≡ plain_on current before (items ++ on_line k item ∷ [])
other_line_on current before [] item k = refl
other_line_on current before (i ∷ is) item k =
    ap (λ x. if joins current before i false then x else current ∷ plain_on (wanted_as i false ∷ []) i (is ++ item ∷ []))
    (other_line_on (current ++ wanted_as i false ∷ []) i is item k)
    ∙ ap (λ x. if joins current before i false then plain_on (current ++ wanted_as i false ∷ []) i
    (is ++ on_line k item ∷ []) else current ∷ x) (other_line_on (wanted_as i false ∷ []) i is item k)

pub other_line : (items : List Item) (item : Item) (k : ℕ) → plain_of (items ++ item ∷ []) ≡ plain_of (items ++ on_line k item ∷ [])
other_line [] item k = refl
other_line (i ∷ is) item k = other_line_on (wanted_as i false ∷ []) i is item k

-- Room for one instruction more.
pub no_room : (items : List Item) (item : Item) (p : PlainPacking) → IsPacked (items ++ item ∷ []) (held p.held) p.before p.bundles
    → BUNDLE_LIMIT < p.bundles → ¬ (length (plain_of (items ++ item ∷ [])) ≤ BUNDLE_LIMIT)
no_room items item p h over room = omega (arith, packed_count (items ++ item ∷ []) (held p.held) p.before p.bundles h, over, room)

pub has_room : (items : List Item) (item : Item) (p : PlainPacking) → IsPacked (items ++ item ∷ []) (held p.held) p.before p.bundles
    → p.bundles ≤ BUNDLE_LIMIT → (length (plain_of (items ++ item ∷ [])) ≤ BUNDLE_LIMIT) × ArePacked (items ++ item ∷ []) (Some p)
has_room items item p h few = (omega (arith, packed_count (items ++ item ∷ []) (held p.held) p.before p.bundles h, few), (h, few))

-- Items have a packing, of which each bundle holds three at most.
record HasPacked (items : List Item) : Type 0 where
  current : List Wanted
  before : Item
  bundles : ℕ
  few : length current ≤ 3
  is : IsPacked items current before bundles

packed_on : (done : List Item) (items : List Item) → HasPacked done → HasPacked (done ++ items)
packed_on done [] h = subst HasPacked (sym (append-nil done)) h
packed_on done (item ∷ items) h =
    subst HasPacked (append_assoc done (item ∷ []) items) (packed_on (done ++ item ∷ []) items
    (of (joins h.current h.before item false) refl (cases_lt (length h.current) 3)))
  where
    of : (b : Bool) → joins h.current h.before item false ≡ b → (length h.current < 3) ⊎ (3 ≤ length h.current)
        → HasPacked (done ++ item ∷ [])
    of true e (inl less) = record {
      current = h.current ++ wanted_as item false ∷ [];
      before = item;
      bundles = h.bundles;
      few = omega (arith, length_push h.current (wanted_as item false));
      is = joined_packed done h.current h.before item h.bundles h.is e;
    }
    of true e (inr full) = let none = full_joins_none h.current h.before item false full in absurd cc
    of false e _ = record {
      current = wanted_as item false ∷ [];
      before = item;
      bundles = h.bundles + 1;
      few = omega arith;
      is = begun_packed done h.current h.before item h.bundles h.few h.is e;
    }

-- There are at most three times as many items as bundles.
pub items_few : (items : List Item) → length items ≤ 3 * length (plain_of items)
items_few [] = omega arith
items_few (item ∷ items) =
    let packed =
    packed_on (item ∷ []) items (record {
      current = wanted_as item false ∷ [];
      before = item;
      bundles = 1;
      few = omega arith;
      is = one_packed item;
    }) in
    let count = packed_count (item ∷ items) packed.current packed.before packed.bundles packed.is in
    omega (arith, packed_few (item ∷ items) packed.current packed.before packed.bundles packed.is packed.few, count)
