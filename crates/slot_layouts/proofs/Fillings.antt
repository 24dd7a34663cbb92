-- What the bundle of a template holds that is filled by instructions in given slots.
use Rattle.std.proofs.Common.{arith, ◌≡◌, ℕ, zero, suc, ◌<◌, ◌≤◌, inr, refl, sym, subst, Bool, true, false, ◌&&◌, ◌||◌, eqb, is_none, ◌/◌, List, [], ◌∷◌, Option, Some, None, slice_get, lit<, if◌then◌else◌, IsSome}
use Rattle.std.specs.Prelude.{◌≢◌}
use Rattle.std.proofs.lemmas.Bool.{eqb-true, eq-eqb, ltb-true}
use Rattle.std.proofs.lemmas.Option.{same_Some}
use Rattle.ia_insn.specs.declared.insn.Insn.{Insn}
use Rattle.ia_insn.specs.declared.choices.Unit.{Unit as ExecutionUnit}
use Rattle.ia_insn.specs.declared.choices.Unit.TheVariants as units
use Rattle.insn_rows.specs.Rows.{listed}
use Rattle.formats_i.specs.Listed.{rows as rows_i}
use Rattle.formats_i.proofs.Words.{of_row_i}
use Rattle.formats_m.specs.Listed.{rows as rows_m}
use Rattle.formats_m.proofs.Words.{of_row_m}
use Rattle.formats_b.specs.ListedB.{rows as rows_b}
use Rattle.formats_b.proofs.WordsB.{of_row_b}
use Rattle.formats_b.specs.ListedF.{rows as rows_f}
use Rattle.formats_b.proofs.WordsF.{of_row_f}
use Rattle.formats_b.specs.ListedX.{rows as rows_x}
use Rattle.formats_b.proofs.WordsX.{of_row_x}
use Rattle.ia_program.specs.Templates.{IsTemplate, Shape, shape_of, units_of}
use Rattle.ia_program.specs.Fits.{Fits}
use Rattle.ia_program.specs.Bundles.{IsBundle, FitUnits, slot_insn, last_slot}
use Rattle.ia_program.proofs.TemplateCodes.{code_small}
use Rattle.ia_program.proofs.Tests.{left, right, all_below, below}
use Rattle.ia_meaning.specs.Sequence.{stops_after}
use Rattle.slot_layouts.specs.declared.layout.Wanted.{Wanted}
use Rattle.slot_layouts.specs.Classes.{has_place}
use Rattle.slot_layouts.specs.Layouts.{fits_slot, all_fit, are_rising, is_layout}
use Rattle.slot_layouts.specs.Filled.{nop_of, slot_content, contents, filled, AreOf}
use Rattle.slot_layouts.specs.Laws.{has_stop}
use Rattle.slot_layouts.proofs.Facts.{blank, last_place, is_narrow, is_shape}
use Rattle.slot_layouts.proofs.Families.{place_fits}
use Rattle.slot_layouts.proofs.FirstLayouts.{is_template}

-- The instructions change neither which places there are nor where the stops are.
stops_of_contents : (code slot : ℕ) (us : List ExecutionUnit) (ks : List ℕ) (is : List Insn)
    → stops_after code (contents us ks is) slot ≡ stops_after code (contents us [] []) slot
stops_of_contents code slot [] ks is = refl
stops_of_contents code slot (u ∷ []) ks is = refl
stops_of_contents code slot (u ∷ units.L ∷ []) ks is = refl
stops_of_contents code slot (u ∷ v ∷ []) ks is = refl
stops_of_contents code slot (u ∷ units.L ∷ w ∷ []) ks is = refl
stops_of_contents code slot (u ∷ v ∷ w ∷ []) ks is = refl
stops_of_contents code slot (u ∷ units.L ∷ w ∷ x ∷ us) ks is = refl
stops_of_contents code slot (u ∷ v ∷ w ∷ x ∷ us) ks is = refl

pub has_stop-filled : (code slot : ℕ) (ks : List ℕ) (is : List Insn) → has_stop (filled code ks is) slot ≡ has_stop (blank code) slot
has_stop-filled code slot ks is = stops_of_contents code slot (units_of code) ks is

last_of_contents : (us : List ExecutionUnit) (ks : List ℕ) (is : List Insn) → last_slot (contents us ks is) ≡ last_slot (contents us [] [])
last_of_contents [] ks is = refl
last_of_contents (u ∷ []) ks is = refl
last_of_contents (u ∷ units.L ∷ []) ks is = refl
last_of_contents (u ∷ v ∷ []) ks is = refl
last_of_contents (u ∷ units.L ∷ w ∷ []) ks is = refl
last_of_contents (u ∷ v ∷ w ∷ []) ks is = refl
last_of_contents (u ∷ units.L ∷ w ∷ x ∷ us) ks is = refl
last_of_contents (u ∷ v ∷ w ∷ x ∷ us) ks is = refl

pub last_slot-filled : (code : ℕ) (ks : List ℕ) (is : List Insn) → last_slot (filled code ks is).slots ≡ last_place code
last_slot-filled code ks is = last_of_contents (units_of code) ks is

-- Up to its last place a bundle holds in each slot what is put there for its unit.
pub record IsPut (us : List ExecutionUnit) (ks : List ℕ) (is : List Insn) (slot : ℕ) : Type 0 where
  pub unit : ExecutionUnit
  pub at : slice_get us slot ≡ Some unit
  pub here : slot_insn (contents us ks is) slot ≡ Some (slot_content slot unit ks is)

pub put_at : (us : List ExecutionUnit) (ks : List ℕ) (is : List Insn) (slot : ℕ) → is_shape us ≡ true → slot ≤ last_slot (contents us [] [])
    → IsPut us ks is slot
put_at [] ks is slot shape less = absurd (cc)
put_at (u ∷ []) ks is slot shape less = absurd (cc)
put_at (u ∷ units.L ∷ []) ks is slot shape less = absurd (cc)
put_at (u ∷ v ∷ []) ks is slot shape less = absurd (cc)
put_at (u ∷ units.L ∷ w ∷ []) ks is zero shape less = record { unit = u; at = refl; here = refl }
put_at (u ∷ units.L ∷ w ∷ []) ks is (suc zero) shape less = record { unit = units.L; at = refl; here = refl }
put_at (u ∷ units.L ∷ w ∷ []) ks is (suc (suc slot)) shape less = absurd (omega arith)
put_at (u ∷ v ∷ w ∷ []) ks is zero shape less = record { unit = u; at = refl; here = refl }
put_at (u ∷ v ∷ w ∷ []) ks is (suc zero) shape less = record { unit = v; at = refl; here = refl }
put_at (u ∷ v ∷ w ∷ []) ks is (suc (suc zero)) shape less = record { unit = w; at = refl; here = refl }
put_at (u ∷ v ∷ w ∷ []) ks is (suc (suc (suc slot))) shape less = absurd (omega arith)
put_at (u ∷ units.L ∷ w ∷ x ∷ us) ks is slot shape less = absurd (cc)
put_at (u ∷ v ∷ w ∷ x ∷ us) ks is slot shape less = absurd (cc)

-- Rising slots.
pub rising_pair : (k l : ℕ) (ks : List ℕ) → are_rising (k ∷ l ∷ ks) ≡ true → (k < l) × (are_rising (l ∷ ks) ≡ true)
rising_pair k l ks h = (ltb-true k l (left _ _ h), right _ _ h)

first_below_rest : (k l n : ℕ) (ks : List ℕ) → are_rising (k ∷ ks) ≡ true → slice_get ks n ≡ Some l → k < l
first_below_rest k l n [] rising at = absurd (cc)
first_below_rest k l zero (m ∷ ks) rising at =
    let one = (rising_pair k m ks rising).0 in
    let same : m ≡ l = same_Some m l at in omega arith
first_below_rest k l (suc n) (m ∷ ks) rising at =
    let one = rising_pair k m ks rising in
    let two : m < l = first_below_rest m l n ks one.1 at in
    let three = one.0 in omega arith

pub rest_rises : (k : ℕ) (ks : List ℕ) → are_rising (k ∷ ks) ≡ true → are_rising ks ≡ true
rest_rises k [] h = refl
rest_rises k (l ∷ ks) h = (rising_pair k l ks h).1

-- The slot of an instruction holds it.
pub content-listed : (u : ExecutionUnit) (n k : ℕ) (i : Insn) (ks : List ℕ) (is : List Insn) → are_rising ks ≡ true
    → slice_get ks n ≡ Some k → slice_get is n ≡ Some i
    → slot_content k u ks is ≡ i
content-listed u n k i [] is rising at there = absurd (cc)
content-listed u n k i (l ∷ ks) [] rising at there = absurd (cc)
content-listed u zero k i (l ∷ ks) (j ∷ is) rising at there =
    let e : k ≡ l = sym (same_Some l k at) in
    let f : j ≡ i = same_Some j i there in
    rw (eq-eqb k l e) f
content-listed u (suc n) k i (l ∷ ks) (j ∷ is) rising at there =
    let less : l < k = first_below_rest l k n ks rising at in
    let other : eqb k l ≡ false = grind arith in
    rw other (content-listed u n k i ks is (rest_rises l ks rising) at there)

-- The slot of none holds the nop.
pub content-other : (u : ExecutionUnit) (slot : ℕ) (ks : List ℕ) (is : List Insn) → ((n : ℕ) → slice_get ks n ≢ Some slot)
    → slot_content slot u ks is ≡ nop_of u
content-other u slot [] is none = refl
content-other u slot (k ∷ ks) [] none = refl
content-other u slot (k ∷ ks) (i ∷ is) none = of (eqb slot k) refl (content-other u slot ks is (λ n at. none (suc n) at))
  where
    of : (b : Bool) → eqb slot k ≡ b → slot_content slot u ks is ≡ nop_of u → (if b then i else slot_content slot u ks is) ≡ nop_of u
    of true same rest = absurd (none 0 (let e : slot ≡ k = eqb-true slot k same in cc))
    of false same rest = rest

-- Nops fit.
nop_fits : (u : ExecutionUnit) (k : ℕ) → k < 3 → is_narrow u ≡ true → Fits (nop_of u) u k
unfolding rows_m rows_i rows_f rows_b listed
nop_fits units.M k h narrow = record { place = h; kind = inr (of_row_m _ (grind arith)) }
nop_fits units.I k h narrow = record { place = h; kind = inr (of_row_i _ (grind arith)) }
nop_fits units.F k h narrow = record { place = h; kind = of_row_f _ (grind arith) }
nop_fits units.B k h narrow = record { place = h; kind = (of_row_b _ (grind arith), tt) }
nop_fits units.L k h narrow = absurd (cc)
nop_fits units.X k h narrow = absurd (cc)

long_nop_fits : Fits (nop_of units.L) units.L 1
unfolding rows_x listed
long_nop_fits = record { place = lit< tt; kind = (of_row_x _ (grind arith) (lit< tt), refl) }

-- What stands in a slot fits it, where the nop does.
content_fits : (us : List ExecutionUnit) (ws : List Wanted) (ks : List ℕ) (is : List Insn) (k : ℕ) (u : ExecutionUnit)
    → slice_get us k ≡ Some u → k < 3
    → all_fit us ws ks ≡ true → AreOf ws is → Fits (nop_of u) u k → Fits (slot_content k u ks is) u k
content_fits us [] [] is k u at less fit of nop = nop
content_fits us [] (l ∷ ks) is k u at less fit of nop = absurd (cc)
content_fits us (w ∷ ws) [] is k u at less fit of nop = absurd (cc)
content_fits us (w ∷ ws) (l ∷ ks) [] k u at less fit of nop = absurd of
content_fits us (w ∷ ws) (l ∷ ks) (i ∷ is) k u at less fit (listed, class, of) nop =
    chosen (eqb k l) refl (content_fits us ws ks is k u at less (right _ _ fit) of nop)
  where
    here : k ≡ l → Fits i u k
    here same =
        let one : fits_slot (slice_get us k) w.class k ≡ true =
        subst (λ l. fits_slot (slice_get us l) w.class l ≡ true) (sym same) (left _ _ fit) in
        let two : fits_slot (Some u) w.class k ≡ true = subst (λ o. fits_slot o w.class k ≡ true) at one in
        place_fits i u k less listed (subst (λ c. has_place c u k ≡ true) (sym class) two)

    chosen : (b : Bool) → eqb k l ≡ b → Fits (slot_content k u ks is) u k → Fits (if b then i else slot_content k u ks is) u k
    chosen true same rest = here (eqb-true k l same)
    chosen false same rest = rest

contents_fit : (us : List ExecutionUnit) (ws : List Wanted) (ks : List ℕ) (is : List Insn) → is_shape us ≡ true → all_fit us ws ks ≡ true
    → AreOf ws is → FitUnits us (contents us ks is)
contents_fit [] ws ks is shape fit of = absurd (cc)
contents_fit (u ∷ []) ws ks is shape fit of = absurd (cc)
contents_fit (u ∷ units.L ∷ []) ws ks is shape fit of = absurd (cc)
contents_fit (u ∷ v ∷ []) ws ks is shape fit of = absurd (cc)
contents_fit (u ∷ units.L ∷ w ∷ []) ws ks is shape fit of = (
  content_fits (u ∷ units.L ∷ w ∷ []) ws ks is 0 u refl (lit< tt) fit of (nop_fits u 0 (lit< tt) shape),
  content_fits (u ∷ units.L ∷ w ∷ []) ws ks is 1 units.L refl (lit< tt) fit of long_nop_fits,
  refl,
)
contents_fit (u ∷ v ∷ w ∷ []) ws ks is shape fit of =
    let later : (is_narrow v && is_narrow w) ≡ true = right (is_narrow u) (is_narrow v && is_narrow w) shape in (
      content_fits (u ∷ v ∷ w ∷ []) ws ks is 0 u refl (lit< tt) fit
          of (nop_fits u 0 (lit< tt) (left (is_narrow u) (is_narrow v && is_narrow w) shape)),
      content_fits (u ∷ v ∷ w ∷ []) ws ks is 1 v refl (lit< tt) fit of (nop_fits v 1 (lit< tt) (left (is_narrow v) (is_narrow w) later)),
      content_fits (u ∷ v ∷ w ∷ []) ws ks is 2 w refl (lit< tt) fit of (nop_fits w 2 (lit< tt) (right (is_narrow v) (is_narrow w) later)),
      (λ same. cc),
    )
contents_fit (u ∷ units.L ∷ w ∷ x ∷ us) ws ks is shape fit of = absurd (cc)
contents_fit (u ∷ v ∷ w ∷ x ∷ us) ws ks is shape fit of = absurd (cc)

-- The units of a template.
shapes : all_below (λ code. is_none (shape_of (code / 2)) || is_shape (units_of code)) 32 ≡ true
shapes = refl

shape_of_template : (code : ℕ) → IsTemplate code → is_shape (units_of code) ≡ true
shape_of_template code template =
    of (shape_of (code / 2)) (is_shape (units_of code)) template
    (below (λ code. is_none (shape_of (code / 2)) || is_shape (units_of code)) 32 code shapes (code_small code template))
  where
    of : (o : Option Shape) (b : Bool) → IsSome o → (is_none o || b) ≡ true → b ≡ true
    of None b some h = absurd (cc)
    of (Some shape) b some h = h

-- A template with a layout of the classes of listed instructions makes a bundle of these.
pub filled_is_bundle : (ws : List Wanted) (end : Bool) (code : ℕ) (ks : List ℕ) (is : List Insn) → is_layout code ws end ks ≡ true
    → AreOf ws is
    → IsTemplate code × IsBundle (filled code ks is)
filled_is_bundle ws end code ks is layout of =
    let fit : all_fit (units_of code) ws ks ≡ true = left _ _ layout in
    let template : IsTemplate code = is_template code ws end ks layout in
    (template, contents_fit (units_of code) ws ks is (shape_of_template code template) fit of)
