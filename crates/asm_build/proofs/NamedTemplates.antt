-- The template of a name and its stops, and the name of each template.
use Rattle.std.proofs.Common.{◌≡◌, ◌≢◌, ◌∙◌, ℕ, zero, suc, ◌/◌, ◌%◌, ◌<◌, Bool, true, false, cond, ◌==◌, List, [], ◌∷◌, ◌++◌, map, Option, Some, None, refl, sym, ap, subst, inl, inr, arith}
use Rattle.std.specs.Prelude.{is_some, find, slice_index_or, unwrap_or, if◌then◌else◌, MatchOption}
use Rattle.std.specs.Bool.{Decides}
use Rattle.std.proofs.lemmas.Bool.Decides.{Decides-and}
use Rattle.std.proofs.lemmas.Slice.Eq.{bytes_eq-Decides}
use Rattle.ia_insn.specs.declared.choices.Unit.{Unit as ExecutionUnit}
use Rattle.ia_insn.specs.declared.choices.Unit.TheVariants.{M, I, F, B, L, X}
use Rattle.ia_program.specs.declared.bundle.Slots.{Slots}
use Rattle.ia_program.specs.Bundles.{FitUnits}
use Rattle.ia_program.specs.Templates.{Shape, no_shape, shape_of, IsTemplate, units_of, stops_of, StopsAs, HasShape}
use Rattle.ia_program.proofs.TemplateCodes.{one_template, code_small}
use Rattle.ia_program.proofs.Tests.{last_or_below}
use Rattle.asm_reading.specs.declared.line.TemplateName.{TemplateName}
use Rattle.asm_reading.specs.declared.line.TemplateName.TheVariants as template_name
use Rattle.asm_build.specs.CanonicalText.{has_stop, is_among, unit_letter}
use Rattle.asm_build.specs.Drafts.{IsShort}
use Rattle.asm_build.specs.TemplateNames.{units_named, marked_slots, is_shaped, below, template_of}
use Rattle.asm_build.proofs.Marking.{among_from, among_to, same_test}

-- Units are those of their letters.
abbrev lettered : ℕ → ExecutionUnit
lettered n = if n == 109 then M else if n == 105 then I else if n == 102 then F else if n == 98 then B else if n == 108 then L else X

one_back : (u : ExecutionUnit) → lettered (unit_letter u) ≡ u
one_back M = refl
one_back I = refl
one_back F = refl
one_back B = refl
one_back L = refl
one_back X = refl

all_back : (us : List ExecutionUnit) → map lettered (map unit_letter us) ≡ us
all_back [] = refl
all_back (u ∷ us) = rw (one_back u, all_back us) refl

letters_tell : (us vs : List ExecutionUnit) → map unit_letter us ≡ map unit_letter vs → us ≡ vs
letters_tell us vs e = sym (all_back us) ∙ ap (map lettered) e ∙ all_back vs

-- What the test of a template says.
shape_test : (units : List ExecutionUnit) (stops : List ℕ) (code : ℕ)
    → Decides (is_shaped units stops code) ((units_of code ≡ units) × (stops_of code ≡ stops))
shape_test units stops code =
    let letters = bytes_eq-Decides (map unit_letter (units_of code)) (map unit_letter units) in
    Decides-and _ _ (λ h. letters_tell (units_of code) units (letters.0 h), λ e. letters.1 (ap (map unit_letter) e))
    (bytes_eq-Decides (stops_of code) stops)

-- What is found below a number.
abbrev IsFoundBelow : (ℕ → Bool) → ℕ → Option ℕ → Type 0
IsFoundBelow p n found = MatchOption found ((code : ℕ) → code < n → p code ≡ true → ⊥) (λ code. p code ≡ true)

one_more : (p : ℕ → Bool) (n : ℕ) (found : Option ℕ) (b : Bool) → p n ≡ b → IsFoundBelow p n found
    → IsFoundBelow p (suc n) (cond b (Some n) found)
one_more p n found true is h = is
one_more p n (Some code) false is h = h
one_more p n None false is h =
    λ code less passes. elim (last_or_below code n less) as (λ _. ⊥) [ inl e ↦ absurd cc | inr before ↦ h code before passes ]

found_below : (p : ℕ → Bool) (n : ℕ) → IsFoundBelow p n (find p (below n))
found_below p zero = λ code less passes. omega arith
found_below p (suc n) = one_more p n (find p (below n)) (p n) refl (found_below p n)

-- A code with the units of a name is that of a template.
no_units : (s : TemplateName) → [] ≡ units_named s → ⊥
no_units template_name.Mlx e = cc
no_units s e = cc

some_shape : (s : TemplateName) (o : Option Shape) → (unwrap_or o no_shape).units ≡ units_named s → is_some o ≡ true
some_shape s None e = absurd (no_units s e)
some_shape s (Some t) e = refl

is_named : (s : TemplateName) (code : ℕ) → units_of code ≡ units_named s → IsTemplate code
is_named s code e = some_shape s (shape_of (code / 2)) e

-- The template has the units of a name, and these stops.
pub record IsTemplateOf (s : TemplateName) (a b c : Bool) (code : ℕ) : Type 0 where
  pub units : units_of code ≡ units_named s
  pub stops : stops_of code ≡ marked_slots a b c

one_template_of : (s : TemplateName) (a b c : Bool) (x y : ℕ) → IsTemplateOf s a b c x → IsTemplateOf s a b c y → x ≡ y
one_template_of s a b c x y h k =
    let first : IsTemplate x = is_named s x h.units in
    let second : IsTemplate y = is_named s y k.units in
    one_template x y (code_small x first) (code_small y second) first second (h.units ∙ sym k.units) (h.stops ∙ sym k.stops)

abbrev IsTheTemplate : TemplateName → Bool → Bool → Bool → Option ℕ → Type 0
IsTheTemplate s a b c found = MatchOption found ((code : ℕ) → IsTemplateOf s a b c code → ⊥) (IsTemplateOf s a b c)

found_template : (s : TemplateName) (a b c : Bool) (found : Option ℕ)
    → IsFoundBelow (is_shaped (units_named s) (marked_slots a b c)) 32 found → IsTheTemplate s a b c found
found_template s a b c (Some code) passes =
    let has = (shape_test (units_named s) (marked_slots a b c) code).0 passes in record { units = has.0; stops = has.1 }
found_template s a b c None none =
    λ code h. none code (code_small code (is_named s code h.units))
    ((shape_test (units_named s) (marked_slots a b c) code).1 (h.units, h.stops))

the_template : (s : TemplateName) (a b c : Bool) → IsTheTemplate s a b c (template_of s a b c)
unfolding template_of
the_template s a b c = found_template s a b c _ (found_below (is_shaped (units_named s) (marked_slots a b c)) 32)

-- There is one template, or none.
same_template : (s : TemplateName) (a b c : Bool) (o q : Option ℕ) → IsTheTemplate s a b c o → IsTheTemplate s a b c q → o ≡ q
same_template s a b c None None h k = refl
same_template s a b c None (Some y) h k = absurd (h y k)
same_template s a b c (Some x) None h k = absurd (k x h)
same_template s a b c (Some x) (Some y) h k = ap Some (one_template_of s a b c x y h k)

template_is : (s : TemplateName) (a b c : Bool) (code : ℕ) → IsTemplateOf s a b c code → template_of s a b c ≡ Some code
template_is s a b c code h = same_template s a b c (template_of s a b c) (Some code) (the_template s a b c) h

-- The template of a name and its stops has its units.
pub units_are : (s : TemplateName) (a b c : Bool) (code : ℕ) → template_of s a b c ≡ Some code → units_of code ≡ units_named s
units_are s a b c code e = let has : IsTheTemplate s a b c (Some code) = subst (IsTheTemplate s a b c) e (the_template s a b c) in has.units

-- The template of a long instruction has no stop before its last slot.
abbrev pub HasLongStops : TemplateName → Bool → Bool → Type 0
HasLongStops template_name.Mlx first second = (first ≡ false) × (second ≡ false)
HasLongStops s first second = Unit {0}

-- What two codes share has a name.
record HasNameAs (t : Shape) : Type 0 where
  pub name : TemplateName
  pub first : Bool
  pub second : Bool
  pub units : t.units ≡ units_named name
  pub inner : t.inner ≡ marked_slots first second false
  pub long : HasLongStops name first second

record IsNamed (o : Option Shape) : Type 0 where
  pub named : is_some o ≡ true → HasNameAs (unwrap_or o no_shape)

reserved : IsNamed None
reserved = record { named = λ is. absurd cc }

row : (s : TemplateName) (a b here : Bool) (other : Option Shape) → HasLongStops s a b → IsNamed other
    → IsNamed (if here then Some (record { units = units_named s; inner = marked_slots a b false }) else other)
row s a b true other long h = record { named = λ is. record { name = s; first = a; second = b; units = refl; inner = refl; long = long } }
row s a b false other long h = h

each_named : (pair : ℕ) → IsNamed (shape_of pair)
each_named pair =
    row template_name.Mii false false (pair == 0x00) _ tt
    (row template_name.Mii false true (pair == 0x01) _ tt
    (row template_name.Mlx false false (pair == 0x02) _ (refl, refl)
    (row template_name.Mmi false false (pair == 0x04) _ tt
    (row template_name.Mmi true false (pair == 0x05) _ tt
    (row template_name.Mfi false false (pair == 0x06) _ tt
    (row template_name.Mmf false false (pair == 0x07) _ tt
    (row template_name.Mib false false (pair == 0x08) _ tt
    (row template_name.Mbb false false (pair == 0x09) _ tt
    (row template_name.Bbb false false (pair == 0x0b) _ tt
    (row template_name.Mmb false false (pair == 0x0c) _ tt
    (row template_name.Mfb false false (pair == 0x0e) _ tt reserved)))))))))))

marked_last : (a b last : Bool) → marked_slots a b false ++ (if last then 2 ∷ [] else []) ≡ marked_slots a b last
marked_last true true last = refl
marked_last true false last = refl
marked_last false true last = refl
marked_last false false last = refl

marked_at : (a b c : Bool) → (is_among (marked_slots a b c) 0 ≡ a) × (is_among (marked_slots a b c) 1 ≡ b)
    × (is_among (marked_slots a b c) 2 ≡ c)
marked_at true true true = (refl, refl, refl)
marked_at true true false = (refl, refl, refl)
marked_at true false true = (refl, refl, refl)
marked_at true false false = (refl, refl, refl)
marked_at false true true = (refl, refl, refl)
marked_at false true false = (refl, refl, refl)
marked_at false false true = (refl, refl, refl)
marked_at false false false = (refl, refl, refl)

-- A template has a stop after the slots that are marked.
record HasStops (a b c : Bool) (code : ℕ) : Type 0 where
  pub first : has_stop code 0 ≡ a
  pub second : has_stop code 1 ≡ b
  pub third : has_stop code 2 ≡ c

has_stops : (a b c : Bool) (code : ℕ) → stops_of code ≡ marked_slots a b c → HasStops a b c code
has_stops a b c code e =
    let at = marked_at a b c in
    record {
      first = ap (λ xs. is_among xs 0) e ∙ at.0;
      second = ap (λ xs. is_among xs 1) e ∙ at.1;
      third = ap (λ xs. is_among xs 2) e ∙ at.2;
    }

-- The code is that of the template with this name and its stops.
pub record IsNamedBy (s : TemplateName) (code : ℕ) : Type 0 where
  pub units : units_of code ≡ units_named s
  pub stops : stops_of code ≡ marked_slots (has_stop code 0) (has_stop code 1) (has_stop code 2)
  pub long : HasLongStops s (has_stop code 0) (has_stop code 1)

abbrev pub HasName : ℕ → Type 0
HasName code = (s : TemplateName) × IsNamedBy s code

template_named : (code : ℕ) → IsTemplate code → HasName code
template_named code is =
    let named = (each_named (code / 2)).named is in
    let last = code % 2 == 1 in
    let stops : stops_of code ≡ marked_slots named.first named.second last =
    ap (λ inner. inner ++ (if last then 2 ∷ [] else [])) named.inner ∙ marked_last named.first named.second last in
    let has = has_stops named.first named.second last code stops in (
      named.name,
      record {
        units = named.units;
        stops = stops ∙ rw (has.first, has.second, has.third) refl;
        long = rw (has.first, has.second) named.long;
      },
    )

-- What fits the units of a code fits those of a template.
some_fit : (o : Option Shape) (slots : Slots) → FitUnits (unwrap_or o no_shape).units slots → is_some o ≡ true
some_fit None slots fit = absurd fit
some_fit (Some t) slots fit = refl

-- The template of a bundle has a name.
pub has_name : (code : ℕ) (slots : Slots) → FitUnits (units_of code) slots → HasName code
has_name code slots fit = template_named code (some_fit (shape_of (code / 2)) slots fit)

-- The template of a bundle is the one of its name and its stops.
pub same_named : (s : TemplateName) (code : ℕ) → IsNamedBy s code
    → template_of s (has_stop code 0) (has_stop code 1) (has_stop code 2) ≡ Some code
same_named s code named = template_is s _ _ _ code (record { units = named.units; stops = named.stops })

stop_test : (code slot : ℕ) (marked : Bool) → StopsAs code slot marked → has_stop code slot ≡ marked
stop_test code slot marked h = sym (same_test marked (stops_of code) slot (h.both.1, h.both.0))

stops_as : (code slot : ℕ) (marked : Bool) → has_stop code slot ≡ marked → StopsAs code slot marked
stops_as code slot marked e =
    record { both = (λ is. sym e ∙ among_from (stops_of code) slot is, λ is. among_to (stops_of code) slot (e ∙ is)) }

has_shape : (s : TemplateName) (a b c : Bool) (code : ℕ) → IsTemplateOf s a b c code → HasShape code (units_named s) (a ∷ b ∷ c ∷ [])
has_shape s a b c code is =
    let has = has_stops a b c code is.stops in
    record {
      same = is.units;
      first = stops_as code 0 a has.first;
      second = stops_as code 1 b has.second;
      third = stops_as code 2 c has.third;
    }

-- What has the shape of a name and marks is the template of the name and these stops.
pub template_found : (s : TemplateName) (a b c : Bool) (found : Option ℕ)
    → MatchOption found ((code : ℕ) → IsTemplate code → HasShape code (units_named s) (a ∷ b ∷ c ∷ []) → ⊥)
    (λ code. HasShape code (units_named s) (a ∷ b ∷ c ∷ []))
    → found ≡ template_of s a b c
template_found s a b c None h =
    same_template s a b c None (template_of s a b c) (λ code is. h code (is_named s code is.units) (has_shape s a b c code is))
    (the_template s a b c)
template_found s a b c (Some code) h =
    let named = template_named code (is_named s code h.same) in
    let stops : stops_of code ≡ marked_slots a b c =
    named.1.stops ∙ rw (stop_test code 0 a h.first, stop_test code 1 b h.second, stop_test code 2 c h.third) refl in
    sym (template_is s a b c code (record { units = h.same; stops = stops }))

-- A template whose second unit isn't L is short.
pub short_of : (s : TemplateName) (u v w : ExecutionUnit) → units_named s ≡ u ∷ v ∷ w ∷ [] → v ≢ L → IsShort s
short_of template_name.Mlx u v w e other = absurd (other (sym (ap (λ us. slice_index_or us 1 L) e)))
short_of s u v w e other = tt

second_unit : (s : TemplateName) (u v w : ExecutionUnit) → units_named s ≡ u ∷ v ∷ w ∷ [] → slice_index_or (units_named s) 1 L ≡ v
second_unit s u v w e = ap (λ us. slice_index_or us 1 L) e

-- A template whose second unit is L is that of long instructions.
pub long_of : (s : TemplateName) (u v w : ExecutionUnit) → units_named s ≡ u ∷ v ∷ w ∷ [] → v ≡ L → s ≡ template_name.Mlx
long_of s u v w e is = by s (second_unit s u v w e ∙ is)
  where
    by : (s : TemplateName) → slice_index_or (units_named s) 1 L ≡ L → s ≡ template_name.Mlx
    by template_name.Mlx h = refl
    by s h = absurd cc
