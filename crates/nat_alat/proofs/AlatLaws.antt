-- Laws of the ALAT.
use Rattle.std.proofs.Common.{◌≡◌, ℕ, ◌-◌, Bool, true, false, List, [], ◌∷◌, ◌++◌, length, drop, refl, sym, ap, ◌∙◌, length-append, length-drop, arith}
use Rattle.std.specs.Prelude.{not, ◌==◌, ◌&&◌, ◌||◌}
use Rattle.std.specs.List.{list_any}
use Rattle.std.proofs.lemmas.Bool.Decides.{nat_tests}
use Rattle.std.proofs.lemmas.List.Folds.{list_any-append}
use Rattle.std.proofs.lemmas.Map.Views.{any-filter_same}
use Rattle.ia_meaning.specs.declared.limits.TheConstants.{ALAT_LIMIT}
use Rattle.ia_meaning.specs.declared.state.Spot.{Spot}
use Rattle.ia_meaning.specs.declared.state.Spot.TheVariants.{Static, Stacked}
use Rattle.ia_meaning.specs.declared.state.AlatEntry.{AlatEntry}
use Rattle.ia_meaning.specs.Loads.{is_spot, is_apart, invalidated, entered, untouched, has_hit}
use Rattle.nat_alat.specs.Laws.{EnteredIsHit, InvalidatedIsGone, TouchedIsGone}
use Rattle.ia_meaning.proofs.AlatLists.{untouched_is_filter, invalidated_is_filter}
use Rattle.nat_alat.proofs.Entries.{is_entry, hit_is_any, entry_is_any}

number_itself : (n : ℕ) → (n == n) ≡ true
number_itself n = grind (arith, nat_tests)

spot_itself : (key : Spot) → is_spot key key ≡ true
spot_itself (Static n) = number_itself n
spot_itself (Stacked n) = number_itself n

number_other : (n k m : ℕ) → (n == m) ≡ true → not (n == k) ≡ not (k == m)
number_other n k m h = grind (arith, nat_tests)

-- A place that is the other one is this one just where this one is the other.
spot_other : (d key other : Spot) → is_spot d other ≡ true → not (is_spot d key) ≡ not (is_spot key other)
spot_other (Static n) (Static k) (Static m) h = number_other n k m h
spot_other (Stacked n) (Stacked k) (Stacked m) h = number_other n k m h
spot_other (Static n) (Stacked k) (Static m) h = refl
spot_other (Stacked n) (Static k) (Stacked m) h = refl
spot_other (Static n) key (Stacked m) h = cc
spot_other (Stacked n) key (Static m) h = cc

entry_itself : (e : AlatEntry) → is_entry e e ≡ true
entry_itself e = rw (spot_itself e.key, number_itself e.address, number_itself e.size) refl

last_is_found : (b c : Bool) → c ≡ true → (b || (c || false)) ≡ true
last_is_found true c h = refl
last_is_found false c h = rw h refl

-- Equal entries have the same bytes.
same_bytes : (d e : AlatEntry) (address size : ℕ) → is_entry d e ≡ true → is_apart d address size ≡ is_apart e address size
same_bytes d e address size h = grind (arith, nat_tests)

found_last : (es : List AlatEntry) (e : AlatEntry) → has_hit (es ++ e ∷ []) e ≡ true
found_last es e =
    hit_is_any (es ++ e ∷ []) e
    ∙ list_any-append (λ d. is_entry d e) es (e ∷ [])
    ∙ last_is_found (list_any (λ d. is_entry d e) es) (is_entry e e) (entry_itself e)

pub entered_is_hit : EnteredIsHit
unfolding entered
entered_is_hit es e =
    let left = invalidated es e.key in (
      found_last (drop (length left - (ALAT_LIMIT - 1)) left) e,
      omega (arith, length-append (drop (length left - (ALAT_LIMIT - 1)) left) (e ∷ []), length-drop (length left - (ALAT_LIMIT - 1)) left),
    )

pub invalidated_is_gone : InvalidatedIsGone
invalidated_is_gone es key other =
    let test : AlatEntry → Bool = λ e. is_spot e.key other in
    entry_is_any (invalidated es key) other
    ∙ ap (list_any test) (invalidated_is_filter es key)
    ∙ any-filter_same test (λ e. not (is_spot e.key key)) (not (is_spot key other)) (λ e h. spot_other e.key key other h) es
    ∙ ap (λ b. not (is_spot key other) && b) (sym (entry_is_any es other))

pub touched_is_gone : TouchedIsGone
touched_is_gone es address size e =
    let test : AlatEntry → Bool = λ d. is_entry d e in
    hit_is_any (untouched es address size) e
    ∙ ap (list_any test) (untouched_is_filter es address size)
    ∙ any-filter_same test (λ d. is_apart d address size) (is_apart e address size) (λ d h. same_bytes d e address size h) es
    ∙ ap (λ b. is_apart e address size && b) (sym (hit_is_any es e))
