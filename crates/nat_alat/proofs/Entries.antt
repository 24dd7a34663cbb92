-- The entries of the ALAT, by what they pass.
use Rattle.std.proofs.Common.{◌≡◌, ◌-◌, ◌≤◌, Bool, true, false, List, [], ◌∷◌, ◌++◌, length, drop, refl, arith}
use Rattle.std.specs.Prelude.{◌==◌, ◌&&◌}
use Rattle.std.proofs.lemmas.Bool.Decides.{nat_tests}
use Rattle.std.specs.List.{list_any}
use Rattle.ia_meaning.specs.declared.limits.TheConstants.{ALAT_LIMIT}
use Rattle.ia_meaning.specs.declared.state.Spot.{Spot}
use Rattle.ia_meaning.specs.declared.state.AlatEntry.{AlatEntry}
use Rattle.ia_meaning.specs.Loads.{is_spot, invalidated, entered, has_hit, has_entry}

-- Two entries are equal.
abbrev pub is_entry : AlatEntry → AlatEntry → Bool
is_entry d e = is_spot d.key e.key && (d.address == e.address) && (d.size == e.size)

pub hit_is_any : (es : List AlatEntry) (e : AlatEntry) → has_hit es e ≡ list_any (λ d. is_entry d e) es
unfolding has_hit
hit_is_any [] e = refl
hit_is_any (d ∷ ds) e = simp (hit_is_any ds e)

pub entry_is_any : (es : List AlatEntry) (key : Spot) → has_entry es key ≡ list_any (λ e. is_spot e.key key) es
unfolding has_entry
entry_is_any [] key = refl
entry_is_any (e ∷ es) key = simp (entry_is_any es key)

-- With as many as its limit left the oldest goes.
pub entered_when_full : (left es : List AlatEntry) (e : AlatEntry) → left ≡ invalidated es e.key → (length left == ALAT_LIMIT) ≡ true
    → drop 1 left ++ e ∷ [] ≡ entered es e
unfolding entered
entered_when_full left es e is full =
    let one : length left - (ALAT_LIMIT - 1) ≡ 1 = grind (arith, nat_tests) in
    rw (← is, one) refl

pub entered_with_room : (left es : List AlatEntry) (e : AlatEntry) → left ≡ invalidated es e.key → length left ≤ ALAT_LIMIT
    → (length left == ALAT_LIMIT) ≡ false → left ++ e ∷ [] ≡ entered es e
unfolding entered
entered_with_room left es e is most room =
    let none : length left - (ALAT_LIMIT - 1) ≡ 0 = grind (arith, nat_tests) in
    rw (← is, none) refl
