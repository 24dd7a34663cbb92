-- Laws of loads and stores, and of the ALAT.
use Rattle.std.specs.Prelude.{◌≡◌, ◌⊎◌, ℕ, ◌+◌, ◌*◌, ◌%◌, ◌^◌, ◌<◌, ◌≤◌, true, not, ◌&&◌, List, length, get_or, None}
use Rattle.ia_meaning.specs.declared.limits.TheConstants.{ALAT_LIMIT}
use Rattle.ia_meaning.specs.declared.state.Spot.{Spot}
use Rattle.ia_meaning.specs.declared.state.AlatEntry.{AlatEntry}
use Rattle.ia_program.specs.Addresses.{data_base}
use Rattle.ia_meaning.specs.Loads.{access_fault, loaded, stored, is_spot, is_apart, invalidated, entered, untouched, has_hit, has_entry}

-- What is loaded is what was stored there, by its low bytes.
abbrev pub StoredIsLoaded : Type 0
StoredIsLoaded =
    (bytes : List ℕ) (address size value : ℕ) → access_fault bytes address size ≡ None
    → loaded (stored bytes address size value) address size ≡ value % 2 ^ (8 * size)

-- A store leaves each byte before and after it, and the number of bytes.
abbrev pub OthersStay : Type 0
OthersStay =
    (bytes : List ℕ) (address size value : ℕ) → access_fault bytes address size ≡ None
    → (length (stored bytes address size value) ≡ length bytes)
    × ((offset : ℕ) → (data_base + offset < address) ⊎ (address + size ≤ data_base + offset)
    → get_or (stored bytes address size value) offset 0 ≡ get_or bytes offset 0)

-- An entry that was entered is hit, and no more than its limit are there.
abbrev pub EnteredIsHit : Type 0
EnteredIsHit = (es : List AlatEntry) (e : AlatEntry) → (has_hit (entered es e) e ≡ true) × (length (entered es e) ≤ ALAT_LIMIT)

-- A register that was invalidated has no entry, and each other has one if it had one.
abbrev pub InvalidatedIsGone : Type 0
InvalidatedIsGone =
    (es : List AlatEntry) (key other : Spot)
    → has_entry (invalidated es key) other ≡ (not (is_spot key other) && has_entry es other)

-- After a store an entry is hit if it was hit before and the store has none of its bytes.
abbrev pub TouchedIsGone : Type 0
TouchedIsGone =
    (es : List AlatEntry) (address size : ℕ) (e : AlatEntry)
    → has_hit (untouched es address size) e ≡ (is_apart e address size && has_hit es e)
