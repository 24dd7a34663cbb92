-- The offsets of accesses without a fault.
use Rattle.std.proofs.Common.{◌≡◌, ℕ, ◌+◌, ◌-◌, ◌*◌, ◌%◌, ◌^◌, ◌<◌, ◌≤◌, ◌⊎◌, inl, inr, List, [], ◌++◌, length, take, drop, get_or, None, sym, ap, ◌∙◌, arith}
use Rattle.std.proofs.lemmas.List.{append-nil, drop_all, take_all}
use Rattle.ia_program.specs.Addresses.{data_base}
use Rattle.ia_meaning.specs.Loads.{access_fault, loaded, stored, bytes_at, with_bytes}
use Rattle.ia_meaning.proofs.DataAccesses.{is_access, length-with_bytes, other_byte}

-- The offset of an address.
offset_of : (address at : ℕ) → address ≡ data_base + at → address - data_base ≡ at
offset_of address at e = omega arith

-- What is read at the offset of an address is what is loaded.
pub loaded_there : (address at size : ℕ) (bytes : List ℕ) → address ≡ data_base + at → bytes_at bytes at size ≡ loaded bytes address size
unfolding loaded
loaded_there address at size bytes e = ap (λ k. bytes_at bytes k size) (sym (offset_of address at e))

-- What is written at the offset of an address is what is stored.
pub stored_there : (address at size x : ℕ) (bytes : List ℕ) → address ≡ data_base + at
    → with_bytes bytes at size x ≡ stored bytes address size x
unfolding stored
stored_there address at size x bytes e = ap (λ k. with_bytes bytes k size x) (sym (offset_of address at e))

-- What is written at the offset of an address is what is stored, where the memory shows its bytes as a slice.
pub stored_whole : (address at size x len : ℕ) (bytes old shown new : List ℕ) → address ≡ data_base + at → old ≡ bytes → shown ≡ old
    → len ≡ length shown → new ≡ with_bytes shown at size x → take len (new ++ drop (length new) old) ≡ stored bytes address size x
stored_whole address at size x len bytes old shown new e is same count written =
    let same_length : length new ≡ length shown = ap length written ∙ length-with_bytes size at x shown in
    let all : length shown ≡ length old = ap length same in
    let none : drop (length new) old ≡ [] = drop_all (length new) old (omega arith) in
    ap (λ l. take len (new ++ l)) none
    ∙ ap (take len) (append-nil new)
    ∙ take_all len new (omega arith)
    ∙ written
    ∙ ap (λ l. with_bytes l at size x) (same ∙ is)
    ∙ stored_there address at size x bytes e

-- The bytes that a store doesn't touch stay.
pub others_stay : (bytes : List ℕ) (address size x : ℕ) → access_fault bytes address size ≡ None
    → (length (stored bytes address size x) ≡ length bytes)
    × ((offset : ℕ) → (data_base + offset < address) ⊎ (address + size ≤ data_base + offset)
    → get_or (stored bytes address size x) offset 0 ≡ get_or bytes offset 0)
unfolding stored
others_stay bytes address size x h =
    let access = is_access bytes address size h in (
      length-with_bytes size (address - data_base) x bytes,
      λ offset apart. other_byte size (address - data_base) x offset bytes
          (elim apart [ inl l ↦ inl (omega arith) | inr r ↦ inr (omega arith) ]),
    )
