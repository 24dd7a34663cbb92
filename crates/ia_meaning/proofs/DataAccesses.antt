-- Accesses to data without a fault, and what is there after a store.
use Rattle.std.proofs.Common.{◌≡◌, ◌≢◌, ◌⊎◌, inl, inr, sym, ap, ℕ, zero, suc, ◌+◌, ◌-◌, ◌*◌, ◌/◌, ◌%◌, ◌^◌, ◌<◌, ◌≤◌, Bool, true, false, not, ◌&&◌, ◌==◌, nat_le, if◌then◌else◌, List, length, set, get_or, Some, None, refl, ◌∙◌, arith, length-set}
use Rattle.std.proofs.lemmas.Nat.{mod-pow-add}
use Rattle.std.proofs.lemmas.List.{get_or-set_same, get_or-set_other}
use Rattle.std.proofs.lemmas.Bool.Decides.{nat_tests}
use Rattle.ia_program.specs.declared.ending.FaultKind.TheVariants.{Unaligned, BadAddress}
use Rattle.ia_program.specs.Addresses.{data_base}
use Rattle.ia_meaning.specs.Loads.{access_fault, bytes_at, loaded, with_bytes, stored}

-- An access without a fault is aligned and in the data.
pub record IsAccess (count address size : ℕ) : Type 0 where
  pub aligned : address % size ≡ 0
  pub above : data_base ≤ address
  pub within : address + size ≤ data_base + count

by_tests : (count address size : ℕ) (a w : Bool) → (address % size == 0) ≡ a
    → (nat_le data_base address && nat_le (address + size) (data_base + count)) ≡ w
    → (if not a then Some Unaligned else if w then None else Some BadAddress) ≡ None → IsAccess count address size
by_tests count address size false w e f h = absurd (cc)
by_tests count address size true false e f h = absurd (cc)
by_tests count address size true true e f h =
    record { aligned = grind (arith, nat_tests); above = grind (arith, nat_tests); within = grind (arith, nat_tests) }

pub is_access : (bytes : List ℕ) (address size : ℕ) → access_fault bytes address size ≡ None → IsAccess (length bytes) address size
unfolding access_fault
is_access bytes address size h = by_tests (length bytes) address size _ _ refl refl h

-- A store leaves as many bytes.
pub length-with_bytes : (n at x : ℕ) (bytes : List ℕ) → length (with_bytes bytes at n x) ≡ length bytes
length-with_bytes zero at x bytes = refl
length-with_bytes (suc n) at x bytes = length-with_bytes n (suc at) (x / 256) (set bytes at (x % 256)) ∙ length-set bytes at (x % 256)

-- A byte before or after those of the number.
pub other_byte : (n at x k : ℕ) (bytes : List ℕ) → (k < at) ⊎ (at + n ≤ k) → get_or (with_bytes bytes at n x) k 0 ≡ get_or bytes k 0
other_byte zero at x k bytes h = refl
other_byte (suc n) at x k bytes h =
    let apart : (k < suc at) ⊎ (suc at + n ≤ k) = elim h [ inl l ↦ inl (omega arith) | inr r ↦ inr (omega arith) ] in
    let other : k ≢ at = λ e. elim h [ inl l ↦ omega arith | inr r ↦ omega arith ] in
    other_byte n (suc at) (x / 256) k (set bytes at (x % 256)) apart ∙ get_or-set_other bytes at k (x % 256) 0 other

-- What is read is what was written.
pub written_is_read : (n at x : ℕ) (bytes : List ℕ) → at + n ≤ length bytes → bytes_at (with_bytes bytes at n x) at n ≡ x % 2 ^ (8 * n)
written_is_read zero at x bytes h = let e : x % 1 ≡ 0 = omega arith in sym e
written_is_read (suc n) at x bytes h =
    let l = set bytes at (x % 256) in
    let lowest = other_byte n (suc at) (x / 256) at l (inl (omega arith)) ∙ get_or-set_same bytes at (x % 256) 0 (omega arith) in
    let rest = written_is_read n (suc at) (x / 256) l (rw (length-set bytes at (x % 256)) (omega arith)) in
    let e : 8 * suc n ≡ 8 * n + 8 = omega arith in
    let split : x % 2 ^ (8 * suc n) ≡ x / 256 % 2 ^ (8 * n) * 256 + x % 256 = ap (λ k. x % 2 ^ k) e ∙ mod-pow-add x (8 * n) 8 in
    omega (arith, lowest, rest, split)

-- What is loaded is what was stored there.
pub stored_is_loaded : (bytes : List ℕ) (address size x : ℕ) → access_fault bytes address size ≡ None
    → loaded (stored bytes address size x) address size ≡ x % 2 ^ (8 * size)
unfolding loaded stored
stored_is_loaded bytes address size x h =
    let access = is_access bytes address size h in
    written_is_read size (address - data_base) x bytes (omega arith)
