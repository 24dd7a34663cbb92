-- Where the addresses of bundles and data bytes lead.
use Rattle.std.proofs.Common.{◌≡◌, ℕ, ◌+◌, ◌-◌, ◌/◌, ◌%◌, ◌<◌, true, ◌==◌, nat_le, List, length, get_or, Some, None, refl, arith}
use Rattle.std.proofs.lemmas.Bool.Decides.{nat_tests}
use Rattle.ia_program.specs.Programs.{Program, IsEntry}
use Rattle.ia_program.specs.Addresses.{data_base, bundle_address, data_address}
use Rattle.ia_meaning.specs.Landings.{is_entry, landing}
use Rattle.ia_meaning.specs.Loads.{access_fault, loaded}
use Rattle.ia_meaning.proofs.Sequences.{entry_decides}

-- An indirect branch to the address of an entry lands on it.
pub entry_at_address : (p : Program) (n : ℕ) → IsEntry p n → landing p (bundle_address n) ≡ Some n
unfolding landing
entry_at_address p n is =
    let number : (bundle_address n - bundle_address 0) / 16 ≡ n = omega arith in
    let above : nat_le (bundle_address 0) (bundle_address n) ≡ true = grind (arith, nat_tests) in
    let entry : is_entry p n ≡ true = (entry_decides p n).1 is in
    rw (number, above, entry) refl

byte_access : (bytes : List ℕ) (n : ℕ) → n < length bytes → access_fault bytes (data_address n) 1 ≡ None
unfolding access_fault
byte_access bytes n h =
    let aligned : (data_address n % 1 == 0) ≡ true = grind (arith, nat_tests) in
    let above : nat_le data_base (data_address n) ≡ true = grind (arith, nat_tests) in
    let within : nat_le (data_address n + 1) (data_base + length bytes) ≡ true = grind (arith, nat_tests) in
    rw (aligned, above, within) refl

byte_loaded : (bytes : List ℕ) (n : ℕ) → loaded bytes (data_address n) 1 ≡ get_or bytes n 0
unfolding loaded
byte_loaded bytes n =
    let number : data_address n - data_base ≡ n = omega arith in
    rw number (omega arith)

-- A load of one byte from the address of a data byte gives it.
pub byte_at_address : (bytes : List ℕ) (n : ℕ) → n < length bytes
    → (access_fault bytes (data_address n) 1 ≡ None) × (loaded bytes (data_address n) 1 ≡ get_or bytes n 0)
byte_at_address bytes n h = (byte_access bytes n h, byte_loaded bytes n)
