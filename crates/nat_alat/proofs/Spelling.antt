-- Numbers and their bytes, the lowest first.
use Rattle.std.proofs.Common.{◌≡◌, ◌≢◌, ℕ, zero, suc, ◌+◌, ◌-◌, ◌*◌, ◌/◌, ◌%◌, ◌^◌, ◌<◌, ◌≤◌, ◌⊎◌, List, [], ◌++◌, length, take, drop, set, refl, sym, ap, ◌∙◌, arith}
use Rattle.std.specs.Int.{byte_at, bytes_low_first}
use Rattle.std.proofs.Math.Seq.{take-suc-set}
use Rattle.std.proofs.Math.Nat.{div-div-eq-div-mul, mod-eq_of_lt, pow-succ'}
use Rattle.std.proofs.lemmas.Nat.{mod-pow-add}
use Rattle.std.proofs.lemmas.List.{append_assoc, append-nil, drop_all, drop-drop, drop-set-lt, length-drop, length-set, take-append-drop, take_rest}
use borrow.Rule.Slice.PartMut.{put_mid}
use Rattle.ia_meaning.specs.Loads.{with_bytes}

-- A byte above the lowest is one of the rest.
byte_of_rest : (k x : ℕ) → byte_at (suc k) x ≡ byte_at k (x / 256)
byte_of_rest zero x = refl
byte_of_rest (suc k) x =
    ap (λ y. y % 256) (ap (λ p. x / p) (pow-succ' 256 (suc k)) ∙ sym (div-div-eq-div-mul x 256 (256 ^ suc k)))

-- The bytes above the lowest are those of the rest.
bytes_of_rest : (j n x : ℕ) → bytes_low_first (suc j) n x ≡ bytes_low_first j n (x / 256)
bytes_of_rest j zero x = refl
bytes_of_rest j (suc n) x = rw (byte_of_rest j x, bytes_of_rest (suc j) n x) refl

-- The bytes before those of the number, these, and the bytes after them.
pub with_bytes_split : (n at x : ℕ) (bytes : List ℕ) → at + n ≤ length bytes
    → with_bytes bytes at n x ≡ take at bytes ++ (bytes_low_first 0 n x ++ drop (at + n) bytes)
with_bytes_split zero at x bytes h =
    let e : at + 0 ≡ at = omega arith in rw e (sym (take-append-drop at bytes))
with_bytes_split (suc n) at x bytes h =
    let rest = with_bytes_split n (suc at) (x / 256) (set bytes at (x % 256)) (rw (length-set bytes at (x % 256)) (omega arith)) in
    let e : at + suc n ≡ suc at + n = omega arith in
    rest
    ∙ rw (
      take-suc-set bytes at (x % 256) (omega arith),
      drop-set-lt (suc at + n) bytes at (x % 256) (omega arith),
      append_assoc,
      e,
      bytes_of_rest 0 n x,
    ) refl

-- The bytes of a number are those of its low bits.
low_bits : (n at x : ℕ) (bytes : List ℕ) → with_bytes bytes at n (x % 2 ^ (8 * n)) ≡ with_bytes bytes at n x
low_bits zero at x bytes = refl
low_bits (suc n) at x bytes =
    let e : 8 * suc n ≡ 8 * n + 8 = omega arith in
    let split : x % 2 ^ (8 * suc n) ≡ x / 256 % 2 ^ (8 * n) * 256 + x % 256 = ap (λ k. x % 2 ^ k) e ∙ mod-pow-add x (8 * n) 8 in
    let low : x % 2 ^ (8 * suc n) % 256 ≡ x % 256 = omega arith in
    let high : x % 2 ^ (8 * suc n) / 256 ≡ x / 256 % 2 ^ (8 * n) = omega arith in
    rw (low, high) (low_bits n (suc at) (x / 256) (set bytes at (x % 256)))

-- The low bytes of a number, written at the front of what follows an offset.
pub written_there : (n at x y : ℕ) (bytes new : List ℕ) → at + n ≤ length bytes → y ≡ x % 2 ^ (8 * n)
    → new ≡ bytes_low_first 0 n y ++ drop n (take (length bytes - at) (drop at bytes))
    → put_mid at (length bytes - at) bytes new ≡ with_bytes bytes at n x
written_there n at x y bytes new h low is =
    let end : drop (length bytes - at) (drop at bytes) ≡ [] =
    drop_all (length bytes - at) (drop at bytes) (rw (length-drop at bytes) (omega arith)) in
    let front : put_mid at (length bytes - at) bytes new ≡ take at bytes ++ new =
    ap (λ l. take at bytes ++ (new ++ l)) end ∙ ap (λ l. take at bytes ++ l) (append-nil new) in
    front
    ∙ ap (λ l. take at bytes ++ l) is
    ∙ ap (λ l. take at bytes ++ (bytes_low_first 0 n y ++ l)) (ap (drop n) (take_rest bytes at) ∙ drop-drop n at bytes)
    ∙ sym (with_bytes_split n at y bytes h)
    ∙ ap (with_bytes bytes at n) low
    ∙ low_bits n at x bytes

-- The low 2, 4 or 8 bytes of a number are written at the front of what follows an offset.
pub written_2 : (size at x : ℕ) (bytes new : List ℕ) → size ≡ 2 → at + size ≤ length bytes
    → new ≡ bytes_low_first 0 2 (x % 65536) ++ drop 2 (take (length bytes - at) (drop at bytes))
    → put_mid at (length bytes - at) bytes new ≡ with_bytes bytes at size x
written_2 size at x bytes new e h is = rw e (written_there 2 at x (x % 65536) bytes new (omega arith) refl is)

pub written_4 : (size at x : ℕ) (bytes new : List ℕ) → size ≡ 4 → at + size ≤ length bytes
    → new ≡ bytes_low_first 0 4 (x % 4294967296) ++ drop 4 (take (length bytes - at) (drop at bytes))
    → put_mid at (length bytes - at) bytes new ≡ with_bytes bytes at size x
written_4 size at x bytes new e h is = rw e (written_there 4 at x (x % 4294967296) bytes new (omega arith) refl is)

pub written_8 : (size at x : ℕ) (bytes new : List ℕ) → size ≡ 8 → at + size ≤ length bytes → x < 18446744073709551616
    → new ≡ bytes_low_first 0 8 x ++ drop 8 (take (length bytes - at) (drop at bytes))
    → put_mid at (length bytes - at) bytes new ≡ with_bytes bytes at size x
written_8 size at x bytes new e h word is = rw e (written_there 8 at x x bytes new (omega arith) (sym (mod-eq_of_lt word)) is)
