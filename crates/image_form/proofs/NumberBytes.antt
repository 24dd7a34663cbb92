-- Numbers and their bytes, four a number, one after the other.
use Rattle.std.proofs.Common.{◌≡◌, ℕ, zero, suc, ◌+◌, ◌*◌, ◌^◌, ◌<◌, ◌≤◌, List, [], ◌∷◌, ◌++◌, length, take, drop, refl, sym, ap, ◌∙◌, arith}
use Rattle.std.specs.Prelude.{slice_index}
use Rattle.std.specs.Int.{w32, to_le_bytes, from_le_bytes}
use Rattle.std.proofs.Math.Seq.{take-add}
use Rattle.std.proofs.lemmas.Nat.{le_bytes_4, from_le_bytes-to_le_bytes_4}
use Rattle.std.proofs.lemmas.List.{drop-drop, length-take, length-drop, get_or-drop, flat_map_more, take_more}
use Rattle.ia_program.specs.Programs.{AreBytes}
use Rattle.image_form.specs.Images.{number_bytes}
use Rattle.image_form.specs.Parts.{number_at, numbers}

one-more : (n : ℕ) (bytes : List ℕ) → numbers (suc n) bytes ≡ numbers n bytes ++ number_at bytes (4 * n) ∷ []
one-more zero bytes = refl
one-more (suc n) bytes =
    let e : drop (4 * n) (drop 4 bytes) ≡ drop (4 * suc n) bytes = drop-drop (4 * n) 4 bytes ∙ ap (λ k. drop k bytes) (omega arith) in
    ap (λ l. number_at bytes 0 ∷ l) (one-more n (drop 4 bytes) ∙ ap (λ l. numbers n (drop 4 bytes) ++ from_le_bytes w32 (take 4 l) ∷ []) e)

-- One number more is read.
pub one_more_read : (n : ℕ) (bytes : List ℕ) → numbers (n + 1) bytes ≡ numbers n bytes ++ number_at bytes (4 * n) ∷ []
one_more_read n bytes = ap (λ k. numbers k bytes) (let e : n + 1 ≡ suc n = omega arith in e) ∙ one-more n bytes

-- One number more is written.
pub one_more_written : (old ns : List ℕ) (n : ℕ) → n < length ns
    → (old ++ number_bytes (take n ns)) ++ to_le_bytes w32 (slice_index ns n) ≡ old ++ number_bytes (take (n + 1) ns)
one_more_written old ns n inside =
    flat_map_more (to_le_bytes w32) old (take n ns) (slice_index ns n) ∙ ap (λ l. old ++ number_bytes l) (sym (take_more ns n 0 inside))

pub bytes_take : (n : ℕ) (bytes : List ℕ) → AreBytes bytes → AreBytes (take n bytes)
bytes_take zero bytes are i = omega arith
bytes_take (suc n) [] are i = are i
bytes_take (suc n) (b ∷ bytes) are zero = are zero
bytes_take (suc n) (b ∷ bytes) are (suc i) = bytes_take n bytes (λ k. are (suc k)) i

pub bytes_drop : (n : ℕ) (bytes : List ℕ) → AreBytes bytes → AreBytes (drop n bytes)
bytes_drop n bytes are i = rw (get_or-drop n bytes i 0) (are (n + i))

-- How many numbers are read.
pub length-numbers : (n : ℕ) (bytes : List ℕ) → length (numbers n bytes) ≡ n
length-numbers zero bytes = refl
length-numbers (suc n) bytes = ap suc (length-numbers n (drop 4 bytes))

pub first_four : (bytes : List ℕ) → 4 ≤ length bytes → AreBytes bytes → to_le_bytes w32 (number_at bytes 0) ≡ take 4 bytes
first_four bytes long are = le_bytes_4 (take 4 bytes) (number_at bytes 0) (simp length-take (omega arith)) (bytes_take 4 bytes are) refl

-- What was read is written as it was.
pub number_bytes-numbers : (n : ℕ) (bytes : List ℕ) → 4 * n ≤ length bytes → AreBytes bytes
    → number_bytes (numbers n bytes) ≡ take (4 * n) bytes
number_bytes-numbers zero bytes fits are = refl
number_bytes-numbers (suc n) bytes fits are =
    let rest = number_bytes-numbers n (drop 4 bytes) (rw (length-drop 4 bytes) (omega arith)) (bytes_drop 4 bytes are) in
    ap (λ l. l ++ number_bytes (numbers n (drop 4 bytes))) (first_four bytes (omega arith) are)
    ∙ ap (λ l. take 4 bytes ++ l) rest
    ∙ sym (take-add 4 (4 * n) bytes)
    ∙ ap (λ k. take k bytes) (let e : 4 + 4 * n ≡ 4 * suc n = omega arith in e)

-- Each number of a list fits four bytes.
abbrev pub FitFour : List ℕ → Type 0
FitFour ns = (k : ℕ) → k < length ns → slice_index ns k < 2 ^ 32

-- What was written is read as it was.
pub numbers-number_bytes : (ns : List ℕ) → FitFour ns → numbers (length ns) (number_bytes ns) ≡ ns
numbers-number_bytes [] fit = refl
numbers-number_bytes (n ∷ ns) fit =
    let first : number_at (number_bytes (n ∷ ns)) 0 ≡ n = from_le_bytes-to_le_bytes_4 n (fit 0 (omega arith)) in
    let later : numbers (length ns) (number_bytes ns) ≡ ns = numbers-number_bytes ns (λ k less. fit (suc k) (omega arith)) in
    λ i. first i ∷ later i

pub length-number_bytes : (ns : List ℕ) → length (number_bytes ns) ≡ 4 * length ns
length-number_bytes [] = refl
length-number_bytes (n ∷ ns) = let e = length-number_bytes ns in omega arith
