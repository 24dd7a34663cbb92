-- The words of data are read again, and give the bytes back.
use Rattle.std.proofs.Common.{◌≡◌, ◌∙◌, ℕ, zero, suc, ◌<◌, ◌%◌, ◌^◌, List, [], ◌∷◌, ◌++◌, length, take, get_or, refl, ap, arith}
use Rattle.std.specs.Int.{w64, to_le_bytes, from_le_bytes}
use Rattle.std.proofs.lemmas.Nat.{le_bytes_8}
use Rattle.asm_build.specs.CanonicalText.{data_word, words_of}
use Rattle.asm_build.specs.TextParts.{numbers_bytes}
use Rattle.ia_program.specs.Programs.{AreBytes}

-- The bytes of a word, the lowest first.
word_bytes : (a b c d e f g h : ℕ) → a < 256 → b < 256 → c < 256 → d < 256 → e < 256 → f < 256 → g < 256 → h < 256
    → to_le_bytes w64 (data_word a b c d e f g h) ≡ a ∷ b ∷ c ∷ d ∷ e ∷ f ∷ g ∷ h ∷ []
word_bytes a b c d e f g h la lb lc ld le lf lg lh =
    le_bytes_8 (a ∷ b ∷ c ∷ d ∷ e ∷ f ∷ g ∷ h ∷ []) (data_word a b c d e f g h) refl each value
  where
    value : data_word a b c d e f g h ≡ from_le_bytes w64 (a ∷ b ∷ c ∷ d ∷ e ∷ f ∷ g ∷ h ∷ [])
    value = omega arith

    each : (i : ℕ) → get_or (a ∷ b ∷ c ∷ d ∷ e ∷ f ∷ g ∷ h ∷ []) i 0 < 256
    each zero = la
    each (suc zero) = lb
    each (suc (suc zero)) = lc
    each (suc (suc (suc zero))) = ld
    each (suc (suc (suc (suc zero)))) = le
    each (suc (suc (suc (suc (suc zero))))) = lf
    each (suc (suc (suc (suc (suc (suc zero)))))) = lg
    each (suc (suc (suc (suc (suc (suc (suc zero))))))) = lh
    each (suc (suc (suc (suc (suc (suc (suc (suc i)))))))) = omega arith

word_below : (a b c d e f g h : ℕ) → a < 256 → b < 256 → c < 256 → d < 256 → e < 256 → f < 256 → g < 256 → h < 256
    → data_word a b c d e f g h < 2 ^ 64
word_below a b c d e f g h la lb lc ld le lf lg lh = omega (arith, la, lb, lc, ld, le, lf, lg, lh)

abbrev pub AreWords : List ℕ → Type 0
AreWords [] = Unit {0}
AreWords (w ∷ ws) = (w < 2 ^ 64) × AreWords ws

-- The words of bytes are below 2^64.
pub words_small : (bytes : List ℕ) → AreBytes bytes → AreWords (words_of bytes)
words_small (a ∷ b ∷ c ∷ d ∷ e ∷ f ∷ g ∷ h ∷ rest) small = (
  word_below a b c d e f g h (small 0) (small 1) (small 2) (small 3) (small 4) (small 5) (small 6) (small 7),
  words_small rest (λ k. small (suc (suc (suc (suc (suc (suc (suc (suc k))))))))),
)
words_small _ small = tt

-- Bytes, in number a multiple of eight, are those of their words.
pub words_back : (bytes : List ℕ) → AreBytes bytes → length bytes % 8 ≡ 0 → numbers_bytes 8 (words_of bytes) ≡ bytes
words_back [] small h = refl
words_back (a ∷ []) small h = absurd (omega (arith, h))
words_back (a ∷ b ∷ []) small h = absurd (omega (arith, h))
words_back (a ∷ b ∷ c ∷ []) small h = absurd (omega (arith, h))
words_back (a ∷ b ∷ c ∷ d ∷ []) small h = absurd (omega (arith, h))
words_back (a ∷ b ∷ c ∷ d ∷ e ∷ []) small h = absurd (omega (arith, h))
words_back (a ∷ b ∷ c ∷ d ∷ e ∷ f ∷ []) small h = absurd (omega (arith, h))
words_back (a ∷ b ∷ c ∷ d ∷ e ∷ f ∷ g ∷ []) small h = absurd (omega (arith, h))
words_back (a ∷ b ∷ c ∷ d ∷ e ∷ f ∷ g ∷ i ∷ rest) small h =
    ap (λ bs. take 8 bs ++ numbers_bytes 8 (words_of rest)) (word_bytes a b c d e f g i (small 0) (small 1) (small 2) (small 3) (small 4)
    (small 5) (small 6) (small 7))
    ∙ ap (λ bs. a ∷ b ∷ c ∷ d ∷ e ∷ f ∷ g ∷ i ∷ bs) (words_back rest (λ k. small (suc (suc (suc (suc (suc (suc (suc (suc k)))))))))
    (omega (arith, h)))
