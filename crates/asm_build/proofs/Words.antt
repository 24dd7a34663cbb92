-- Words of data in turn.
use Rattle.std.proofs.Common.{◌≡◌, ◌∙◌, ℕ, ◌+◌, ◌-◌, ◌<◌, ◌≤◌, ◌%◌, Bool, false, ◌||◌, ◌==◌, if◌then◌else◌, List, [], ◌∷◌, ◌++◌, length, take, drop, codes, refl, sym, ap, arith}
use Rattle.std.proofs.lemmas.List.{append_assoc}
use Rattle.std.proofs.lemmas.Bool.Decides.{nat_tests}
use Rattle.std.specs.Prelude.{slice_index}
use Rattle.std.proofs.Math.Seq.{take-length}
use Rattle.std.specs.Fmt.{digits}
use Rattle.asm_build.specs.CanonicalText.{data_word, words_of, words_text, is_nothing}

-- Fewer than eight bytes are no word.
pub no_words : (bytes : List ℕ) → length bytes < 8 → words_of bytes ≡ []
no_words [] h = refl
no_words (a ∷ []) h = refl
no_words (a ∷ b ∷ []) h = refl
no_words (a ∷ b ∷ c ∷ []) h = refl
no_words (a ∷ b ∷ c ∷ d ∷ []) h = refl
no_words (a ∷ b ∷ c ∷ d ∷ e ∷ []) h = refl
no_words (a ∷ b ∷ c ∷ d ∷ e ∷ f ∷ []) h = refl
no_words (a ∷ b ∷ c ∷ d ∷ e ∷ f ∷ g ∷ []) h = refl
no_words (a ∷ b ∷ c ∷ d ∷ e ∷ f ∷ g ∷ i ∷ rest) h = absurd (omega (arith, h))

-- There are words left exactly where bytes are left.
nothing_left : (bytes : List ℕ) → length bytes % 8 ≡ 0 → is_nothing (words_of bytes) ≡ (length bytes == 0)
nothing_left [] h = refl
nothing_left (a ∷ []) h = absurd (omega (arith, h))
nothing_left (a ∷ b ∷ []) h = absurd (omega (arith, h))
nothing_left (a ∷ b ∷ c ∷ []) h = absurd (omega (arith, h))
nothing_left (a ∷ b ∷ c ∷ d ∷ []) h = absurd (omega (arith, h))
nothing_left (a ∷ b ∷ c ∷ d ∷ e ∷ []) h = absurd (omega (arith, h))
nothing_left (a ∷ b ∷ c ∷ d ∷ e ∷ f ∷ []) h = absurd (omega (arith, h))
nothing_left (a ∷ b ∷ c ∷ d ∷ e ∷ f ∷ g ∷ []) h = absurd (omega (arith, h))
nothing_left (a ∷ b ∷ c ∷ d ∷ e ∷ f ∷ g ∷ i ∷ rest) h =
    let some : (length (a ∷ b ∷ c ∷ d ∷ e ∷ f ∷ g ∷ i ∷ rest) == 0) ≡ false = grind (arith, nat_tests) in
    sym some

abbrev pub one_word : ℕ → ℕ → Bool → List ℕ
one_word k word last =
    (if k % 8 == 0 then codes "data8 " else codes ",") ++ (48 ∷ 120 ∷ digits 16 false word)
    ++ (if (k % 8 == 7) || last then 10 ∷ [] else [])

word_and_more : (done end hex line more : List ℕ) → (done ++ (end ++ hex ++ line)) ++ more ≡ done ++ (end ++ hex ++ (line ++ more))
word_and_more done end hex line more =
    append_assoc done (end ++ hex ++ line) more ∙ ap (λ x. done ++ x) (append_assoc (end ++ hex) line more)

-- One word more.
eight_more : (k a b c d e f g h : ℕ) (rest done new : List ℕ) (last : Bool) → length rest % 8 ≡ 0 → last ≡ (length rest == 0)
    → new ≡ done ++ one_word k (data_word a b c d e f g h) last
    → new ++ words_text (k + 1) (words_of rest) ≡ done ++ words_text k (words_of (a ∷ b ∷ c ∷ d ∷ e ∷ f ∷ g ∷ h ∷ rest))
eight_more k a b c d e f g h rest done new last eights is grown =
    rw (grown, is, nothing_left rest eights) (word_and_more done (if k % 8 == 0 then codes "data8 " else codes ",")
    (48 ∷ 120 ∷ digits 16 false (data_word a b c d e f g h)) (if (k % 8 == 7) || (length rest == 0) then 10 ∷ [] else [])
    (words_text (k + 1) (words_of rest)))

-- One word more, and its bytes are left out.
pub next_word : (k : ℕ) (left rest done new : List ℕ) (last : Bool) → 8 ≤ length left → length left % 8 ≡ 0
    → rest ≡ take (length left - 8) (drop 8 left) → last ≡ (length rest == 0)
    → new ≡ done ++ one_word k (data_word (slice_index left 0) (slice_index left 1) (slice_index left 2) (slice_index left 3)
    (slice_index left 4) (slice_index left 5) (slice_index left 6) (slice_index left 7)) last
    → new ++ words_text (k + 1) (words_of rest) ≡ done ++ words_text k (words_of left)
next_word k (a ∷ b ∷ c ∷ d ∷ e ∷ f ∷ g ∷ h ∷ after) rest done new last some eights is nothing grown =
    let count : length (a ∷ b ∷ c ∷ d ∷ e ∷ f ∷ g ∷ h ∷ after) - 8 ≡ length after = omega arith in
    let same : rest ≡ after = is ∙ ap (λ n. take n after) count ∙ take-length after in
    rw same (eight_more k a b c d e f g h after done new last (omega (arith, eights))
    (nothing ∙ ap (λ (xs : List ℕ). length xs == 0) same) grown)
next_word k left rest done new last some eights is nothing grown = absurd (omega (arith, some))
