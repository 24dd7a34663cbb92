-- How a text that begins with a whole line breaks into lines.
use Rattle.std.proofs.Common.{◌≡◌, ◌≢◌, ◌∙◌, ℕ, zero, suc, ◌+◌, ◌-◌, ◌<◌, true, ◌&&◌, ◌==◌, ltb, List, [], ◌∷◌, ◌++◌, length, take, map, slice_index, refl, sym, ap, inr, arith, length-append}
use Rattle.std.proofs.lemmas.Bool.{ne_eqb, eq-eqb, lt-ltb, cond-true, cond-false, and_from, and_right}
use Rattle.std.proofs.lemmas.Bool.Decides.{nat_tests}
use Rattle.std.proofs.Math.Seq.{take-append_seam}
use Rattle.bstr.specs.Text.{lines_of, without_terminator, no_cr}
use Rattle.bstr.proofs.lemmas.LineLemmas.{lines-append, lines-one}
use Rattle.ia_program.proofs.Tests.{left, right}
use Rattle.asm_lexemes.specs.Bytes.{is_plain_byte, has_only_plain}
use Rattle.asm_build.specs.CanonicalText.{line}
use Rattle.asm_build.specs.TextReading.{text_lines}

-- Each byte of a line that may be read is a plain one.
plain_at : (bytes : List ℕ) (k : ℕ) → has_only_plain bytes ≡ true → k < length bytes → is_plain_byte (slice_index bytes k) ≡ true
plain_at [] k h less = absurd (omega (arith, less))
plain_at (c ∷ cs) zero h less = left (is_plain_byte c) _ h
plain_at (c ∷ cs) (suc k) h less = plain_at cs k (right (is_plain_byte c) _ h) (omega (arith, less))

-- A plain byte is no line feed.
no_feed : (c : ℕ) → is_plain_byte c ≡ true → c ≢ 10
no_feed c h = grind (arith, nat_tests)

no_return : (c : ℕ) → is_plain_byte c ≡ true → c ≢ 13
no_return c h = grind (arith, nat_tests)

last_at : (bytes : List ℕ) (c : ℕ) → slice_index (bytes ++ c ∷ []) (length bytes) ≡ c
last_at [] c = refl
last_at (b ∷ bytes) c = last_at bytes c

before_last : (bytes more : List ℕ) (k : ℕ) → k < length bytes → slice_index (bytes ++ more) k ≡ slice_index bytes k
before_last [] more k h = absurd (omega (arith, h))
before_last (b ∷ bytes) more zero h = refl
before_last (b ∷ bytes) more (suc k) h = before_last bytes more k (omega (arith, h))

-- A line feed at the end, and none before it: one line.
one_line : (bytes : List ℕ) → has_only_plain bytes ≡ true → lines_of (line bytes) ≡ line bytes ∷ []
one_line bytes h =
    let long = length-append bytes (10 ∷ []) in
    lines-one (line bytes) (omega (arith, long)) (λ k less is.
    no_feed (slice_index bytes k) (plain_at bytes k h (omega (arith, long, less)))
    (sym (before_last bytes (10 ∷ []) k (omega (arith, long, less))) ∙ is))

-- A last byte that is no carriage return stays.
no_cr_kept : (bytes : List ℕ) → has_only_plain bytes ≡ true → no_cr bytes ≡ bytes
no_cr_kept [] h = refl
no_cr_kept (c ∷ cs) h =
    let last = slice_index (c ∷ cs) (length (c ∷ cs) - 1) in
    cond-false (ltb 0 (length (c ∷ cs)) && (last == 13)) (take (length (c ∷ cs) - 1) (c ∷ cs)) (c ∷ cs)
    (and_right (ltb 0 (length (c ∷ cs))) (last == 13) (ne_eqb last 13
    (no_return last (plain_at (c ∷ cs) (length (c ∷ cs) - 1) h (omega arith)))))

-- The line feed is taken off.
without_feed : (bytes : List ℕ) → has_only_plain bytes ≡ true → without_terminator (line bytes) ≡ bytes
without_feed bytes h =
    let long : length (line bytes) ≡ length bytes + 1 = length-append bytes (10 ∷ []) in
    let last : length (line bytes) - 1 ≡ length bytes = omega (arith, long) in
    let ends : slice_index (line bytes) (length (line bytes) - 1) ≡ 10 = rw last (last_at bytes 10) in
    let front : take (length (line bytes) - 1) (line bytes) ≡ bytes = rw last (take-append_seam bytes (10 ∷ [])) in
    let some = ltb 0 (length (line bytes)) in
    let feed = slice_index (line bytes) (length (line bytes) - 1) == 10 in
    cond-true (some && feed) (no_cr (take (length (line bytes) - 1) (line bytes))) (line bytes)
    (and_from some feed (lt-ltb 0 (length (line bytes)) (omega (arith, long))) (eq-eqb _ 10 ends)) ∙ ap no_cr front ∙ no_cr_kept bytes h

-- The first line of a text, and those of the rest.
pub lines_after : (bytes rest : List ℕ) → has_only_plain bytes ≡ true → text_lines (line bytes ++ rest) ≡ bytes ∷ text_lines rest
lines_after bytes rest h =
    let long : length (line bytes) ≡ length bytes + 1 = length-append bytes (10 ∷ []) in
    let last : length (line bytes) - 1 ≡ length bytes = omega (arith, long) in
    let ends : slice_index (line bytes) (length (line bytes) - 1) ≡ 10 = rw last (last_at bytes 10) in
    let parts : lines_of (line bytes ++ rest) ≡ line bytes ∷ lines_of rest =
    lines-append (length (line bytes)) (line bytes) rest (omega arith) (inr ends) ∙ ap (λ ls. ls ++ lines_of rest) (one_line bytes h) in
    ap (map without_terminator) parts ∙ ap (λ l. l ∷ text_lines rest) (without_feed bytes h)
