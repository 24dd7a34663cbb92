-- What the lines of printed data come to.
use Rattle.std.proofs.Common.{◌≡◌, ◌∙◌, ℕ, zero, suc, ◌+◌, ◌≤◌, ◌%◌, true, ◌||◌, ◌==◌, List, [], ◌∷◌, ◌++◌, length, take, drop, codes, None, refl, sym, ap, subst, arith, append_assoc, append-nil, length-append, length-drop, take-append-drop}
use Rattle.std.specs.Prelude.{if◌then◌else◌}
use Rattle.std.specs.Int.{w64, to_le_bytes}
use Rattle.std.proofs.lemmas.Bool.{eq-eqb, ne_eqb, or_right}
use Rattle.std.proofs.lemmas.Grind.{flat_map-append}
use Rattle.ia_program.specs.declared.limits.TheConstants.{DATA_LIMIT}
use Rattle.asm_reading.specs.declared.line.Line.TheVariants as says
use Rattle.asm_build.specs.declared.draft.BundleLines.{BundleLines}
use Rattle.asm_build.specs.declared.text_parts.EntryLine.{EntryLine}
use Rattle.asm_build.specs.declared.text_parts.RelationLine.{RelationLine}
use Rattle.asm_build.specs.declared.text_parts.Section.TheVariants as section
use Rattle.asm_build.specs.CanonicalText.{line as text_line, words_text, is_nothing}
use Rattle.asm_build.specs.TextParts.{TextParts, Labels, numbers_bytes}
use Rattle.asm_build.proofs.DataBack.{AreWords}
use Rattle.asm_build.proofs.PrintedLines.{data_says}
use Rattle.asm_build.proofs.PrintedNumbers.{hex_text, more_text, numbers_text, numbers_say}
use Rattle.asm_build.proofs.Taking.{Goes, stays, goes_on, line_goes}
use Rattle.asm_build.proofs.WrittenBundles.{outside}

-- Outside a bundle, where data are being written.
abbrev pub in_data : List BundleLines → List EntryLine → List RelationLine → Labels → List ℕ → TextParts
in_data bs es rs ls bytes =
    record { section = section.Data; current = None; bundles = bs; entries = es; relations = rs; labels = ls; bytes = bytes }

-- The line feed after a word, where it has one.
abbrev end_text : ℕ → List ℕ → List ℕ
end_text k ws = if (k % 8 == 7) || is_nothing ws then 10 ∷ [] else []

end_of_line : (k : ℕ) (ws : List ℕ) → k % 8 ≡ 7 → end_text k ws ≡ 10 ∷ []
end_of_line k ws h = rw (eq-eqb (k % 8) 7 h) refl

end_of_data : (k : ℕ) → end_text k [] ≡ 10 ∷ []
end_of_data k = rw (or_right (k % 8 == 7) true refl) refl

no_end : (k w : ℕ) (ws : List ℕ) → (k % 8 ≡ 7 → ⊥) → end_text k (w ∷ ws) ≡ []
no_end k w ws h = rw (ne_eqb (k % 8) 7 h) refl

comma_word : (k w : ℕ) (ws : List ℕ) → (k % 8 ≡ 0 → ⊥) → words_text k (w ∷ ws)
    ≡ (44 ∷ hex_text w) ++ (end_text k ws ++ words_text (k + 1) ws)
comma_word k w ws h = rw (ne_eqb (k % 8) 0 h) refl

first_word : (k w : ℕ) (ws : List ℕ) → k % 8 ≡ 0 → words_text k (w ∷ ws)
    ≡ (codes "data8 " ++ hex_text w) ++ (end_text k ws ++ words_text (k + 1) ws)
first_word k w ws h = rw (eq-eqb (k % 8) 0 h) refl

-- After a word come those that its line has room for, and the lines of the rest.
rest_of_line : (room k : ℕ) (ws : List ℕ) → k % 8 + room ≡ 7 → end_text k ws ++ words_text (k + 1) ws
    ≡ more_text (take room ws) ++ 10 ∷ words_text (k + 1 + room) (drop room ws)
rest_of_line zero k ws h =
    let same : k + 1 + 0 ≡ k + 1 = omega arith in
    ap (λ e. e ++ words_text (k + 1) ws) (end_of_line k ws (omega (arith, h))) ∙ ap (λ m. 10 ∷ words_text m ws) (sym same)
rest_of_line (suc room) k [] h = ap (λ e. e ++ []) (end_of_data k)
rest_of_line (suc room) k (w ∷ ws) h =
    let same : k + 1 + 1 + room ≡ k + 1 + suc room = omega arith in
    ap (λ e. e ++ words_text (k + 1) (w ∷ ws)) (no_end k w ws (λ e. omega (arith, h, e)))
    ∙ comma_word (k + 1) w ws (λ e. omega (arith, h, e))
    ∙ ap (λ rest. (44 ∷ hex_text w) ++ rest) (rest_of_line room (k + 1) ws (omega (arith, h)))
    ∙ sym (append_assoc (44 ∷ hex_text w) (more_text (take room ws)) (10 ∷ words_text (k + 1 + 1 + room) (drop room ws)))
    ∙ ap (λ m. ((44 ∷ hex_text w) ++ more_text (take room ws)) ++ 10 ∷ words_text m (drop room ws)) same

-- A line of words, and the lines of the rest.
words_by_line : (k w : ℕ) (ws : List ℕ) → k % 8 ≡ 0 → words_text k (w ∷ ws) ≡ text_line (numbers_text w (take 7 ws)) ++ words_text (k + 8)
    (drop 7 ws)
words_by_line k w ws h =
    let head = codes "data8 " ++ hex_text w in
    let rest = words_text (k + 8) (drop 7 ws) in
    let same : k + 1 + 7 ≡ k + 8 = omega arith in
    first_word k w ws h
    ∙ ap (λ t. head ++ t) (rest_of_line 7 k ws (omega (arith, h)) ∙ ap (λ m. more_text (take 7 ws) ++ 10 ∷ words_text m (drop 7 ws)) same)
    ∙ sym (append_assoc head (more_text (take 7 ws)) (10 ∷ rest)) ∙ sym (append_assoc (head ++ more_text (take 7 ws)) (10 ∷ []) rest)

words_taken : (n : ℕ) (ws : List ℕ) → AreWords ws → AreWords (take n ws)
words_taken zero ws h = tt
words_taken (suc n) [] h = tt
words_taken (suc n) (w ∷ ws) h = (h.0, words_taken n ws h.1)

words_left : (n : ℕ) (ws : List ℕ) → AreWords ws → AreWords (drop n ws)
words_left zero ws h = h
words_left (suc n) [] h = tt
words_left (suc n) (w ∷ ws) h = words_left n ws h.1

few_taken : (n : ℕ) (ws : List ℕ) → length (take n ws) ≤ n
few_taken zero ws = omega arith
few_taken (suc n) [] = omega arith
few_taken (suc n) (w ∷ ws) = omega (arith, few_taken n ws)

numbers_both : (xs ys : List ℕ) → numbers_bytes 8 (xs ++ ys) ≡ numbers_bytes 8 xs ++ numbers_bytes 8 ys
numbers_both xs ys = flat_map-append (λ v. take 8 (to_le_bytes w64 v)) xs ys

-- Lines that come to data.
pub record DataGoes (from : TextParts) (bs : List BundleLines) (es : List EntryLine) (rs : List RelationLine) (ls : Labels) (line : ℕ)
    (text bytes : List ℕ) : Type 0 where
  pub next : ℕ
  pub goes : Goes from line text (in_data bs es rs ls bytes) next

-- The lines of words.
words_go : (fuel : ℕ) (bs : List BundleLines) (es : List EntryLine) (rs : List RelationLine) (ls : Labels) (bytes : List ℕ) (line k : ℕ)
    (ws : List ℕ) → length ws ≤ fuel → k % 8 ≡ 0 → AreWords ws → length bytes + length (numbers_bytes 8 ws) ≤ DATA_LIMIT
    → DataGoes (in_data bs es rs ls bytes) bs es rs ls line (words_text k ws) (bytes ++ numbers_bytes 8 ws)
words_go fuel bs es rs ls bytes line k [] short eights small room =
    record {
      next = line;
      goes = subst (λ all. Goes (in_data bs es rs ls bytes) line [] (in_data bs es rs ls all) line)
          (sym (append-nil bytes)) (stays (in_data bs es rs ls bytes) line);
    }
words_go zero bs es rs ls bytes line k (w ∷ ws) short eights small room = absurd (omega (arith, short))
words_go (suc fuel) bs es rs ls bytes line k (w ∷ ws) short eights small room =
    let here = w ∷ take 7 ws in
    let both : numbers_bytes 8 (w ∷ ws) ≡ numbers_bytes 8 here ++ numbers_bytes 8 (drop 7 ws) =
    ap (λ vs. numbers_bytes 8 (w ∷ vs)) (sym (take-append-drop 7 ws)) ∙ numbers_both here (drop 7 ws) in
    let long = length-append (numbers_bytes 8 here) (numbers_bytes 8 (drop 7 ws)) in
    let size = ap length both in
    let now = bytes ++ numbers_bytes 8 here in
    let later =
    words_go fuel bs es rs ls now (line + 1) (k + 8) (drop 7 ws) (omega (arith, short, length-drop 7 ws)) (omega (arith, eights))
    (words_left 7 ws small.1) (omega (arith, room, long, size, length-append bytes (numbers_bytes 8 here))) in
    let one : Goes (in_data bs es rs ls bytes) line (text_line (numbers_text w (take 7 ws))) (in_data bs es rs ls now) (line + 1) =
    line_goes (in_data bs es rs ls bytes) line (numbers_text w (take 7 ws)) (says.Numbers 8 here)
    (numbers_say w (take 7 ws) (few_taken 7 ws) (small.0, words_taken 7 ws small.1))
    (record { closed = refl; same = refl }, (tt, (tt, (tt, (omega (arith, room, long, size), tt))))) in
    let all : now ++ numbers_bytes 8 (drop 7 ws) ≡ bytes ++ numbers_bytes 8 (w ∷ ws) =
    append_assoc bytes (numbers_bytes 8 here) (numbers_bytes 8 (drop 7 ws)) ∙ ap (λ more. bytes ++ more) (sym both) in
    let go =
    goes_on (in_data bs es rs ls bytes) (in_data bs es rs ls now)
    (in_data bs es rs ls (now ++ numbers_bytes 8 (drop 7 ws))) line (line + 1) later.next (text_line (numbers_text w (take 7 ws)))
    (words_text (k + 8) (drop 7 ws)) one later.goes in
    record {
      next = later.next;
      goes = subst (λ end. Goes (in_data bs es rs ls bytes) line (words_text k (w ∷ ws)) (in_data bs es rs ls end) later.next) all
          (subst (λ text. Goes (in_data bs es rs ls bytes) line text (in_data bs es rs ls (now ++ numbers_bytes 8 (drop 7 ws))) later.next)
          (sym (words_by_line k w ws eights)) go);
    }

-- The lines of data that there are.
pub data_goes : (bs : List BundleLines) (es : List EntryLine) (rs : List RelationLine) (ls : Labels) (line : ℕ) (ws : List ℕ) → AreWords ws
    → length (numbers_bytes 8 ws) ≤ DATA_LIMIT
    → DataGoes (outside bs es rs ls) bs es rs ls line (text_line (codes ".data") ++ words_text 0 ws) (numbers_bytes 8 ws)
data_goes bs es rs ls line ws small room =
    let words = words_go (length ws) bs es rs ls [] (line + 1) 0 ws (omega arith) refl small (omega (arith, room)) in
    record {
      next = words.next;
      goes =
          goes_on (outside bs es rs ls) (in_data bs es rs ls []) (in_data bs es rs ls (numbers_bytes 8 ws)) line (line + 1) words.next
          (text_line (codes ".data")) (words_text 0 ws)
          (line_goes (outside bs es rs ls) line (codes ".data") says.Data data_says (refl, (tt, (tt, (tt, (tt, tt))))))
          words.goes;
    }
