-- Words in hexadecimal.
use Rattle.std.proofs.Common.{◌≡◌, ℕ, ◌^◌, ◌+◌, ◌-◌, ◌*◌, List, false, [], ap, length, arith}
use Rattle.std.proofs.lemmas.List.{append-nil}
use Rattle.std.specs.Fmt.{digits, padded_integral, format_spec, char_count, number_padding}
use Rattle.ia_program.specs.Addresses.{data_base}
use Rattle.ia_meaning.specs.Loads.{bytes_at, loaded}
use Rattle.ia_meaning.specs.StateText.{word_text}

missing_zeros : (k : ℕ) → number_padding (format_spec 32 0 4 16 (2 ^ 64 - 1)) false [] k ≡ 16 - k
unfolding char_count
missing_zeros k = omega arith

-- What `{:016x}` writes of a word.
pub padded_word : (n : ℕ) → padded_integral (format_spec 32 0 4 16 (2 ^ 64 - 1)) false [] (digits 16 false n) ≡ word_text n
unfolding padded_integral char_count word_text
padded_word n = rw (append-nil, missing_zeros (length (digits 16 false n)))

-- The n-th word of the data.
pub word_of_data : (bytes : List ℕ) (n : ℕ) → bytes_at bytes (8 * n) 8 ≡ loaded bytes (data_base + 8 * n) 8
unfolding loaded
word_of_data bytes n = let same : 8 * n ≡ data_base + 8 * n - data_base = omega arith in ap (λ at. bytes_at bytes at 8) same
