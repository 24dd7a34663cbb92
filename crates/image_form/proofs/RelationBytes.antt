-- Relations and their bytes, eight a relation, one after the other.
use Rattle.std.proofs.Common.{◌≡◌, ℕ, zero, suc, ◌+◌, ◌*◌, ◌^◌, ◌<◌, ◌≤◌, List, [], ◌∷◌, ◌++◌, length, take, drop, refl, sym, ap, ◌∙◌, arith}
use Rattle.std.specs.Prelude.{slice_index, slice_index_or}
use Rattle.std.specs.Int.{w32, from_le_bytes}
use Rattle.std.proofs.Math.Seq.{take-add}
use Rattle.std.proofs.lemmas.Nat.{from_le_bytes-to_le_bytes_4}
use Rattle.std.proofs.lemmas.List.{drop-drop, length-drop, get_or-drop, flat_map_more, take_more}
use Rattle.ia_program.specs.declared.relations.Relation.{Relation}
use Rattle.ia_program.specs.Programs.{AreBytes, relation_at}
use Rattle.ia_program.proofs.DeclaredRelations.{same_relation}
use Rattle.image_form.specs.Images.{eight_bytes, written_relations}
use Rattle.image_form.specs.Parts.{relation_in, relations_in, IsPadded, ArePadded}
use Rattle.image_form.proofs.NumberBytes.{bytes_drop, first_four}

-- The relation from a place on, of what is left from another place on.
relation_in-drop : (n at : ℕ) (bytes : List ℕ) → relation_in (drop n bytes) at ≡ relation_in bytes (n + at)
relation_in-drop n at bytes = same_relation (relation_in (drop n bytes) at) (relation_in bytes (n + at))
    (ap (λ l. from_le_bytes w32 (take 4 l)) (drop-drop at n bytes))
    (get_or-drop n bytes (at + 4) 0 ∙ ap (slice_index bytes) (omega arith))
    (get_or-drop n bytes (at + 5) 0 ∙ ap (slice_index bytes) (omega arith))

one-more : (n : ℕ) (bytes : List ℕ) → relations_in (suc n) bytes ≡ relations_in n bytes ++ relation_in bytes (8 * n) ∷ []
one-more zero bytes = refl
one-more (suc n) bytes =
    let e : relation_in (drop 8 bytes) (8 * n) ≡ relation_in bytes (8 * suc n) =
    relation_in-drop 8 (8 * n) bytes ∙ ap (relation_in bytes) (omega arith) in
    ap (λ l. relation_in bytes 0 ∷ l) (one-more n (drop 8 bytes) ∙ ap (λ r. relations_in n (drop 8 bytes) ++ r ∷ []) e)

-- One relation more is read.
pub one_more_read : (n : ℕ) (bytes : List ℕ) → relations_in (n + 1) bytes ≡ relations_in n bytes ++ relation_in bytes (8 * n) ∷ []
one_more_read n bytes = ap (λ k. relations_in k bytes) (let e : n + 1 ≡ suc n = omega arith in e) ∙ one-more n bytes

-- One relation more is written.
pub one_more_written : (old : List ℕ) (rs : List Relation) (n : ℕ) (r : Relation) → n < length rs
    → (old ++ written_relations (take n rs)) ++ eight_bytes (slice_index_or rs n r) ≡ old ++ written_relations (take (n + 1) rs)
one_more_written old rs n r inside =
    flat_map_more eight_bytes old (take n rs) (slice_index_or rs n r) ∙ ap (λ l. old ++ written_relations l) (sym (take_more rs n r inside))

-- How many relations are read.
pub length-relations_in : (n : ℕ) (bytes : List ℕ) → length (relations_in n bytes) ≡ n
length-relations_in zero bytes = refl
length-relations_in (suc n) bytes = ap suc (length-relations_in n (drop 8 bytes))

-- The zeros of the eight bytes after the first eight.
padded_on : (bytes : List ℕ) (n : ℕ) → IsPadded bytes (suc n) → IsPadded (drop 8 bytes) n
padded_on bytes n is = record {
  first = get_or-drop 8 bytes (8 * n + 6) 0 ∙ ap (slice_index bytes) (omega arith) ∙ is.first;
  second = get_or-drop 8 bytes (8 * n + 7) 0 ∙ ap (slice_index bytes) (omega arith) ∙ is.second;
}

padded_back : (bytes : List ℕ) (n : ℕ) → IsPadded (drop 8 bytes) n → IsPadded bytes (suc n)
padded_back bytes n is = record {
  first = ap (slice_index bytes) (omega arith) ∙ sym (get_or-drop 8 bytes (8 * n + 6) 0) ∙ is.first;
  second = ap (slice_index bytes) (omega arith) ∙ sym (get_or-drop 8 bytes (8 * n + 7) 0) ∙ is.second;
}

-- Four bytes, one by one.
four : (bytes : List ℕ) → 4 ≤ length bytes → take 4 bytes ≡ slice_index bytes 0 ∷ slice_index bytes 1 ∷ slice_index bytes 2 ∷ slice_index
    bytes 3 ∷ []
four [] long = absurd (omega arith)
four (a ∷ []) long = absurd (omega arith)
four (a ∷ b ∷ []) long = absurd (omega arith)
four (a ∷ b ∷ c ∷ []) long = absurd (omega arith)
four (a ∷ b ∷ c ∷ d ∷ rest) long = refl

-- The second four of eight bytes of which the last two are zero.
second_four : (bytes : List ℕ) → 8 ≤ length bytes → IsPadded bytes 0
    → slice_index bytes 4 ∷ slice_index bytes 5 ∷ 0 ∷ 0 ∷ [] ≡ take 4 (drop 4 bytes)
second_four bytes long is =
    sym (four (drop 4 bytes) (simp length-drop (omega arith))
    ∙ (λ i. get_or-drop 4 bytes 0 0 i ∷ get_or-drop 4 bytes 1 0 i ∷ (get_or-drop 4 bytes 2 0 ∙ is.first)
    i ∷ (get_or-drop 4 bytes 3 0 ∙ is.second) i ∷ []))

-- What was read is written as it was, where the last two bytes of each are zero.
pub written-relations_in : (n : ℕ) (bytes : List ℕ) → 8 * n ≤ length bytes → AreBytes bytes → ArePadded n bytes
    → written_relations (relations_in n bytes) ≡ take (8 * n) bytes
written-relations_in zero bytes fits are padded = refl
written-relations_in (suc n) bytes fits are padded =
    let rest : written_relations (relations_in n (drop 8 bytes)) ≡ take (8 * n) (drop 8 bytes) =
    written-relations_in n (drop 8 bytes) (simp length-drop (omega arith)) (bytes_drop 8 bytes are)
    (λ k less. padded_on bytes k (padded (suc k) (omega arith))) in
    let here : eight_bytes (relation_in bytes 0) ≡ take 8 bytes =
    ap (λ l. l ++ (slice_index bytes 4 ∷ slice_index bytes 5 ∷ 0 ∷ 0 ∷ [])) (first_four bytes (omega arith) are)
    ∙ ap (λ l. take 4 bytes ++ l) (second_four bytes (omega arith) (padded 0 (omega arith)))
    ∙ sym (take-add 4 4 bytes) in
    ap (λ l. l ++ written_relations (relations_in n (drop 8 bytes))) here
    ∙ ap (λ l. take 8 bytes ++ l) rest
    ∙ sym (take-add 8 (8 * n) bytes)
    ∙ ap (λ k. take k bytes) (let e : 8 + 8 * n ≡ 8 * suc n = omega arith in e)

-- The bundle of each relation of a list fits four bytes.
abbrev pub HaveSmallBundles : List Relation → Type 0
HaveSmallBundles rs = (k : ℕ) → k < length rs → (relation_at rs k).bundle < 2 ^ 32

-- What was written is read as it was.
pub relations_in-written : (rs : List Relation) → HaveSmallBundles rs → relations_in (length rs) (written_relations rs) ≡ rs
relations_in-written [] small = refl
relations_in-written (r ∷ rs) small =
    let first : relation_in (written_relations (r ∷ rs)) 0 ≡ r =
    same_relation (relation_in (written_relations (r ∷ rs)) 0) r (from_le_bytes-to_le_bytes_4 r.bundle (small 0 (omega arith))) refl
    refl in
    let later : relations_in (length rs) (written_relations rs) ≡ rs = relations_in-written rs (λ k less. small (suc k) (omega arith)) in
    λ i. first i ∷ later i

-- The last two bytes of each relation that was written are zero.
pub written_padded : (rs : List Relation) → ArePadded (length rs) (written_relations rs)
written_padded [] n less = absurd (omega arith)
written_padded (r ∷ rs) zero less = record { first = refl; second = refl }
written_padded (r ∷ rs) (suc n) less = padded_back (written_relations (r ∷ rs)) n (written_padded rs n (omega arith))

pub length-written_relations : (rs : List Relation) → length (written_relations rs) ≡ 8 * length rs
length-written_relations [] = refl
length-written_relations (r ∷ rs) = let e = length-written_relations rs in omega arith
