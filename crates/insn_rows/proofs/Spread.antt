-- A word as fixed bits and fields that lie apart, in any order.
use Rattle.std.proofs.Common.{◌≡◌, ℕ, ◌+◌, ◌-◌, ◌*◌, ◌^◌, ◌<◌, ◌≤◌, ◌⊎◌, inl, inr, List, [], ◌∷◌, map, Bool, true, false, leb, sym, ap, ◌∙◌, refl, arith, subst}
use Rattle.std.specs.Prelude.{◌||◌}
use Rattle.std.specs.List.{list_all}
use Rattle.std.proofs.lemmas.Bool.{leb-true, eqb-true}
use Rattle.bundle_bits.specs.Words.{Part, word_of, AllFit, bits}
use Rattle.bundle_bits.proofs.Words.{Reads, both-left, both-right}
use Rattle.bundle_bits.proofs.Fields.{with_bits, with-same, with-other, with-fits, changed}
use Rattle.insn_rows.specs.declared.bits.BitField.{BitField}
use Rattle.insn_rows.specs.WellMade.{are_apart, are_apart_fields, is_clear}

pub either : (a b : Bool) → (a || b) ≡ true → (a ≡ true) ⊎ (b ≡ true)
either true b h = inl refl
either false b h = inr h

abbrev pub field_of : Part → BitField
field_of p = record { low = p.low; width = p.width }

split : (p q : BitField) → are_apart p q ≡ true → (p.low + p.width ≤ q.low) ⊎ (q.low + q.width ≤ p.low)
split p q h = elim (either (leb (p.low + p.width) q.low) (leb (q.low + q.width) p.low) h) [
  | inl a ↦ inl (leb-true _ _ a)
  | inr b ↦ inr (leb-true _ _ b)
]

swap : (p q : BitField) → are_apart p q ≡ true → (q.low + q.width ≤ p.low) ⊎ (p.low + p.width ≤ q.low)
swap p q h = elim (split p q h) [ inl a ↦ inr a | inr b ↦ inl b ]

-- One more field where there are zeros.
put_on : (b : ℕ) (p : Part) (ps : List Part) → bits p.low p.width (b + word_of ps) ≡ 0
    → b + word_of (p ∷ ps) ≡ with_bits (b + word_of ps) p.low p.width p.value
put_on b p ps empty =
    let e : b + word_of (p ∷ ps) ≡ b + word_of ps - bits p.low p.width (b + word_of ps) * 2 ^ p.low + p.value * 2 ^ p.low =
    rw empty (omega arith) in
    e ∙ changed (b + word_of ps) p.low p.width p.value

-- What lies apart from all fields is as in the fixed bits.
pub untouched : (b : ℕ) (ps : List Part) (q : BitField) → list_all (are_apart q) (map field_of ps) ≡ true → AllFit ps
    → are_apart_fields (map field_of ps) ≡ true → list_all (is_clear b) (map field_of ps) ≡ true
    → bits q.low q.width (b + word_of ps) ≡ bits q.low q.width b
untouched b [] q h fit s cl = ap (bits q.low q.width) (let e : b + 0 ≡ b = omega arith in e)
untouched b (p ∷ ps) q h fit s cl =
    let s1 = both-left _ _ s in
    let empty : bits p.low p.width (b + word_of ps) ≡ 0 =
    untouched b ps (field_of p) (both-right _ _ s1) fit.1 (both-right _ _ s) (both-right _ _ cl) ∙ eqb-true _ _ (both-left _ _ cl) in
    ap (bits q.low q.width) (put_on b p ps empty) ∙ with-other (b + word_of ps) p.low p.width p.value fit.0 q.low q.width
    (split q (field_of p) (both-left _ _ h))
    ∙ untouched b ps q (both-right _ _ h) fit.1 (both-right _ _ s) (both-right _ _ cl)

-- A field may be put where there are zeros.
pub put : (b : ℕ) (p : Part) (ps : List Part) → AllFit ps → are_apart_fields (map field_of (p ∷ ps)) ≡ true
    → list_all (is_clear b) (map field_of (p ∷ ps)) ≡ true → b + word_of (p ∷ ps) ≡ with_bits (b + word_of ps) p.low p.width p.value
put b p ps fit s cl =
    put_on b p ps (untouched b ps (field_of p) (both-right _ _ (both-left _ _ s)) fit (both-right _ _ s) (both-right _ _ cl)
    ∙ eqb-true _ _ (both-left _ _ cl))

kept : (n : ℕ) (p : Part) (ps : List Part) → p.value < 2 ^ p.width → list_all (are_apart (field_of p)) (map field_of ps) ≡ true → Reads n ps
    → Reads (with_bits n p.low p.width p.value) ps
kept n p [] fit h r = tt
kept n p (q ∷ ps) fit h r = (
  with-other n p.low p.width p.value fit q.low q.width (swap (field_of p) (field_of q) (both-left _ _ h)) ∙ r.0,
  kept n p ps fit (both-right _ _ h) r.1,
)

-- Each field has its value.
pub reads_spread : (b : ℕ) (ps : List Part) → AllFit ps → are_apart_fields (map field_of ps) ≡ true
    → list_all (is_clear b) (map field_of ps) ≡ true → Reads (b + word_of ps) ps
reads_spread b [] fit s cl = tt
reads_spread b (p ∷ ps) fit s cl =
    let P : ℕ → Type 0 = λ n. Reads n (p ∷ ps) in
    subst P (sym (put b p ps fit.1 s cl)) (
      with-same (b + word_of ps) p.low p.width p.value fit.0,
      kept (b + word_of ps) p ps fit.0 (both-right _ _ (both-left _ _ s)) (reads_spread b ps fit.1 (both-right _ _ s) (both-right _ _ cl)),
    )

-- The word has 41 bits.
pub spread-below : (b : ℕ) (ps : List Part) → b < 2 ^ 41 → AllFit ps → are_apart_fields (map field_of ps) ≡ true
    → list_all (is_clear b) (map field_of ps) ≡ true → b + word_of ps < 2 ^ 41
spread-below b [] h fit s cl = omega arith
spread-below b (p ∷ ps) h fit s cl =
    let P : ℕ → Type 0 = λ n. n < 2 ^ 41 in
    subst P (sym (put b p ps fit.1 s cl)) (with-fits (b + word_of ps) p.low p.width p.value 41
    (leb-true _ _ (both-left _ _ (both-left _ _ s))) (spread-below b ps h fit.1 (both-right _ _ s) (both-right _ _ cl)) fit.0)
