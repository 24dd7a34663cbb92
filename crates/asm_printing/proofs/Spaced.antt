-- A space that stands where something follows.
use Rattle.std.proofs.Common.{◌≡◌, ◌≢◌, ◌∙◌, ℕ, List, [], ◌∷◌, ◌++◌, length, take, ap, sym, append_assoc, append-nil, length-append, arith}
use Rattle.std.proofs.Math.Seq.{take-append_seam}
use Rattle.std.proofs.lemmas.List.{nil_from_length}
use Rattle.asm_printing.specs.SlotTexts.{spaced}

-- Where nothing follows, the space is taken back.
pub spaced_nothing : (all space before end : List ℕ) → space ≡ before ++ 32 ∷ [] → all ≡ space ++ end → length all ≡ length space
    → take (length before) all ≡ before ++ spaced end
spaced_nothing all space before end s a l =
    let e : end ≡ [] = nil_from_length end (omega (arith, ap length a, length-append space end, l)) in
    rw e (ap (take (length before)) (a ∙ ap (λ x. x ++ end) s ∙ append_assoc before (32 ∷ []) end) ∙ take-append_seam before (32 ∷ end)
    ∙ sym (append-nil before))

-- Where something follows, the space stays.
pub spaced_something : (all space before end : List ℕ) → space ≡ before ++ 32 ∷ [] → all ≡ space ++ end → length all ≢ length space
    → all ≡ before ++ spaced end
spaced_something all space before [] s a l = absurd (l (ap length (a ∙ append-nil space)))
spaced_something all space before (c ∷ cs) s a l = a ∙ ap (λ x. x ++ c ∷ cs) s ∙ append_assoc before (32 ∷ []) (c ∷ cs)
