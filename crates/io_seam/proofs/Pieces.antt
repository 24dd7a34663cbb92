-- What is taken or given in pieces, as one front of the bytes.
use Rattle.std.proofs.Common.{◌≡◌, ℕ, ◌+◌, ◌-◌, ◌≤◌, ◌↔◌, List, ◌++◌, Option, None, Some, IfSome, length, take, drop, sym, ap, subst, ◌∙◌, arith, length-append, length-take-le, take-take, take-append-drop}
use Rattle.std.proofs.Math.Seq.{drop-append_seam}
use Rattle.std.proofs.lemmas.List.{drop-take}
use Rattle.std.proofs.KnownBytes.{Appends-trans, Consumes-trans}
use Rattle.std.specs.Io.KnownBytes.{Appends, Consumes}
use Rattle.io_seam.specs.Bytes.{LosesFirst, LosesAtMost}

take-add : (i n : ℕ) (bytes : List ℕ) → take (i + n) bytes ≡ take i bytes ++ take n (drop i bytes)
take-add i n bytes =
    sym (take-append-drop i (take (i + n) bytes))
    ∙ ap (λ l. l ++ drop i (take (i + n) bytes)) (take-take i (i + n) bytes (omega arith))
    ∙ ap (λ l. take i bytes ++ l) (drop-take i n bytes)

-- What was given before and what a call on the rest gives are a longer front of the bytes.
pub Appends-next : (a b c : Option (List ℕ)) (bytes : List ℕ) (i n : ℕ) → i + n ≤ length bytes → Appends a b (take i bytes)
    → Appends b c (take n (take (length bytes - i) (drop i bytes))) → Appends a c (take (i + n) bytes)
Appends-next a b c bytes i n within before now =
    let part = take-take n (length bytes - i) (drop i bytes) (omega arith) in
    subst (Appends a c) (sym (take-add i n bytes)) (Appends-trans a b c _ _ before (subst (Appends b c) part now))

-- What is consumed is the front of what was left.
pub LosesFirst-consumed : (old new : Option (List ℕ)) (bytes : List ℕ) → Consumes old new bytes
    → IfSome old (λ left. LosesFirst (length bytes) left new)
LosesFirst-consumed None new bytes h = tt
LosesFirst-consumed (Some left) None bytes h = absurd h
LosesFirst-consumed (Some left) (Some rest) bytes h =
    let long : length bytes ≤ length left = omega (arith, ap length h, length-append bytes rest) in
    (long, ap Some (sym (ap (drop (length bytes)) h ∙ drop-append_seam bytes rest)))

-- A front and the first n bytes of the piece after it are the front of what was left.
pub LosesFirst-next : (old mid new : Option (List ℕ)) (front piece : List ℕ) (n count : ℕ) → n ≤ length piece → length front + n ≡ count
    → Consumes old mid front → Consumes mid new (take n piece) → IfSome old (λ left. LosesFirst count left new)
LosesFirst-next old mid new front piece n count within long before now =
    let e : length (front ++ take n piece) ≡ count = omega (arith, length-append front (take n piece), length-take-le n piece within) in
    subst (λ k. IfSome old (λ left. LosesFirst k left new)) e (LosesFirst-consumed old new _ (Consumes-trans old mid new _ _ before now))

pub at_most : (old new : Option (List ℕ)) (n most : ℕ) → n ≤ most → IfSome old (λ left. LosesFirst n left new)
    → IfSome old (λ left. LosesAtMost most left new)
at_most None new n most within h = tt
at_most (Some left) new n most within h = (n, within, h)

pub exactly_where : (old : Option (List ℕ)) (P : List ℕ → Type 0) (Q : Type 0) → Q → IfSome old P → IfSome old (λ left. Q ↔ P left)
exactly_where None P Q q h = tt
exactly_where (Some left) P Q q h = (λ _. h, λ _. q)
