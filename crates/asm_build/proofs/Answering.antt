-- What an answer that is one of a text's says of all that the text reads as.
use Rattle.std.proofs.Common.{◌≡◌, ◌⊎◌, inl, inr, ap, ℕ, List, Result, Ok, Err}
use Rattle.std.specs.Prelude.{IfOk, IfErr}
use Rattle.asm_build.specs.declared.reason.TextError.{TextError}
use Rattle.asm_build.specs.declared.reason.TextError.TheVariants as error

-- What a text reads as, and which fault it has.
abbrev pub IsOne : {T : Type 0} → (List ℕ → T → Type 0) → Type 0
IsOne {T} Reads = (text : List ℕ) (p q : T) → Reads text p → Reads text q → p ≡ q

abbrev pub AreApart : {T : Type 0} → (List ℕ → T → Type 0) → (List ℕ → TextError → Type 0) → Type 0
AreApart {T} Reads Has = (text : List ℕ) (p : T) (e : TextError) → Reads text p → Has text e → ⊥

pub answers_value : {T : Type 0} (Reads : List ℕ → T → Type 0) (Has : List ℕ → TextError → Type 0) → IsOne Reads → AreApart Reads Has
    → (text : List ℕ) (r : Result T TextError) → IfOk r (Reads text) → IfErr r (λ e. (e ≡ error.Memory) ⊎ Has text e)
    → (p : T) → Reads text p → (r ≡ Ok p) ⊎ (r ≡ Err error.Memory)
answers_value Reads Has one none text (Ok q) found fault p reads = inl (ap Ok (one text q p found reads))
answers_value Reads Has one none text (Err e) found (inl memory) p reads = inr (ap Err memory)
answers_value Reads Has one none text (Err e) found (inr has) p reads = absurd (none text p e reads has)

pub answers_fault : {T : Type 0} (Reads : List ℕ → T → Type 0) (Has : List ℕ → TextError → Type 0) → IsOne Has → AreApart Reads Has
    → (text : List ℕ) (r : Result T TextError) → IfOk r (Reads text) → IfErr r (λ e. (e ≡ error.Memory) ⊎ Has text e)
    → (e : TextError) → Has text e → (r ≡ Err e) ⊎ (r ≡ Err error.Memory)
answers_fault Reads Has one none text (Ok q) found fault e has = absurd (none text q e found has)
answers_fault Reads Has one none text (Err f) found (inl memory) e has = inr (ap Err memory)
answers_fault Reads Has one none text (Err f) found (inr also) e has = inl (ap Err (one text f e also has))
