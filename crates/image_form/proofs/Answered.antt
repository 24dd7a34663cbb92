-- What is answered where bytes are at most one program or have at most one fault, and memory may be wanting.
use Rattle.std.proofs.Common.{◌≡◌, ◌⊎◌, inl, inr, Ok, Err, Result, refl, ap}
use Rattle.std.specs.Prelude.{◌≢◌, IfOk, IfErr}
use Rattle.ia_program.specs.Programs.{Program}
use Rattle.image_form.specs.declared.fault.ImageFault.{ImageFault}
use Rattle.image_form.specs.declared.fault.ImageFault.TheVariants.{Memory}

is_memory : (fault : ImageFault) → (fault ≡ Memory) ⊎ (fault ≢ Memory)
is_memory Memory = inl refl
is_memory fault = inr (λ e. cc)

-- The one program is answered, unless memory is wanting.
pub only_program : (Is : Program → Type 0) (Has : ImageFault → Type 0) → ((p q : Program) → Is p → Is q → p ≡ q)
    → ((p : Program) (fault : ImageFault) → Is p → Has fault → ⊥) → (result : Result Program ImageFault) → IfOk result Is
    → IfErr result (λ fault. fault ≢ Memory → Has fault) → (p : Program) → Is p → (result ≡ Ok p) ⊎ (result ≡ Err Memory)
only_program Is Has one none (Ok q) found fault p is = inl (ap Ok (one q p found is))
only_program Is Has one none (Err why) found fault p is = elim (is_memory why) [
  | inl memory ↦ inr (ap Err memory)
  | inr other ↦ absurd (none p why is (fault other))
]

-- The one fault is answered, unless memory is wanting.
pub only_fault : (Is : Program → Type 0) (Has : ImageFault → Type 0) → ((f g : ImageFault) → Has f → Has g → f ≡ g)
    → ((p : Program) (fault : ImageFault) → Is p → Has fault → ⊥) → (result : Result Program ImageFault) → IfOk result Is
    → IfErr result (λ fault. fault ≢ Memory → Has fault) → (fault : ImageFault) → Has fault → (result ≡ Err fault) ⊎ (result ≡ Err Memory)
only_fault Is Has one none (Ok q) found fault why has = absurd (none q why found has)
only_fault Is Has one none (Err other) found fault why has = elim (is_memory other) [
  | inl memory ↦ inr (ap Err memory)
  | inr not ↦ inl (ap Err (one other why (fault not) has))
]
