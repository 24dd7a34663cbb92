-- What is known of an answer that is a bundle of the bytes, or their first fault.
use Rattle.std.proofs.Common.{◌≡◌, inl, inr, ℕ, List, Result, Ok, Err, ap}
use Rattle.std.specs.Prelude.{IfOk, IfErr}
use Rattle.ia_program.specs.Bundles.{Bundle}
use Rattle.insn_codec.specs.declared.bundle.SlotFault.{SlotFault}
use Rattle.insn_codec.specs.Spelling.{IsSpelled}
use Rattle.insn_codec.specs.SlotFaults.{HasSlotFault}
use Rattle.insn_codec.specs.Laws.{OneBundle, OneFault, NoFaultWhereSpelled, BundleOrFault}

-- What is returned is the bundle that the bytes are.
pub answers_bundle : OneBundle → NoFaultWhereSpelled → (bytes : List ℕ) (r : Result Bundle SlotFault) → IfOk r (λ b. IsSpelled b bytes)
    → IfErr r (HasSlotFault bytes) → (b : Bundle) → IsSpelled b bytes → r ≡ Ok b
answers_bundle one none bytes (Ok c) found fault b s = ap Ok (one bytes c b found s)
answers_bundle one none bytes (Err f) found fault b s = absurd (none b bytes f s fault)

-- What is returned is the fault that the bytes have.
pub answers_fault : OneFault → NoFaultWhereSpelled → (bytes : List ℕ) (r : Result Bundle SlotFault) → IfOk r (λ b. IsSpelled b bytes)
    → IfErr r (HasSlotFault bytes) → (f : SlotFault) → HasSlotFault bytes f → r ≡ Err f
answers_fault one none bytes (Ok c) found fault f has = absurd (none c bytes f found has)
answers_fault one none bytes (Err g) found fault f has = ap Err (one bytes g f fault has)

-- The bytes are those of a bundle, or they have a fault.
pub bundle_or_fault : (bytes : List ℕ) (r : Result Bundle SlotFault) → IfOk r (λ b. IsSpelled b bytes) → IfErr r (HasSlotFault bytes)
    → BundleOrFault bytes
bundle_or_fault bytes (Ok b) found fault = inl (b, found)
bundle_or_fault bytes (Err f) found fault = inr (f, fault)
