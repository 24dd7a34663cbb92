-- A text reads as one loose text or has one first fault, and not both, but one of the two.
use Rattle.std.specs.Prelude.{◌≡◌, ◌⊎◌, ℕ, List}
use Rattle.asm_build.specs.declared.reason.Reason.{Reason}
use Rattle.asm_build.specs.declared.reason.TextError.{TextError}
use Rattle.asm_build.specs.declared.reason.TextError.TheVariants.{Fault}
use Rattle.loose_text.specs.LooseReading.{ReadsLoose, HasLooseFault}
use Rattle.loose_text.specs.LooseTexts.{Loose, IsLoose}

-- A text reads as at most one loose text.
abbrev pub OneLooseText : Type 0
OneLooseText = (text : List ℕ) (s t : Loose) → ReadsLoose text s → ReadsLoose text t → s ≡ t

-- A text has at most one first fault.
abbrev pub OneLooseFault : Type 0
OneLooseFault = (text : List ℕ) (e f : TextError) → HasLooseFault text e → HasLooseFault text f → e ≡ f

-- A text that reads as a loose text has none.
abbrev pub NoLooseFaultWhereRead : Type 0
NoLooseFaultWhereRead = (text : List ℕ) (t : Loose) (e : TextError) → ReadsLoose text t → HasLooseFault text e → ⊥

-- The text reads as a loose text, or a line and a reason are its first fault.
abbrev pub LooseTextOrFault : List ℕ → Type 0
LooseTextOrFault text =
    ((t : Loose) × ReadsLoose text t) ⊎ ((line : ℕ) × (reason : Reason) × HasLooseFault text (Fault line reason))

-- What a text reads as is a loose text.
abbrev pub ReadIsLoose : Type 0
ReadIsLoose = (text : List ℕ) (t : Loose) → ReadsLoose text t → IsLoose t
