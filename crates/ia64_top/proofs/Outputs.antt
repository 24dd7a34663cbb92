-- What is stated of what an input is read as.
use Rattle.std.proofs.Common.{◌≡◌, ℕ, inl, inr, List, sym, ap, ◌∙◌, subst}
use Rattle.std.specs.Prelude.{◌⊎◌, IfOk, MatchResult, Result, Ok, Err}
use Rattle.ia_program.specs.Programs.{Program}
use Rattle.image_form.specs.Laws.{OneProgram, NoFaultWhereSpelled, NoFaultWhereRaw}
use Rattle.asm_build.specs.Laws.{OneTextProgram, NoFaultWhereRead}
use Rattle.stop_placer.specs.Packed.{Packed}
use Rattle.stop_placer.specs.Laws.{OnePlaced, NoFaultWherePlaced}
use Rattle.ia64_top.specs.declared.status.Status.{Status}
use Rattle.ia64_top.specs.declared.status.Status.TheVariants.{Refused}
use Rattle.ia64_top.specs.declared.answer.Answer.{Answer}
use Rattle.ia64_top.specs.Readings.{InputReading, IsRefusal, as_image, as_bundles, as_text, as_loose, as_either}
use Rattle.image_form.specs.Images.{BeginsAsImage}
use Rattle.ia64_top.specs.Output.{IsMadeOutput}

-- What is there where a call went well, told by what its contract tells.
pub if_ok : {T E : Type 0} {P Q : T → Type 0} (result : Result T E) → IfOk result P → ((x : T) → P x → Q x) → IfOk result Q
if_ok (Ok x) p tell = tell x p
if_ok (Err e) p tell = tt

-- An input that is read in this way isn't refused.
abbrev pub RefusesNone : InputReading → Type 0
RefusesNone r = (input : List ℕ) (p : Program) (bytes : List ℕ) → r.Gives input p → r.Refuses input bytes → ⊥

pub image_refuses_none : NoFaultWhereSpelled → RefusesNone as_image
image_refuses_none none input p bytes given refused = none p input refused.0 given refused.1

pub bundles_refuse_none : NoFaultWhereRaw → RefusesNone as_bundles
bundles_refuse_none none input p bytes given refused = none p input refused.0 given refused.1

pub text_refuses_none : NoFaultWhereRead → RefusesNone as_text
text_refuses_none none input p bytes given refused = none input p refused.0 given refused.1

pub loose_refuses_none : NoFaultWherePlaced → RefusesNone as_loose
loose_refuses_none none input p bytes given refused = none input given.0 refused.0 given.1 refused.1

pub either_refuses_none : NoFaultWhereSpelled → NoFaultWhereRead → RefusesNone as_either
either_refuses_none spelled read input p bytes (inl g) (inl r) = image_refuses_none spelled input p bytes g.1 r.1
either_refuses_none spelled read input p bytes (inl g) (inr r) = absurd (r.0 g.0)
either_refuses_none spelled read input p bytes (inr g) (inl r) = absurd (g.0 r.0)
either_refuses_none spelled read input p bytes (inr g) (inr r) = text_refuses_none read input p bytes g.1 r.1

-- An input is read as one program.
abbrev pub GivesOne : InputReading → Type 0
GivesOne r = (input : List ℕ) (p q : Program) → r.Gives input p → r.Gives input q → p ≡ q

pub loose_gives_one : OnePlaced → GivesOne as_loose
loose_gives_one one input p q a b = sym a.2 ∙ ap (λ (k : Packed). k.program) (one input a.0 b.0 a.1 b.1) ∙ b.2

pub either_gives_one : OneProgram → OneTextProgram → GivesOne as_either
either_gives_one image text input p q (inl a) (inl b) = image input p q a.1 b.1
either_gives_one image text input p q (inl a) (inr b) = absurd (b.0 a.0)
either_gives_one image text input p q (inr a) (inl b) = absurd (a.0 b.0)
either_gives_one image text input p q (inr a) (inr b) = text input p q a.1 b.1

-- What is told of the program that an input is read as, or that it is refused.
abbrev pub IsTold : InputReading → (Program → List ℕ → Status → Type 0) → List ℕ → List ℕ → Status → Type 0
IsTold r Tells input bytes status =
    ((p : Program) × r.Gives input p × Tells p bytes status) ⊎ IsRefusal r input bytes status

-- What holds of each program that it is told of holds of what the input is read as.
pub holds_where_told : (r : InputReading) (Tells : Program → List ℕ → Status → Type 0) (P : Program → Status → Type 0)
    → ((p : Program) (bytes : List ℕ) (status : Status) → Tells p bytes status → P p status)
    → GivesOne r → RefusesNone r → (input bytes : List ℕ) (status : Status) → IsTold r Tells input bytes status → (p : Program)
    → r.Gives input p → P p status
holds_where_told r Tells P holds one none input bytes status (inl t) p g =
    subst (λ x. P x status) (one input t.0 p t.1 g) (holds t.0 bytes status t.2)
holds_where_told r Tells P holds one none input bytes status (inr t) p g = absurd (none input p bytes g t.0)

-- The output of a refusal.
pub is_refusal : (r : InputReading) (Makes : Program → List ℕ → Type 0) (input bytes : List ℕ) (status : Status) → r.Refuses input bytes
    → status ≡ Refused
    → IsMadeOutput r Makes input bytes status
is_refusal r Makes input bytes status refused e = subst (IsMadeOutput r Makes input bytes) (sym e) refused

-- An input that begins as an image does is read as one, and any other as a text.
pub image_taken : (input : List ℕ) → BeginsAsImage input
    → (taken : Result Program Answer) → MatchResult taken (as_image.Gives input) (λ a. IsRefusal as_image input a.bytes.items a.status)
    → MatchResult taken (as_either.Gives input) (λ a. IsRefusal as_either input a.bytes.items a.status)
image_taken input m (Ok p) given = inl (m, given)
image_taken input m (Err a) refused = (inl (m, refused.0), refused.1)

pub text_taken : (input : List ℕ) → ¬ BeginsAsImage input
    → (taken : Result Program Answer) → MatchResult taken (as_text.Gives input) (λ a. IsRefusal as_text input a.bytes.items a.status)
    → MatchResult taken (as_either.Gives input) (λ a. IsRefusal as_either input a.bytes.items a.status)
text_taken input m (Ok p) given = inr (m, given)
text_taken input m (Err a) refused = (inr (m, refused.0), refused.1)
