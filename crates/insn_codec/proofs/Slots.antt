-- What stands in the slots of a bundle.
use Rattle.std.proofs.Common.{◌≡◌, ℕ, List, [], ◌∷◌, length, slice_index_or, refl, sym, subst, arith, Bool, true, false, cond}
use Rattle.std.specs.Prelude.{◌≢◌, ◌/◌, slice_index, Option, None, IsSome, unwrap_or}
use Rattle.bundle_bits.specs.declared.bundle.RawBundle.{RawBundle}
use Rattle.bundle_bits.specs.RawBundle.{bundle_number}
use Rattle.ia_insn.specs.declared.insn.Insn.{Insn}
use Rattle.ia_insn.specs.declared.choices.Unit.{Unit as ExecutionUnit}
use Rattle.ia_insn.specs.declared.choices.Unit.TheVariants.{L}
use Rattle.ia_program.specs.declared.bundle.Slots.{Slots}
use Rattle.ia_program.specs.declared.bundle.Slots.TheVariants.{Three, Long}
use Rattle.ia_program.specs.Templates.{Shape, shape, shape_of, no_shape, IsTemplate, units_of}
use Rattle.ia_program.specs.Fits.{Fits}
use Rattle.ia_program.specs.Bundles.{Bundle, FitUnits}
use Rattle.insn_codec.specs.Slots.{UnitCode}
use Rattle.insn_codec.specs.Spelling.{StandIn, IsSpelled}

-- In an L slot no instruction has a word of its own.
pub not_of_l : (v : ExecutionUnit) (i : Insn) (w : ℕ) → UnitCode v i w → v ≢ L
not_of_l L i w code = absurd code
not_of_l v i w code = λ e. cc

-- Instructions that have the words of the slots fit them.
pub fit_units : (units : List ExecutionUnit) (slots : Slots) (words : List ℕ) → StandIn units slots words → FitUnits units slots
fit_units (u ∷ v ∷ w ∷ []) (Three a b c) words s = (s.0.fits, s.1.fits, s.2.fits, not_of_l v b (slice_index words 1) s.1.code)
fit_units (u ∷ v ∷ w ∷ []) (Long first long) words s = (s.0.fits, subst (λ (x : ExecutionUnit). Fits long x 1) (sym s.2) s.1.fits, s.2)
fit_units units slots words s = absurd s

-- The template, where there is one, has three units.
abbrev HasThree : Option Shape → Type 0
HasThree shape = IsSome shape → length (unwrap_or shape no_shape).units ≡ 3

one_more : (test : Bool) (u v w : ExecutionUnit) (inner : List ℕ) (others : Option Shape) → HasThree others
    → HasThree (cond test (shape u v w inner) others)
one_more true u v w inner others have is = refl
one_more false u v w inner others have is = have is

none_has_three : HasThree None
none_has_three is = absurd cc

three_units : (pair : ℕ) → HasThree (shape_of pair)
three_units pair = search (one_more, none_has_three) depth 16

pub template_units : (code : ℕ) → IsTemplate code → length (units_of code) ≡ 3
template_units code = three_units (code / 2)

-- Three items, one by one.
pub three_items : {A : Type 0} (d : A) (xs : List A) → length xs ≡ 3
    → (slice_index_or xs 0 d ∷ slice_index_or xs 1 d ∷ slice_index_or xs 2 d ∷ []) ≡ xs
three_items d [] n = absurd (omega arith)
three_items d (x ∷ []) n = absurd (omega arith)
three_items d (x ∷ y ∷ []) n = absurd (omega arith)
three_items d (x ∷ y ∷ z ∷ []) n = refl
three_items d (w ∷ x ∷ y ∷ z ∷ xs) n = absurd (omega arith)

-- What stands in the parts of a bundle's bytes.
pub record StandsInParts (b : Bundle) (raw : RawBundle) : Type 0 where
  pub code : raw.template ≡ b.template
  pub template : IsTemplate raw.template
  pub slots : StandIn (units_of raw.template) b.slots raw.slots

pub parts_of : (b : Bundle) (bytes : List ℕ) (raw : RawBundle) (s : IsSpelled b bytes) → s.raw ≡ raw → StandsInParts b raw
parts_of b bytes raw s e =
    subst (λ (r : RawBundle). StandsInParts b r) e (record {
      code = s.code;
      template = subst IsTemplate (sym s.code) s.template;
      slots = subst (λ (t : ℕ). StandIn (units_of t) b.slots s.raw.slots) (sym s.code) s.slots;
    })

pub same_bundle : (b : Bundle) (template : ℕ) (slots : Slots) → template ≡ b.template → slots ≡ b.slots
    → (let x : Bundle = record { template = template; slots = slots } in x) ≡ b
same_bundle b template slots t s = λ i. record { template = t i; slots = s i }

-- A template and three words, of a template's width and of a slot's.
abbrev pub parts : ℕ → List ℕ → RawBundle
parts template words = record { template = template; slots = words }

pub same_number : (raw : RawBundle) (template : ℕ) (words : List ℕ) → raw.template ≡ template → raw.slots ≡ words
    → bundle_number raw ≡ bundle_number (parts template words)
same_number raw template words t s = λ i. bundle_number (parts (t i) (s i))
