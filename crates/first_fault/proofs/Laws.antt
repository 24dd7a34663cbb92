-- What each list of stages gives.
use Rattle.std.proofs.Common.{◌≡◌, ◌⊎◌, inl, inr, List, [], ◌∷◌, refl, sym, ap, ◌∙◌}
use Rattle.first_fault.specs.Stages.{Stage, unless, IsFirstFault, ArePassed}

-- A stage finds at most one fault, and none where it is passed.
pub record IsSound {Fault : Type 0} (s : Stage Fault) : Type 0 where
  pub one : (a b : s.Key) → s.Finds a → s.Finds b → a ≡ b
  pub none : (a : s.Key) → s.Finds a → s.IsPassed → ⊥

abbrev pub AreSound : {Fault : Type 0} → List (Stage Fault) → Type 0
AreSound [] = Unit {0}
AreSound (s ∷ later) = IsSound s × AreSound later

pub unless_sound : {Fault : Type 0} (Holds : Type 0) (f : Fault) → IsSound (unless Holds f)
unless_sound Holds f = record { one = λ a b fails also. refl; none = λ a fails holds. fails holds }

-- There is at most one first fault.
pub one_fault : {Fault : Type 0} (stages : List (Stage Fault)) → AreSound stages → (f g : Fault) → IsFirstFault stages f
    → IsFirstFault stages g → f ≡ g
one_fault [] sound f g a b = absurd a
one_fault (s ∷ later) sound f g (inl a) (inl b) = a.1 ∙ ap s.fault (sound.0.one a.0 b.0 a.2 b.2) ∙ sym b.1
one_fault (s ∷ later) sound f g (inl a) (inr b) = absurd (sound.0.none a.0 a.2 b.0)
one_fault (s ∷ later) sound f g (inr a) (inl b) = absurd (sound.0.none b.0 b.2 a.0)
one_fault (s ∷ later) sound f g (inr a) (inr b) = one_fault later sound.1 f g a.1 b.1

-- There is none where every stage is passed.
pub no_fault : {Fault : Type 0} (stages : List (Stage Fault)) → AreSound stages → ArePassed stages → (f : Fault) → IsFirstFault stages f → ⊥
no_fault [] sound passed f a = a
no_fault (s ∷ later) sound passed f (inl a) = sound.0.none a.0 a.2 passed.0
no_fault (s ∷ later) sound passed f (inr a) = no_fault later sound.1 passed.1 f a.1

-- A stage finds a fault or is passed.
abbrev pub IsDecided : {Fault : Type 0} → Stage Fault → Type 0
IsDecided s = ((key : s.Key) × s.Finds key) ⊎ s.IsPassed

abbrev pub AreDecided : {Fault : Type 0} → List (Stage Fault) → Type 0
AreDecided [] = Unit {0}
AreDecided (s ∷ later) = IsDecided s × AreDecided later

-- Where each stage finds a fault or is passed, there is a first fault or every stage is passed.
pub some_fault : {Fault : Type 0} (stages : List (Stage Fault)) → AreDecided stages
    → ((f : Fault) × IsFirstFault stages f) ⊎ ArePassed stages
some_fault [] decided = inr tt
some_fault (s ∷ later) (inl found, others) = inl (s.fault found.0, inl (found.0, refl, found.1))
some_fault (s ∷ later) (inr passed, others) = elim (some_fault later others) [
  | inl (f, is) ↦ inl (f, inr (passed, is))
  | inr all ↦ inr (passed, all)
]

-- A stage isn't without a fault unless it is passed.
abbrev pub IsNotOpen : {Fault : Type 0} → Stage Fault → Type 0
IsNotOpen s = ((key : s.Key) → s.Finds key → ⊥) → (s.IsPassed → ⊥) → ⊥

-- What is known of stages that aren't without a fault, each where those before it are passed.
abbrev pub AreNotOpen : {Fault : Type 0} → List (Stage Fault) → Type 0
AreNotOpen [] = Unit {0}
AreNotOpen (s ∷ later) = IsNotOpen s × (s.IsPassed → AreNotOpen later)

pub unless_not_open : {Fault : Type 0} (Holds : Type 0) (f : Fault) → IsNotOpen (unless Holds f)
unless_not_open Holds f = λ none go. none tt go

-- Such stages aren't without a first fault unless every one is passed.
pub not_without : {Fault : Type 0} (stages : List (Stage Fault)) → AreNotOpen stages → ((f : Fault) → IsFirstFault stages f → ⊥)
    → (ArePassed stages → ⊥) → ⊥
not_without [] closed none go = go tt
not_without (s ∷ later) closed none go =
    closed.0
    (λ key finds. none (s.fault key) (inl (key, refl, finds)))
    (λ passed. not_without later (closed.1 passed) (λ f is. none f (inr (passed, is))) (λ others. go (passed, others)))
