-- The n-th instruction of the sequence and that of the program access the same, and a `nop` accesses nothing.
use Rattle.std.proofs.Common.{◌≡◌, ℕ, ◌<◌, Bool, false, ◌⊎◌, inl, inr, List, [], length, Option, Some, None, refl, sym, ap, ◌∙◌, subst}
use Rattle.std.specs.Prelude.{Contains, IsSome}
use Rattle.ia_insn.specs.declared.insn.Insn.{Insn}
use Rattle.ia_program.specs.declared.place.Place.{Place}
use Rattle.ia_program.specs.Places.{insn_at}
use Rattle.ia_program.specs.Programs.{Program}
use Rattle.ia_meaning.specs.Actions.{allocates}
use Rattle.ia_meaning.specs.Sequence.{first_of}
use Rattle.resource_sets.specs.declared.access.Resource.{Resource}
use Rattle.resource_sets.specs.declared.access.Access.{Access}
use Rattle.resource_sets.specs.declared.clashes.Rule.{Rule}
use Rattle.resource_sets.proofs.Members.{not_in_none}
use Rattle.flow_facts.specs.Graphs.{Graph, InsnSequence, over_program, over_sequence, sequence_insn}
use Rattle.flow_facts.specs.Walks.{Walk, end_of}
use Rattle.order_laws.specs.Excuses.{accesses_in, accesses_at, IsExcused}
use Rattle.order_laws.specs.Violations.{Clashes, ClashesUnexcused, clears_in, allocates_at, clears_at}
use Rattle.sequence_laws.specs.Spreads.{IsSpread}
use Rattle.sequence_laws.proofs.Rows.{IsNumbered, sequence_numbered}
use Rattle.sequence_laws.proofs.Fillers.{filler_accesses, filler_no_alloc, filler_no_clear}
use Rattle.sequence_laws.proofs.Between.{IsThere}

-- An instruction of the sequence and its place in the program access the same.
pub accesses_same : (sequence : InsnSequence) (p : Program) (at : ℕ → Place) (n : ℕ) → IsThere sequence p at n
    → accesses_at (over_sequence sequence) (first_of n) ≡ accesses_at (over_program p) (at n)
unfolding accesses_at
accesses_same sequence p at n t = ap accesses_in t.in_sequence ∙ t.like.accesses ∙ sym (ap accesses_in t.in_program)

-- An instruction of the sequence and its place in the program both hold an `alloc`, or none does.
pub allocates_same : (sequence : InsnSequence) (p : Program) (at : ℕ → Place) (n : ℕ) → IsThere sequence p at n
    → allocates_at (over_sequence sequence) (first_of n) ≡ allocates_at (over_program p) (at n)
unfolding allocates_at
allocates_same sequence p at n t = ap allocates t.in_sequence ∙ t.like.allocates ∙ sym (ap allocates t.in_program)

-- An instruction of the sequence and its place in the program both hold a `clrrrb`, or none does.
pub clears_same : (sequence : InsnSequence) (p : Program) (at : ℕ → Place) (n : ℕ) → IsThere sequence p at n
    → clears_at (over_sequence sequence) (first_of n) ≡ clears_at (over_program p) (at n)
unfolding clears_at
clears_same sequence p at n t = ap clears_in t.in_sequence ∙ t.like.clears ∙ sym (ap clears_in t.in_program)

-- The place is that of an instruction of the sequence.
pub record IsOwn (sequence : InsnSequence) (at : ℕ → Place) (place : Place) : Type 0 where
  pub number : ℕ
  pub inside : number < length sequence.insns
  pub is : place ≡ at number

-- A place of the program that has no instruction of the sequence accesses nothing, and holds no `alloc` and no `clrrrb`.
pub record IsIdle (p : Program) (place : Place) : Type 0 where
  pub accesses : accesses_at (over_program p) place ≡ []
  pub allocates : allocates_at (over_program p) place ≡ false
  pub clears : clears_at (over_program p) place ≡ false

pub own_or_idle : (sequence : InsnSequence) (p : Program) (at : ℕ → Place) (place : Place) → IsSpread sequence p at
    → IsOwn sequence at place ⊎ IsIdle p place
unfolding accesses_at allocates_at clears_at
own_or_idle sequence p at place spread = of (insn_at p.bundles place) refl
  where
    of : (o : Option Insn) → insn_at p.bundles place ≡ o → IsOwn sequence at place ⊎ IsIdle p place
    of None here = inr (record { accesses = ap accesses_in here; allocates = ap allocates here; clears = ap clears_in here })
    of (Some i) here = elim (spread.fillers place i here) [
      | inl (n, inside, is) ↦ inl (record { number = n; inside = inside; is = is })
      | inr nop ↦ inr (record {
        accesses = ap accesses_in here ∙ filler_accesses i nop;
        allocates = ap allocates here ∙ filler_no_alloc i nop;
        clears = ap clears_in here ∙ filler_no_clear i nop;
      })
    ]

-- A place of the program with an access is that of an instruction of the sequence.
pub accessing_own : (sequence : InsnSequence) (p : Program) (at : ℕ → Place) (place : Place) (a : Access) → IsSpread sequence p at
    → Contains (accesses_at (over_program p) place) a → IsOwn sequence at place
accessing_own sequence p at place a spread c = elim (own_or_idle sequence p at place spread) [
  | inl is ↦ is
  | inr idle ↦ absurd (not_in_none a (subst (λ (l : List Access). Contains l a) idle.accesses c))
]

-- A place that is none of the sequence accesses nothing.
pub numbered_or_idle : (sequence : InsnSequence) (place : Place)
    → IsNumbered sequence.insns place ⊎ (accesses_at (over_sequence sequence) place ≡ [])
unfolding accesses_at
numbered_or_idle sequence place = of (sequence_insn sequence.insns place) refl
  where
    of : (o : Option Insn) → sequence_insn sequence.insns place ≡ o
        → IsNumbered sequence.insns place ⊎ (accesses_in (sequence_insn sequence.insns place) ≡ [])
    of None here = inr (ap accesses_in here)
    of (Some i) here = inl (sequence_numbered sequence.insns place (subst IsSome (sym here) refl))

pub accessing_numbered : (sequence : InsnSequence) (place : Place) (a : Access) → Contains (accesses_at (over_sequence sequence) place) a
    → IsNumbered sequence.insns place
accessing_numbered sequence place a c = elim (numbered_or_idle sequence place) [
  | inl is ↦ is
  | inr none ↦ absurd (not_in_none a (subst (λ (l : List Access). Contains l a) none c))
]

-- Accesses that clash at two places clash at two others where the same is accessed.
pub clashes_along : (g h : Graph) (i j k l : Place) (rule : Rule) (q : Resource) → accesses_at g i ≡ accesses_at h k
    → accesses_at g j ≡ accesses_at h l → Clashes g i j rule q → Clashes h k l rule q
clashes_along g h i j k l rule q first second c = record {
  first = c.first;
  second = c.second;
  of_first = subst (λ (m : List Access). Contains m c.first) first c.of_first;
  of_second = subst (λ (m : List Access). Contains m c.second) second c.of_second;
  first_on = c.first_on;
  second_on = c.second_on;
  clash = c.clash;
}

-- Accesses that clash unexcused do so at two other places, where what excuses them there excuses them here.
pub unexcused_along : (g h : Graph) (stop other : Place → Bool) (w u : Walk) (i k : Place) (rule : Rule) (q : Resource)
    → accesses_at g i ≡ accesses_at h k → accesses_at g (end_of w) ≡ accesses_at h (end_of u)
    → ((first second : ℕ) → IsExcused h other u k first second → IsExcused g stop w i first second) → ClashesUnexcused g stop w i rule q
    → ClashesUnexcused h other u k rule q
unfolding clashes_along
unexcused_along g h stop other w u i k rule q first second excuses c = record {
  clashes = clashes_along g h i (end_of w) k (end_of u) rule q first second c.clashes;
  stays = λ x. c.stays (excuses c.clashes.first.guard c.clashes.second.guard x);
}
